-- Entries that are judged by the rules which take no memory, once they were gone through. The histories of these definitions stand
-- newest first, but `entries` oldest first. Public clauses cite `IsNotAdmitted`; the rest serves private ones.
use Rattle.std.specs.Prelude.{◌≡◌, ◌⊎◌, ℕ, ◌+◌, List, [], ◌∷◌, ◌++◌, length, reverse, Result, MatchResult}
use Rattle.std.specs.Vec.Iter.{into_iter_items}
use Rattle.nd_history.specs.declared.entry.Entry.{Entry}
use Rattle.nd_history.specs.declared.inputs.Inputs.{Inputs}
use Rattle.nd_history.specs.declared.rule.Rule.{Rule}
use Rattle.nd_history.specs.Premises.{Premises, premises_of}
use Rattle.nd_history.specs.Legal.{IsLegal}
use Rattle.nd_history.specs.Audit.{IsFirstRule}
use Rattle.nd_ledger.specs.Admitting.{PassesFreely, IsAdmitRefused}
use Rattle.nd_audit.specs.Ahead.{AreCleared, IsHeldUp, IsEnd, IsSizedFor, IsKeptAfter, IsNext}
use Rattle.nd_ledger.specs.Followed.{IsFollowed}
use Rattle.nd_audit.specs.declared.ahead.Ahead.{Ahead}
use Rattle.nd_audit.specs.declared.ahead.Batch.{Batch}
use Rattle.nd_audit.specs.declared.ahead.End.{End}
use Rattle.nd_audit.specs.declared.ahead.End.TheVariants.{More, Last, Stopped}
use Rattle.nd_audit.specs.declared.judging.Unadmitted.{Unadmitted}
use Rattle.nd_ledger.specs.declared.refusal.AdmitError.TheVariants.{Memory}
use Rattle.nd_audit.specs.declared.side_by_side.UnderWay.{UnderWay}
use Rattle.nd_ledger.specs.declared.state.State.{State}

-- a test of the entry says that no rule that takes no memory refuses it, or names the first rule that refuses it
abbrev pub IsFreelyJudged : {T : Type 0} → Premises → List Entry → Entry → Result T Rule → Type 0
IsFreelyJudged i past e answer = MatchResult answer (λ _. PassesFreely i past e) (IsFirstRule i past e)

-- the entry at this place is the first that isn't admitted, and this is why
pub record IsUnadmitted (i : Premises) (entries : List Entry) (u : Unadmitted) : Type 0 where
  pub before : List Entry
  pub entry : Entry
  pub after : List Entry
  pub whole : entries ≡ before ++ entry ∷ after
  pub place : u.index ≡ length before
  pub legal : IsLegal i (reverse before)
  pub refused : IsAdmitRefused i (reverse before) entry u.error

-- .. or an allocation was refused, wherever that was
abbrev pub IsNotAdmitted : Premises → List Entry → Unadmitted → Type 0
IsNotAdmitted i entries u = IsUnadmitted i entries u ⊎ (u.error ≡ Memory)

-- what was gone through behind a history waits to be judged
abbrev pub IsHeldEnd : Premises → List Entry → End → Type 0
IsHeldEnd i past More = Unit {0}
IsHeldEnd i past Last = Unit {0}
IsHeldEnd i past (Stopped e error) = IsHeldUp i past e error

pub record AwaitsJudge (i : Premises) (past : List Entry) (batch : Batch) : Type 0 where
  pub cleared : AreCleared i past batch.entries.items
  pub held : IsHeldEnd i (reverse batch.entries.items ++ past) batch.end

-- the entries of the batch were recorded
pub record AreRecorded (old : State) (batch : Batch) (new : State) : Type 0 where
  pub entries : new.book.entries ≡ old.book.entries ++ batch.entries.items

-- no entry of the batch was held up
abbrev pub IsFree : End → Type 0
IsFree More = Unit {0}
IsFree Last = Unit {0}
IsFree (Stopped e error) = ⊥

-- an entry of the batch, or the one that was held up, is the first that isn't admitted, whatever follows
pub record IsRefusedIn (i : Premises) (done : List Entry) (batch : Batch) (u : Unadmitted) : Type 0 where
  pub tells : (rest after : List Entry) → IsEnd i (reverse batch.entries.items ++ reverse done) rest after batch.end
      → IsUnadmitted i (done ++ batch.entries.items ++ rest) u

-- ---- an audit by two threads

-- the first batch of these entries was gone through, and these are left
pub record IsBegun (i : Premises) (entries : List Entry) (ahead : Ahead) (left : List Entry) (batch : Batch) : Type 0 where
  pub first : Ahead
  pub kept : IsKeptAfter i [] first
  pub sized : IsSizedFor i ahead
  pub next : IsNext i first ahead entries left batch

-- of these entries some are recorded, and the next ones were gone through, behind which these are left
pub record IsUnderWay (inputs : Inputs) (entries : List Entry) (ahead : Ahead) (left : List Entry) (s : State) (batch : Batch) : Type 0 where
  pub followed : IsFollowed inputs s
  pub sized : IsSizedFor (premises_of inputs) ahead
  pub kept : IsKeptAfter (premises_of inputs) (reverse batch.entries.items ++ reverse s.book.entries) ahead
  pub cleared : AreCleared (premises_of inputs) (reverse s.book.entries) batch.entries.items
  pub rest : List Entry
  pub whole : entries ≡ s.book.entries ++ batch.entries.items ++ rest
  pub ended : IsEnd (premises_of inputs) (reverse batch.entries.items ++ reverse s.book.entries) rest left batch.end

abbrev pub IsAuditOf : Inputs → List Entry → UnderWay → Type 0
IsAuditOf inputs entries w = IsUnderWay inputs entries w.ahead (into_iter_items w.left) w.state w.batch

pub record IsSomeAudit (inputs : Inputs) (w : UnderWay) : Type 0 where
  pub entries : List Entry
  pub audit : IsAuditOf inputs entries w

-- the batch was judged and the next one was gone through, of whatever entries it is the audit
pub record HasStepped (inputs : Inputs) (old new : UnderWay) : Type 0 where
  pub tells : (entries : List Entry) → IsAuditOf inputs entries old → IsAuditOf inputs entries new

pub record IsRefusedFor (inputs : Inputs) (old : UnderWay) (u : Unadmitted) : Type 0 where
  pub tells : (entries : List Entry) → IsAuditOf inputs entries old → IsNotAdmitted (premises_of inputs) entries u

-- all was judged
pub record IsDoneWith (inputs : Inputs) (old : UnderWay) : Type 0 where
  pub tells : (entries : List Entry) → IsAuditOf inputs entries old → IsLegal (premises_of inputs) (reverse entries)

-- how much is to be done: the entries that are left, and whether another batch may follow
abbrev pub batches_behind : End → ℕ
batches_behind More = 1
batches_behind Last = 0
batches_behind (Stopped e error) = 0

abbrev pub work_left : UnderWay → ℕ
work_left w = length (into_iter_items w.left) + batches_behind w.batch.end
