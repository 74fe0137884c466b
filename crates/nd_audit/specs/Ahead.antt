-- Entries that are gone through before they are judged, with what is kept of references and holdings alone.
-- The histories of these definitions stand newest first. No public clause cites this: it serves private ones.
use Rattle.std.specs.Prelude.{◌≡◌, ℕ, ◌<◌, List, [], ◌∷◌, ◌++◌, length, reverse, slice_get, Some}
use Rattle.nd_graph.specs.Graphs.{IsSound}
use Rattle.nd_history.specs.declared.entry.Entry.{Entry}
use Rattle.nd_leases.specs.declared.ticket.Ticket.{Ticket}
use Rattle.nd_history.specs.Premises.{Premises}
use Rattle.nd_history.specs.History.{lease_of}
use Rattle.nd_history.specs.Choices.{machines_in}
use Rattle.nd_history.specs.Legal.{IsAllowed, IsLegal}
use Rattle.nd_provision.specs.Stored.{Stored, AreStored}
use Rattle.nd_ledger.specs.Admitting.{PassesFreely, IsAdmitRefused}
use Rattle.nd_ledger.specs.declared.refusal.AdmitError.{AdmitError}
use Rattle.nd_audit.specs.declared.ahead.Ahead.{Ahead}
use Rattle.nd_audit.specs.declared.ahead.End.{End}
use Rattle.nd_audit.specs.declared.ahead.End.TheVariants.{More, Last, Stopped}
use Rattle.nd_audit.specs.declared.ahead.Batch.{Batch}

-- what is kept fits the inputs in its sizes
pub record IsSizedFor (i : Premises) (a : Ahead) : Type 0 where
  pub sound : IsSound i.graph
  pub drvs : length a.machines.items ≡ length i.graph.paths
  pub park : length a.stores.stocks ≡ machines_in i
  pub there : (d m : ℕ) → slice_get a.machines.items d ≡ Some m → m < machines_in i

-- each lease is on the machine that is kept for its derivation
pub record AreOn (past : List Entry) (machines : List ℕ) : Type 0 where
  pub each : (d : ℕ) (t : Ticket) → lease_of d past ≡ Some t → slice_get machines d ≡ Some t.machine

-- this is kept after a history, where that is legal
pub record IsKeptAfter (i : Premises) (past : List Entry) (a : Ahead) : Type 0 where
  pub stored : IsLegal i past → AreStored i past a.stores
  pub machines : IsLegal i past → AreOn past a.machines.items

-- there is something that says what is referred to and held after a history
pub record IsStoredSomehow (i : Premises) (past : List Entry) : Type 0 where
  pub stores : Stored
  pub stored : AreStored i past stores

-- where the rules that take no memory let an entry pass behind a legal history, all of them do; and so does something follow it
pub record IsCleared (i : Premises) (past : List Entry) (e : Entry) : Type 0 where
  pub allowed : IsLegal i past → PassesFreely i past e → IsAllowed i e past
  pub stored : IsLegal i (e ∷ past) → IsStoredSomehow i (e ∷ past)

abbrev pub AreCleared : Premises → List Entry → List Entry → Type 0
AreCleared i past [] = Unit {0}
AreCleared i past (e ∷ entries) = IsCleared i past e × AreCleared i (e ∷ past) entries

-- one entry was gone through, and entries were, whatever they stand behind
pub record HasCleared (i : Premises) (old new : Ahead) (e : Entry) : Type 0 where
  pub tells : (past : List Entry) → IsKeptAfter i past old → IsCleared i past e × IsKeptAfter i (e ∷ past) new

pub record HaveCleared (i : Premises) (old new : Ahead) (entries : List Entry) : Type 0 where
  pub tells : (past : List Entry) → IsKeptAfter i past old → AreCleared i past entries × IsKeptAfter i (reverse entries ++ past) new

-- what was kept after a history still is
pub record HasStayed (i : Premises) (old new : Ahead) : Type 0 where
  pub tells : (past : List Entry) → IsKeptAfter i past old → IsKeptAfter i past new

-- an entry that the rules which take no memory let pass is refused with this all the same
pub record IsHeldUp (i : Premises) (past : List Entry) (e : Entry) (error : AdmitError) : Type 0 where
  pub refused : IsLegal i past → PassesFreely i past e → IsAdmitRefused i past e error

pub record HasHeldUp (i : Premises) (old : Ahead) (e : Entry) (error : AdmitError) : Type 0 where
  pub tells : (past : List Entry) → IsKeptAfter i past old → IsHeldUp i past e error

-- how a batch ends behind a history: of the entries that are left these are left behind it
abbrev pub IsEnd : Premises → List Entry → List Entry → List Entry → End → Type 0
IsEnd i past left after More = left ≡ after
IsEnd i past left after Last = (left ≡ []) × (after ≡ [])
IsEnd i past left after (Stopped e error) = (left ≡ e ∷ after) × IsHeldUp i past e error

-- the next batch of the entries that are left
pub record IsNext (i : Premises) (old new : Ahead) (left after : List Entry) (batch : Batch) : Type 0 where
  pub rest : List Entry
  pub whole : left ≡ batch.entries.items ++ rest
  pub cleared : HaveCleared i old new batch.entries.items
  pub ended : (past : List Entry) → IsKeptAfter i past old → IsEnd i (reverse batch.entries.items ++ past) rest after batch.end
  -- where others may follow, there are some
  pub some : batch.end ≡ More → 0 < length batch.entries.items
