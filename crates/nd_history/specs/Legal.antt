-- Legal histories: each entry is allowed after those before it. The histories of these definitions stand newest first.
-- The rules of leases are this project's own choice.
-- Public clauses cite this.
use Rattle.std.specs.Prelude.{◌≡◌, ℕ, zero, suc, ◌<◌, true, false, List, [], ◌∷◌, Some}
use Rattle.nd_hook.specs.declared.kinds.Decision.TheVariants.{Local, NoBuilder as NobodyBuilds}
use Rattle.nd_history.specs.declared.entry.Entry.{Entry}
use Rattle.nd_history.specs.declared.entry.Entry.TheVariants.{Chosen, NoBuilder, Started, Down, Built, Failed, Stop, Drain, Enable}
use Rattle.nd_leases.specs.declared.ticket.Ticket.{Ticket}
use Rattle.nd_history.specs.Premises.{Premises}
use Rattle.nd_history.specs.History.{is_leased, lease_of, is_started, is_taken, has_stop}
use Rattle.nd_history.specs.Standing.{drvs_in, IsReady}
use Rattle.nd_history.specs.Choices.{machines_in, jobs_of, HasDecision, IsRemote, IsBestFor}
use Rattle.nd_history.specs.References.{ArePathsRight, AreReferencesRight}

-- each derivation, machine and slot that the entry names is there
abbrev pub IsInRange : Premises → Entry → Type 0
IsInRange i (Chosen d m s) = (d < drvs_in i) × (m < machines_in i) × (s < jobs_of i m)
IsInRange i (NoBuilder d) = d < drvs_in i
IsInRange i (Started d paths) = d < drvs_in i
IsInRange i (Down d) = d < drvs_in i
IsInRange i (Built d refs) = d < drvs_in i
IsInRange i (Failed d why) = d < drvs_in i
IsInRange i Stop = Unit {0}
IsInRange i (Drain m) = m < machines_in i
IsInRange i (Enable m) = m < machines_in i

-- machine m is decided on for derivation d: the local one where that is the decision; a builder where one is decided on,
-- and this is the best
abbrev pub IsPlaceFor : Premises → List Entry → ℕ → ℕ → Type 0
IsPlaceFor i past d zero = HasDecision i past d Local
IsPlaceFor i past d (suc p) = IsRemote i past d × IsBestFor i past d p

-- s is the least slot of machine m in no live lease
pub record IsLeastFree (past : List Entry) (m s : ℕ) : Type 0 where
  pub free : is_taken m s past ≡ false
  pub least : (k : ℕ) → k < s → is_taken m k past ≡ true

pub record MayChoose (i : Premises) (past : List Entry) (d m s : ℕ) : Type 0 where
  pub ready : IsReady i past d
  pub place : IsPlaceFor i past d m
  pub slot : IsLeastFree past m s

pub record MayGiveUp (i : Premises) (past : List Entry) (d : ℕ) : Type 0 where
  pub ready : IsReady i past d
  pub nobody : HasDecision i past d NobodyBuilds

-- the lease of d is live and not started, and the copied paths lie in d's closure, which lies in what the lease's machine
-- holds together with them
pub record MayStart (i : Premises) (past : List Entry) (d : ℕ) (paths : List (List ℕ)) : Type 0 where
  pub ticket : Ticket
  pub live : lease_of d past ≡ Some ticket
  pub fresh : is_started d past ≡ false
  pub right : ArePathsRight i past d ticket.machine paths

pub record MayGiveBack (past : List Entry) (d : ℕ) : Type 0 where
  pub live : is_leased d past ≡ true
  pub fresh : is_started d past ≡ false

-- the lease of d is live and started, there is one list of references per output, and each reference lies in d's closure
-- or is an output of d
pub record MayEnd (i : Premises) (past : List Entry) (d : ℕ) (refs : List (List (List ℕ))) : Type 0 where
  pub live : is_leased d past ≡ true
  pub started : is_started d past ≡ true
  pub right : AreReferencesRight i past d refs

-- the entry may come after this history, what it names being in range
abbrev pub MayCome : Premises → Entry → List Entry → Type 0
MayCome i (Chosen d m s) past = MayChoose i past d m s
MayCome i (NoBuilder d) past = MayGiveUp i past d
MayCome i (Started d paths) past = MayStart i past d paths
MayCome i (Down d) past = MayGiveBack past d
MayCome i (Built d refs) past = MayEnd i past d refs
MayCome i (Failed d why) past = is_leased d past ≡ true
MayCome i Stop past = has_stop past ≡ false
MayCome i (Drain m) past = Unit {0}
MayCome i (Enable m) past = Unit {0}

-- the entry is allowed after this history
pub record IsAllowed (i : Premises) (e : Entry) (past : List Entry) : Type 0 where
  pub ranged : IsInRange i e
  pub may : MayCome i e past

-- each entry is allowed after those before it
abbrev pub IsLegal : Premises → List Entry → Type 0
IsLegal i [] = Unit {0}
IsLegal i (e ∷ past) = IsAllowed i e past × IsLegal i past
