-- When starts, ends of builds and questions about copies are refused, and what they need before they are recorded.
-- The histories of these definitions stand newest first. Public clauses cite the refusals; the rest serves private ones.
use Rattle.std.specs.Prelude.{◌≡◌, ℕ, ◌+◌, ◌≤◌, true, false, List, length}
use Rattle.nd_ledger.specs.declared.refusal.Refusal.{Refusal}
use Rattle.nd_ledger.specs.declared.refusal.Refusal.TheVariants.{NotLive, AlreadyStarted, NotStarted, Uncovered, Extra, BadReferences, AlreadyStopped, Memory}
use Rattle.nd_provision.specs.declared.copying.Additions.{Additions}
use Rattle.nd_provision.specs.declared.copying.PathsError.{PathsError}
use Rattle.nd_provision.specs.declared.copying.PathsError.TheVariants.{Uncovered as Bare, Extra as Beside, Memory as NoMemory}
use Rattle.nd_history.specs.declared.entry.Entry.{Entry}
use Rattle.nd_leases.specs.declared.ticket.Ticket.{Ticket}
use Rattle.nd_history.specs.Books.{Recorded}
use Rattle.nd_history.specs.Premises.{Premises}
use Rattle.nd_history.specs.History.{live as leases, is_started}
use Rattle.nd_ledger.specs.Refusals.{IsLive}
use Rattle.nd_history.specs.References.{outputs_of, ArePathsRight, AreReferencesRight}
use Rattle.nd_provision.specs.Stored.{Stored, Fits, AreStartAdditions, AreBuiltAdditions, IsUncovered, IsExtra}

-- `started` is refused where the ticket isn't a live lease's, then where the lease was started, then where a path of the closure is
-- lacking, then where a copied path is outside it; memory is wanted only for a live lease that was not started
abbrev pub IsStartRefused : Premises → List Entry → Ticket → List (List ℕ) → Refusal → Type 0
IsStartRefused i past t paths NotLive = IsLive past t → ⊥
IsStartRefused i past t paths AlreadyStarted = IsLive past t × (is_started t.drv past ≡ true)
IsStartRefused i past t paths Uncovered = IsLive past t × (is_started t.drv past ≡ false) × IsUncovered i past t.drv t.machine paths
IsStartRefused i past t paths Extra = IsLive past t × (is_started t.drv past ≡ false) × IsExtra i past t.drv t.machine paths
IsStartRefused i past t paths Memory = IsLive past t × (is_started t.drv past ≡ false)
IsStartRefused i past t paths NotStarted = ⊥
IsStartRefused i past t paths BadReferences = ⊥
IsStartRefused i past t paths AlreadyStopped = ⊥

-- `built` is refused where the ticket isn't a live lease's, then where the lease was not started, then where the references aren't
-- right; memory is wanted only for a live lease that was started, with one list of references for each output
abbrev pub IsEndRefused : Premises → List Entry → Ticket → List (List (List ℕ)) → Refusal → Type 0
IsEndRefused i past t refs NotLive = IsLive past t → ⊥
IsEndRefused i past t refs NotStarted = IsLive past t × (is_started t.drv past ≡ false)
IsEndRefused i past t refs BadReferences = IsLive past t × (is_started t.drv past ≡ true) × (AreReferencesRight i past t.drv refs → ⊥)
IsEndRefused i past t refs Memory = IsLive past t × (is_started t.drv past ≡ true) × (length refs ≡ length (outputs_of i t.drv))
IsEndRefused i past t refs AlreadyStarted = ⊥
IsEndRefused i past t refs Uncovered = ⊥
IsEndRefused i past t refs Extra = ⊥
IsEndRefused i past t refs AlreadyStopped = ⊥

-- `missing` and `job` are refused where the ticket isn't a live lease's; memory is wanted only for one that is
abbrev pub IsJobRefused : List Entry → Ticket → Refusal → Type 0
IsJobRefused past t NotLive = IsLive past t → ⊥
IsJobRefused past t Memory = IsLive past t
IsJobRefused past t AlreadyStarted = ⊥
IsJobRefused past t NotStarted = ⊥
IsJobRefused past t Uncovered = ⊥
IsJobRefused past t Extra = ⊥
IsJobRefused past t BadReferences = ⊥
IsJobRefused past t AlreadyStopped = ⊥

-- the refusal of paths that aren't right
abbrev pub refusal_for : PathsError → Refusal
refusal_for Bare = Uncovered
refusal_for Beside = Extra
refusal_for NoMemory = Memory

-- a start that may be recorded, with all the memory that it takes
pub record IsReadyToStart (i : Premises) (past : List Entry) (t : Ticket) (paths : List (List ℕ)) (book : Recorded) (stores : Stored) (a : Additions) : Type 0 where
  pub live : IsLive past t
  pub fresh : is_started t.drv past ≡ false
  pub right : ArePathsRight i past t.drv t.machine paths
  pub room : length (leases past) + 2 ≤ book.room
  pub fits : Fits stores a
  pub adds : AreStartAdditions stores t.machine paths a

-- the end of a build that may be recorded, with all the memory that it takes
pub record IsReadyToEnd (i : Premises) (past : List Entry) (t : Ticket) (refs : List (List (List ℕ))) (stores : Stored) (a : Additions) : Type 0 where
  pub live : IsLive past t
  pub started : is_started t.drv past ≡ true
  pub right : AreReferencesRight i past t.drv refs
  pub fits : Fits stores a
  pub adds : AreBuiltAdditions i stores t.drv t.machine refs a
