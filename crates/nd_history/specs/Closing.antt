-- What holds of references, closures and holdings over every legal history. The histories of these statements stand newest first.
-- Public clauses cite this.
use Rattle.std.specs.Prelude.{◌≡◌, ℕ, ◌↔◌, ◌⊎◌, List, ◌∷◌, ◌++◌, Some}
use Rattle.nd_history.specs.declared.entry.Entry.{Entry}
use Rattle.nd_history.specs.declared.entry.Entry.TheVariants.{Started, Built}
use Rattle.nd_leases.specs.declared.ticket.Ticket.{Ticket}
use Rattle.nd_history.specs.Premises.{Premises}
use Rattle.nd_history.specs.History.{lease_of}
use Rattle.nd_history.specs.Standing.{AreInputsBuilt}
use Rattle.nd_history.specs.Legal.{IsLegal}
use Rattle.nd_history.specs.References.{IsInClosure, IsHeld, IsOutputOf}

-- once the inputs of d are built, the closure of d is the same in every legal extension of the history
pub record ClosureStays : Type 0 where
  pub stays : (i : Premises) (later past : List Entry) (d : ℕ) → IsLegal i (later ++ past) → AreInputsBuilt i past d → (p : List ℕ) → IsInClosure i (later ++ past) d p ↔ IsInClosure i past d p

-- whatever is built, and wherever, the local machine holds the outputs beside what it held before, and nothing else: what the build
-- refers to lies there already
pub record OutputsAlone : Type 0 where
  pub adds : (i : Premises) (past : List Entry) (d : ℕ) (refs : List (List (List ℕ))) → IsLegal i (Built d refs ∷ past) → (p : List ℕ) → IsHeld i (Built d refs ∷ past) 0 p ↔ IsHeld i past 0 p ⊎ IsOutputOf i d p

-- each build that started has its input closure on its machine, from its start on
pub record StartsAreProvisioned (i : Premises) (past : List Entry) : Type 0 where
  pub each : (later before : List Entry) (d : ℕ) (paths : List (List ℕ)) → past ≡ later ++ Started d paths ∷ before
      → (ticket : Ticket) × (lease_of d before ≡ Some ticket) × ((p : List ℕ) → IsInClosure i past d p → IsHeld i past ticket.machine p)
