-- The builders that may have a free slot: all others have none. The histories of these definitions stand newest first. Machine 0 is
-- the local one, and the builder at place p of the list is machine p + 1. Keeping them is this project's own choice.
-- Public clauses cite this.
use Rattle.std.specs.Prelude.{◌≡◌, ◌<◌, ◌+◌, ℕ, Bool, List, Option, MatchOption, length}
use Rattle.nd_machines.specs.Builders.{Builder}
use Rattle.nd_flags.specs.Members.{IsMember}
use Rattle.nd_choose.specs.Best.{IsFree}
use Rattle.nd_history.specs.declared.entry.Entry.{Entry}
use Rattle.nd_history.specs.Premises.{Premises}
use Rattle.nd_history.specs.Choices.{loads_of, ups_of}

-- each of these builders that is up and has a free slot is among them
pub record HoldVacant (machines : List Builder) (loads : List ℕ) (ups : List Bool) (vacant : List Bool) : Type 0 where
  pub sized : length vacant ≡ length machines
  pub each : (p : ℕ) → IsFree machines loads ups p → IsMember vacant p

-- each builder that is up and has a free slot after the history is
abbrev pub AreVacant : Premises → List Entry → List Bool → Type 0
AreVacant i past = HoldVacant i.machines (loads_of i past) (ups_of i past)

-- the first n of so many builders are among them
pub record AreVacantTo (builders n : ℕ) (vacant : List Bool) : Type 0 where
  pub sized : length vacant ≡ builders
  pub each : (p : ℕ) → p < n → IsMember vacant p

-- each of so many builders is among them
abbrev pub AreAllVacant : ℕ → List Bool → Type 0
AreAllVacant builders = AreVacantTo builders builders

-- the builder that this machine is, where one is named, is among them, and so is each that was
pub record HasOpened (machine : Option ℕ) (old new : List Bool) : Type 0 where
  pub sized : length new ≡ length old
  pub kept : (p : ℕ) → IsMember old p → IsMember new p
  pub opened : MatchOption machine (Unit {0}) (λ m. (p : ℕ) → m ≡ p + 1 → IsMember new p)
