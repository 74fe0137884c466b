-- The choice among given places against the choice among the whole list.
-- Public clauses cite this.
use Rattle.std.specs.Prelude.{◌≡◌, ℕ, Bool, List, Contains, Option}
use Rattle.nd_machines.specs.Builders.{Builder}
use Rattle.nd_eligible.specs.declared.need.Need.{Need}
use Rattle.nd_eligible.specs.Eligibility.{IsEligibleAt, AreEligible}
use Rattle.nd_choose.specs.Best.{IsChoice}

-- among the places of the machines that are eligible for a need, the choice is the one for that
-- need among all machines
abbrev pub SameChoice : Type 0
SameChoice = (machines : List Builder) (loads : List ℕ) (ups : List Bool) (need : Need) (places : List ℕ)
    → AreEligible machines need places
    → (among whole : Option ℕ)
    → IsChoice machines loads ups (Contains places) among
    → IsChoice machines loads ups (IsEligibleAt machines need) whole
    → among ≡ whole
