-- How the free builders among some places are found.
-- No public clause cites this: it serves private clauses alone.
use Rattle.std.specs.Prelude.{◌≡◌, ◌⊎◌, ◌<◌, ◌≤◌, ◌++◌, ◌∷◌, [], ℕ, Bool, List, Contains, Option, None, Some}
use Rattle.std.specs.List.Sorted.{IsStrictlyIncreasing}
use Rattle.nd_machines.specs.Builders.{Builder}
use Rattle.nd_flags.specs.Members.{IsMember, IsLeastFrom}
use Rattle.nd_choose.specs.Best.{IsFree}
use Rattle.nd_hook.specs.Few.{HoldFree}
use Rattle.nd_kinds.specs.declared.kind.Kind.{Kind}
use Rattle.nd_history.specs.declared.entry.Entry.{Entry}
use Rattle.nd_history.specs.Premises.{Premises}
use Rattle.nd_history.specs.Choices.{loads_of, ups_of}
use Rattle.nd_pump.specs.Vacancies.{HoldVacant}

-- none of these places stands before this one
pub record AreFrom (places : List ℕ) (from : ℕ) : Type 0 where
  pub each : (p : ℕ) → Contains places p → from ≤ p

-- .. and none behind this one
pub record AreUpTo (places : List ℕ) (last : ℕ) : Type 0 where
  pub each : (p : ℕ) → Contains places p → p ≤ last

-- the least member that is not before `from`, or none where there is no such member up to `last`
abbrev pub IsFirstUpTo : List Bool → ℕ → ℕ → Option ℕ → Type 0
IsFirstUpTo flags from last None = (k : ℕ) → from ≤ k → k ≤ last → IsMember flags k → ⊥
IsFirstUpTo flags from last (Some i) = IsLeastFrom flags from i

-- a place was looked at: it joined the few where it is among the places, or its builder has no free slot, or it isn't among them
abbrev pub HasLooked : List Builder → List ℕ → List Bool → List ℕ → ℕ → List ℕ → List ℕ → Type 0
HasLooked machines loads ups among place old new =
    ((new ≡ old) × (Contains among place → IsFree machines loads ups place → ⊥))
    ⊎ ((new ≡ old ++ place ∷ []) × Contains among place)

-- the places before one were looked at
pub record AreLooked (machines : List Builder) (loads : List ℕ) (ups : List Bool) (among : List ℕ) (flags : List Bool) (from : ℕ) (few : List ℕ) : Type 0 where
  pub vacant : HoldVacant machines loads ups flags
  pub rising : IsStrictlyIncreasing few
  pub before : (p : ℕ) → Contains few p → p < from
  pub some : (p : ℕ) → Contains few p → Contains among p
  pub free : (p : ℕ) → p < from → Contains among p → IsFree machines loads ups p → Contains few p

-- the few are some of the kind's places, and each of these whose builder is free after the history is one of them
abbrev pub HoldFreeOf : Premises → List Entry → Kind → List ℕ → Type 0
HoldFreeOf i past kind = HoldFree i.machines (loads_of i past) (ups_of i past) kind.places
