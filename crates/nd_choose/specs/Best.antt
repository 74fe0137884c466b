-- The best machine for a derivation, among the machines of a list with their taken slots and
-- whether each is up. A machine is named by its place in the list, from 0.
-- Public clauses cite this.
use Rattle.std.specs.Prelude.{◌≡◌, ◌≢◌, ◌⊎◌, ℕ, ◌<◌, Bool, true, false, List, slice_get, slice_index, unwrap_or, Option, None, Some}
use Rattle.std.specs.Option.{option_map_or}
use Rattle.nd_machines.specs.Builders.{Builder}
use Rattle.nd_choose.specs.Order.{IsAsLight, Beats}

-- how many builds may run at once on a machine (past the end of the list: none)
abbrev pub jobs_at : List Builder → ℕ → ℕ
jobs_at machines place = option_map_or (λ machine. machine.jobs) (slice_get machines place) 0

-- the speed factor of a machine in millionths (past the end of the list: 0)
abbrev pub speed_at : List Builder → ℕ → ℕ
speed_at machines place = option_map_or (λ machine. machine.speed) (slice_get machines place) 0

-- the number of taken slots of a machine
abbrev pub load_at : List ℕ → ℕ → ℕ
load_at = slice_index

-- whether a machine is up
abbrev pub is_up_at : List Bool → ℕ → Bool
is_up_at ups place = unwrap_or (slice_get ups place) false

-- the machine is up and has a free slot
pub record IsFree (machines : List Builder) (loads : List ℕ) (ups : List Bool) (place : ℕ) : Type 0 where
  pub up : is_up_at ups place ≡ true
  pub slot : load_at loads place < jobs_at machines place

-- the machine is one of those that are meant, such as the eligible ones, and it is free
pub record IsCandidate (machines : List Builder) (loads : List ℕ) (ups : List Bool) (IsMeant : ℕ → Type 0) (place : ℕ) : Type 0 where
  pub meant : IsMeant place
  pub free : IsFree machines loads ups place

-- the choice's order, with the place in the list for equal loads per speed and equal speeds
abbrev pub ComesBefore : List Builder → List ℕ → ℕ → ℕ → Type 0
ComesBefore machines loads one other =
    Beats (load_at loads one) (speed_at machines one) (load_at loads other) (speed_at machines other)
    ⊎ (IsAsLight (load_at loads one) (speed_at machines one) (load_at loads other) (speed_at machines other)
    × (speed_at machines one ≡ speed_at machines other)
    × (one < other))

-- a candidate that comes before every other one
pub record IsBest (machines : List Builder) (loads : List ℕ) (ups : List Bool) (IsMeant : ℕ → Type 0) (place : ℕ) : Type 0 where
  pub candidate : IsCandidate machines loads ups IsMeant place
  pub first : (other : ℕ) → IsCandidate machines loads ups IsMeant other → other ≢ place → ComesBefore machines loads place other

-- the best machine, or none where there is no candidate
abbrev pub IsChoice : List Builder → List ℕ → List Bool → (ℕ → Type 0) → Option ℕ → Type 0
IsChoice machines loads ups IsMeant None = (place : ℕ) → IsCandidate machines loads ups IsMeant place → ⊥
IsChoice machines loads ups IsMeant (Some place) = IsBest machines loads ups IsMeant place
