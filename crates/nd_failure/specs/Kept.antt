-- What a board keeps beside its marks, so that no question is answered by a search.
-- No public clause cites this: it says what a type keeps, and serves private clauses.
use Rattle.std.specs.Prelude.{◌≡◌, ◌<◌, ◌⊎◌, ℕ, Bool, true, false, not, List, length, slice_index_or, Contains}
use Rattle.std.specs.List.{count_by}
use Rattle.nd_graph.specs.Walks.{inputs_of}
use Rattle.nd_flags.specs.Members.{IsMember}
use Rattle.nd_failure.specs.Progress.{mark_of, HasInputsBuilt, HasFailedBelow}
use Rattle.nd_failure.specs.declared.status.Mark.{Mark}
use Rattle.nd_failure.specs.declared.status.Mark.TheVariants.{Free, Leased, Built, Failed}

abbrev pub is_built : Mark → Bool
is_built Built = true
is_built Free = false
is_built Leased = false
is_built Failed = false

-- how many inputs of node d aren't built
abbrev pub unbuilt_of : List (List ℕ) → List Mark → ℕ → ℕ
unbuilt_of inputs marks d = count_by (λ c. not (is_built (mark_of marks c))) (inputs_of inputs d)

-- what is leased, built or failed had its inputs built
pub record AreSettled (inputs : List (List ℕ)) (marks : List Mark) : Type 0 where
  pub settled : (d : ℕ) → (mark_of marks d ≡ Free → ⊥) → HasInputsBuilt inputs marks d

-- the counters are the numbers of inputs that aren't built
pub record AreCounted (inputs : List (List ℕ)) (marks : List Mark) (unbuilt : List ℕ) : Type 0 where
  pub sized : length unbuilt ≡ length inputs
  pub counted : (d : ℕ) → slice_index_or unbuilt d 0 ≡ unbuilt_of inputs marks d

-- the flags are up exactly where a failed node is below
pub record AreDoomed (inputs : List (List ℕ)) (marks : List Mark) (doomed : List Bool) : Type 0 where
  pub sized : length doomed ≡ length inputs
  pub sound : (d : ℕ) → IsMember doomed d → HasFailedBelow inputs marks d
  pub complete : (d : ℕ) → HasFailedBelow inputs marks d → IsMember doomed d

-- the set has exactly the free nodes whose inputs are all built
pub record AreReady (marks : List Mark) (unbuilt : List ℕ) (ready : List Bool) : Type 0 where
  pub sized : length ready ≡ length marks
  pub sound : (d : ℕ) → IsMember ready d → (mark_of marks d ≡ Free) × (slice_index_or unbuilt d 0 ≡ 0)
  pub complete : (d : ℕ) → d < length marks → mark_of marks d ≡ Free → slice_index_or unbuilt d 0 ≡ 0 → IsMember ready d

-- beside the old members the set has those of these nodes whose counters are 0
pub record AreWoken (nodes unbuilt : List ℕ) (old new : List Bool) : Type 0 where
  pub sized : length new ≡ length old
  pub still : (d : ℕ) → IsMember old d → IsMember new d
  pub woken : (d : ℕ) → Contains nodes d → slice_index_or unbuilt d 0 ≡ 0 → IsMember new d
  pub sound : (d : ℕ) → IsMember new d → IsMember old d ⊎ (Contains nodes d × (slice_index_or unbuilt d 0 ≡ 0))

-- the set has exactly the nodes among the first n whose counters are 0
pub record AreZeroTo (n : ℕ) (unbuilt : List ℕ) (flags : List Bool) : Type 0 where
  pub sized : length flags ≡ length unbuilt
  pub sound : (d : ℕ) → IsMember flags d → slice_index_or unbuilt d 0 ≡ 0
  pub complete : (d : ℕ) → d < n → slice_index_or unbuilt d 0 ≡ 0 → IsMember flags d

-- the set has exactly the nodes whose counters are 0
abbrev pub AreZero : List ℕ → List Bool → Type 0
AreZero unbuilt flags = AreZeroTo (length unbuilt) unbuilt flags
