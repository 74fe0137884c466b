-- Needs with the same platform and the same required features have the same eligible machines.
-- No public clause cites this: it serves private clauses and proofs alone.
use Rattle.std.specs.Prelude.{◌≡◌, ℕ, ◌<◌, List, [], length, Some}
use Rattle.std.specs.Borrow.{Bor}
use Rattle.std.specs.List.{slice_index_or}
use Rattle.std.specs.Ordering.{ordering_then}
use Rattle.std.specs.BTreeMap.{get_by, BTreeMap}
use Rattle.std.specs.declared.cmp.Ordering.{Ordering}
use Rattle.nd_bytes.specs.Compared.{bytes_cmp}
use Rattle.nd_machines.specs.Builders.{Builder}
use Rattle.nd_machines.specs.FeatureSets.{sets_cmp}
use Rattle.nd_eligible.specs.declared.need.Need.{Need}
use Rattle.nd_eligible.specs.Eligibility.{AreEligible}

-- a platform and the required features, as they are referred to
abbrev pub Kind : Type 0
Kind = Bor (List ℕ) × Bor (List (List ℕ))

-- a need against a kind: by platform, then by features
abbrev pub compare_kind : Need → Kind → Ordering
compare_kind need kind = ordering_then (bytes_cmp need.system kind.0.now) (sets_cmp need.features kind.1.now)

-- one kind against another, in the same way
abbrev pub kind_cmp : Kind → Kind → Ordering
kind_cmp one other = ordering_then (bytes_cmp one.0.now other.0.now) (sets_cmp one.1.now other.1.now)

-- the list with this number has the machines that are eligible for the need
pub record IsClass (machines : List Builder) (lists : List (List ℕ)) (need : Need) (number : ℕ) : Type 0 where
  pub within : number < length lists
  pub eligible : AreEligible machines need (slice_index_or lists number [])

-- the number that is known for a need's kind is that of its list
pub record AreKnown (machines : List Builder) (known : BTreeMap Kind ℕ) (lists : List (List ℕ)) : Type 0 where
  pub each : (need : Need) (number : ℕ) → get_by (compare_kind need) known ≡ Some number → IsClass machines lists need number
