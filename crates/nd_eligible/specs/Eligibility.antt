-- Which machines may build a derivation, after the rules of Nix for remote builds (Nix Reference
-- Manual, "Remote Builds": systems, supported and mandatory features of a builder).
-- Public clauses cite this.
use Rattle.std.specs.Prelude.{◌≡◌, ◌⊎◌, ◌↔◌, ℕ, ◌≤◌, IsTrue, List, ◌++◌, Contains, codes, IsSomeAnd, slice_get}
use Rattle.std.specs.List.Sorted.{IsStrictlyIncreasing}
use Rattle.nd_machines.specs.Builders.{Builder}
use Rattle.nd_eligible.specs.declared.need.Need.{Need}
use Rattle.nd_eligible.specs.Settings.{Settings}

-- each item of the first is in the second
pub record IsSubset (items others : List (List ℕ)) : Type 0 where
  pub each : (item : List ℕ) → Contains items item → Contains others item

-- a machine builds for the systems that it names, and every machine for the platform `builtin`
abbrev pub BuildsFor : Builder → List ℕ → Type 0
BuildsFor machine system = Contains machine.systems system ⊎ (system ≡ codes "builtin")

-- the machine may build the derivation: it runs builds at all (this project's own choice), it
-- builds for the platform, it has each feature that is required, and each feature that it demands
-- is required
pub record Eligible (machine : Builder) (need : Need) : Type 0 where
  pub jobs : 1 ≤ machine.jobs
  pub system : BuildsFor machine need.system
  pub required : IsSubset need.features (machine.supported ++ machine.mandatory)
  pub mandatory : IsSubset machine.mandatory need.features

-- the machine at a place of the list, from 0, may build the derivation
abbrev pub IsEligibleAt : List Builder → Need → ℕ → Type 0
IsEligibleAt machines need place = IsSomeAnd (slice_get machines place) (λ machine. Eligible machine need)

-- the places of the machines that may build the derivation, in rising order: these and no others
pub record AreEligible (machines : List Builder) (need : Need) (places : List ℕ) : Type 0 where
  pub rising : IsStrictlyIncreasing places
  pub exact : (place : ℕ) → Contains places place ↔ IsEligibleAt machines need place

-- the local machine builds for its own system and the extra platforms, and runs every builtin
-- derivation
abbrev pub BuildsLocally : Settings → Need → Type 0
BuildsLocally local need =
    (need.system ≡ local.system) ⊎ (Contains local.extra need.system ⊎ IsTrue need.builtin)

-- the local machine may build the derivation (one test for the preference for local builds and
-- for the hook: this project's own choice)
pub record LocalOk (local : Settings) (need : Need) : Type 0 where
  pub system : BuildsLocally local need
  pub required : IsSubset need.features local.features
