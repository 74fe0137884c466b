-- The kinds of derivations: derivations of one kind have the same eligible machines, the same answer of the local test and the same
-- preference for the local machine, and so get the same decisions. Kinds are this project's own choice.
-- Machine 0 is the local one, and the machine at place p of the builders list is machine p + 1.
-- Public clauses cite this.
use Rattle.std.specs.Prelude.{◌≡◌, ◌<◌, ◌+◌, ◌↔◌, ℕ, zero, suc, true, IsTrue, List, [], Contains, Some, length, slice_get, slice_index_or}
use Rattle.nd_machines.specs.Builders.{Builder}
use Rattle.nd_eligible.specs.declared.need.Need.{Need}
use Rattle.nd_eligible.specs.Settings.{Settings}
use Rattle.nd_eligible.specs.Eligibility.{AreEligible, LocalOk}
use Rattle.nd_kinds.specs.declared.kind.Kind.{Kind}

-- the kind of a derivation with this need
pub record IsKindOf (machines : List Builder) (home : Settings) (need : Need) (kind : Kind) : Type 0 where
  pub eligible : AreEligible machines need kind.places
  pub prefers : kind.prefer_local ≡ need.prefer_local
  pub local : IsTrue kind.local ↔ LocalOk home need

-- a derivation of this kind may be built on machine m
abbrev pub MayUse : Kind → ℕ → Type 0
MayUse kind zero = kind.local ≡ true
MayUse kind (suc p) = Contains kind.places p

-- the kinds of the derivations
pub record Kinded : Type 0 where
  -- the number of each derivation's kind
  pub numbers : List ℕ
  -- the kinds by their numbers
  pub kinds : List Kind
  -- for each machine the numbers of the kinds that may use it
  pub users : List (List ℕ)

-- the number of derivation d's kind
abbrev pub number_of : Kinded → ℕ → ℕ
number_of k d = slice_index_or k.numbers d 0

-- the kinds that may use machine m
abbrev pub users_of : Kinded → ℕ → List ℕ
users_of k m = slice_index_or k.users m []

-- derivation d, which has this need, has its kind
pub record HasKind (machines : List Builder) (local : Settings) (k : Kinded) (d : ℕ) (need : Need) : Type 0 where
  pub kind : Kind
  pub at : slice_get k.kinds (number_of k d) ≡ Some kind
  pub fits : IsKindOf machines local need kind

-- the first n derivations have their kinds
pub record HaveKinds (machines : List Builder) (local : Settings) (needs : List Need) (n : ℕ) (k : Kinded) : Type 0 where
  pub each : (d : ℕ) (need : Need) → d < n → slice_get needs d ≡ Some need → HasKind machines local k d need

-- each kind stands with each machine that it may use
pub record AreUsers (k : Kinded) : Type 0 where
  pub each : (n : ℕ) (kind : Kind) → slice_get k.kinds n ≡ Some kind → (m : ℕ) → MayUse kind m → Contains (users_of k m) n

-- the kinds of these derivations
pub record AreKinds (machines : List Builder) (local : Settings) (needs : List Need) (k : Kinded) : Type 0 where
  pub sized : length k.numbers ≡ length needs
  pub kinds : HaveKinds machines local needs (length needs) k
  pub users : AreUsers k
  pub park : length k.users ≡ length machines + 1
