-- Which derivations have the same need.
-- No public clause cites this: it serves private clauses alone.
use Rattle.std.specs.Prelude.{◌≡◌, ◌<◌, ◌+◌, ◌⊎◌, ◌++◌, ◌∷◌, [], ℕ, List, Contains, Some, length, slice_get, slice_index_or}
use Rattle.nd_eligible.specs.declared.need.Need.{Need}
use Rattle.nd_kinds.specs.declared.kind.Kind.{Kind}
use Rattle.nd_machines.specs.Builders.{Builder}
use Rattle.nd_eligible.specs.Settings.{Settings}
use Rattle.nd_kinds.specs.Kinds.{Kinded, MayUse, HaveKinds, AreUsers}

-- an earlier derivation has the need of derivation d
pub record SharesNeed (needs : List Need) (d first : ℕ) : Type 0 where
  pub earlier : first < d
  pub same : slice_get needs first ≡ slice_get needs d

-- one number may have been added to lists of numbers, at the end of some of them
pub record AddsTo (number : ℕ) (old new : List (List ℕ)) : Type 0 where
  pub sized : length new ≡ length old
  pub kept : (m k : ℕ) → Contains (slice_index_or old m []) k → Contains (slice_index_or new m []) k
  pub only : (m k : ℕ) → Contains (slice_index_or new m []) k → Contains (slice_index_or old m []) k ⊎ (k ≡ number)

-- the number stands with each machine that the kind may use
pub record IsListed (kind : Kind) (number : ℕ) (users : List (List ℕ)) : Type 0 where
  pub each : (m : ℕ) → MayUse kind m → Contains (slice_index_or users m []) number

-- one more derivation, of a kind of its own
pub record IsOneMore (kind : Kind) (old new : Kinded) : Type 0 where
  pub numbers : new.numbers ≡ old.numbers ++ length old.kinds ∷ []
  pub kinds : new.kinds ≡ old.kinds ++ kind ∷ []
  pub adds : AddsTo (length old.kinds) old.users new.users
  pub listed : IsListed kind (length old.kinds) new.users

-- one more derivation, of a kind that there is
pub record HasJoined (kind : Kind) (old new : Kinded) : Type 0 where
  pub number : ℕ
  pub at : slice_get old.kinds number ≡ Some kind
  pub grown : new ≡ record old { numbers = old.numbers ++ number ∷ [] }

-- one more derivation, of this kind
abbrev pub IsOneMoreOf : Kind → Kinded → Kinded → Type 0
IsOneMoreOf kind old new = HasJoined kind old new ⊎ IsOneMore kind old new

-- what is known while the derivations are gone through
pub record AreSoFar (machines : List Builder) (home : Settings) (needs : List Need) (n : ℕ) (k : Kinded) : Type 0 where
  pub sized : length k.numbers ≡ n
  pub kinds : HaveKinds machines home needs n k
  pub users : AreUsers k
  pub park : length k.users ≡ length machines + 1
