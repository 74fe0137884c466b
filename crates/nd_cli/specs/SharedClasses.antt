-- Which derivations have the same class: the platform and the required features, on which the reply on an idle park
-- depends. They serve private clauses.
use Rattle.std.specs.Prelude.{◌≡◌, ◌++◌, ℕ, List, Some, slice_get}
use Rattle.std.specs.Borrow.{Bor}
use Rattle.nd_eligible.specs.declared.need.Need.{Need}

-- two needs have the same platform and the same required features
pub record IsSameClass (one other : Need) : Type 0 where
  pub system : one.system ≡ other.system
  pub features : one.features ≡ other.features

-- a need is of the class with this number, by the needs of the classes' first derivations
pub record IsOfClass (firsts : List (Bor Need)) (need : Need) (class : ℕ) : Type 0 where
  pub first : Bor Need
  pub listed : slice_get firsts class ≡ Some first
  pub same : IsSameClass first.now need

-- the class of a need is known, behind the classes before
pub record MeetsNeed (need : Need) (old new : List (Bor Need)) (class : ℕ) : Type 0 where
  pub more : List (Bor Need)
  pub grown : new ≡ old ++ more
  pub is : IsOfClass new need class

-- the class of derivation d is known, behind the classes before
pub record MeetsClass (needs : List Need) (d : ℕ) (old new : List (Bor Need)) (class : ℕ) : Type 0 where
  pub more : List (Bor Need)
  pub grown : new ≡ old ++ more
  pub need : Need
  pub here : slice_get needs d ≡ Some need
  pub is : IsOfClass new need class

-- this is what was made of the class
pub record IsMade {X : Type 0} (made : List X) (class : ℕ) (it : X) : Type 0 where
  pub is : slice_get made class ≡ Some it
