-- What the kinds of derivations keep, beside what the model shows.
-- No public clause cites this: it says what a type keeps.
use Rattle.std.specs.Prelude.{◌<◌, ℕ, All, length}
use Rattle.nd_kinds.specs.Kinds.{Kinded, users_of}
use Rattle.nd_kinds.specs.declared.kinds.Kinds.TheInside.{Inside}

abbrev pub kinded : Inside → Kinded
kinded k = record { numbers = k.numbers.items; kinds = k.kinds.items; users = k.users }

-- the numbers are those of kinds
pub record IsKept (k : Inside) : Type 0 where
  pub numbers : All (λ n. n < length k.kinds.items) k.numbers.items
  pub users : (m : ℕ) → All (λ n. n < length k.kinds.items) (users_of (kinded k) m)
