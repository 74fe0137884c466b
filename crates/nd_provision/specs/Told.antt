-- Which paths are listed, by number.
-- Private clauses alone cite this.
use Rattle.std.specs.Prelude.{◌≡◌, ℕ, ◌<◌, IsTrue, List, length}
use Rattle.std.specs.List.{Contains}
use Rattle.nd_closure.specs.Tables.{is_listed}
use Rattle.nd_path_numbers.specs.Numbers.{path_in, AreDistinct, AreKnown}
use Rattle.nd_path_numbers.specs.Held.{is_among}

-- what a contract sees of the listed paths: their entries in the order in which they were added, how many more can be added without
-- taking memory, and their numbers
pub record Told : Type 0 where
  pub entries : List (List ℕ × List (List ℕ))
  pub spare : ℕ
  pub numbers : List ℕ

-- of the paths that are known those with these numbers are listed, and no other path is
pub record AreTold (l : Told) (paths : List (List ℕ)) : Type 0 where
  pub distinct : AreDistinct paths
  pub known : AreKnown paths l.numbers
  pub told : (n : ℕ) → n < length paths → is_among l.numbers n ≡ is_listed l.entries (path_in paths n)
  pub listed : (p : List ℕ) → IsTrue (is_listed l.entries p) → Contains paths p
