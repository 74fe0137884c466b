-- Store paths by number: a path's number is its place among those that are known.
-- Public clauses cite this, but `Gathers` serves private clauses alone.
use Rattle.std.specs.Prelude.{◌≡◌, ℕ, ◌<◌, List, [], ◌++◌, ◌⊎◌, length, map, slice_index_or, Option, None, Some}
use Rattle.std.specs.List.{Contains}
use Rattle.nd_path.specs.PathSets.{HasSameMembers}
use Rattle.nd_closure.specs.Tables.{refs_of}

-- the paths that are known, and for each number the numbers of what that path refers to
pub record Numbered : Type 0 where
  pub paths : List (List ℕ)
  pub rows : List (List ℕ)

-- the path with this number
abbrev pub path_in : List (List ℕ) → ℕ → List ℕ
path_in paths n = slice_index_or paths n []

-- the row of this number; past the end there is none
abbrev pub row_in : List (List ℕ) → ℕ → List ℕ
row_in rows n = slice_index_or rows n []

-- no path has two numbers
pub record AreDistinct (paths : List (List ℕ)) : Type 0 where
  pub one : (a b : ℕ) → a < length paths → b < length paths → path_in paths a ≡ path_in paths b → a ≡ b

-- each of these numbers is a path's
pub record AreKnown (paths : List (List ℕ)) (numbers : List ℕ) : Type 0 where
  pub each : (n : ℕ) → Contains numbers n → n < length paths

-- these numbers are those of these paths, one after another
pub record AreNumbersOf (paths others : List (List ℕ)) (numbers : List ℕ) : Type 0 where
  pub known : AreKnown paths numbers
  pub named : map (path_in paths) numbers ≡ others

-- this number is that of this path
pub record IsNumberOf (paths : List (List ℕ)) (path : List ℕ) (n : ℕ) : Type 0 where
  pub known : n < length paths
  pub named : path_in paths n ≡ path

-- the number of this path, or none where it is not known
abbrev pub IsLookedUp : List (List ℕ) → List ℕ → Option ℕ → Type 0
IsLookedUp known path None = (n : ℕ) → IsNumberOf known path n → ⊥
IsLookedUp known path (Some n) = IsNumberOf known path n

-- paths became known, behind those that were; no row changed
pub record HasGrown (old new : Numbered) : Type 0 where
  pub more : List (List ℕ)
  pub paths : new.paths ≡ old.paths ++ more
  pub rows : (n : ℕ) → row_in new.rows n ≡ row_in old.rows n
  pub distinct : AreDistinct old.paths → AreDistinct new.paths

-- each path that is known was known, or is one of these
pub record AddsOnly (old new these : List (List ℕ)) : Type 0 where
  pub each : (p : List ℕ) → Contains new p → Contains old p ⊎ Contains these p

-- this set is that of the paths with these numbers, if each is a path's
pub record IsSetOf (known : List (List ℕ)) (numbers : List ℕ) (paths : List (List ℕ)) : Type 0 where
  pub tells : AreKnown known numbers → HasSameMembers (map (path_in known) numbers) paths

-- these are the paths with these numbers, if each is a path's
pub record Gathers (known : List (List ℕ)) (numbers : List ℕ) (paths : List (List ℕ)) : Type 0 where
  pub tells : AreKnown known numbers → paths ≡ map (path_in known) numbers

-- the rows say by number what a table lists, and each path for which it lists something is known
pub record AreNumbered (entries : List (List ℕ × List (List ℕ))) (n : Numbered) : Type 0 where
  pub distinct : AreDistinct n.paths
  pub listed : (p q : List ℕ) → Contains (refs_of entries p) q → Contains n.paths p
  pub ranged : (a b : ℕ) → Contains (row_in n.rows a) b → (a < length n.paths) × (b < length n.paths)
  pub sound : (a b : ℕ) → Contains (row_in n.rows a) b → Contains (refs_of entries (path_in n.paths a)) (path_in n.paths b)
  pub complete : (a : ℕ) (q : List ℕ) → a < length n.paths → Contains (refs_of entries (path_in n.paths a)) q → (b : ℕ) × Contains (row_in n.rows a) b × (path_in n.paths b ≡ q)
