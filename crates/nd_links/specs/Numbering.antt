-- The numbers of paths, and when there are none. Serves proofs alone.
use Rattle.std.specs.Prelude.{◌≡◌, ℕ, List, [], ◌++◌, Contains, Option, Some, None}
use Rattle.nd_links.specs.declared.fault.GraphError.{GraphError}
use Rattle.nd_links.specs.declared.fault.GraphError.TheVariants.{Duplicate, Memory}
use Rattle.nd_links.specs.declared.number.Numbers.{Numbers}
use Rattle.nd_links.specs.Whole.{IsRepeat}
use Rattle.nd_graph.specs.Walks.{AreDistinct}

-- a path stands twice, the second time on this line, or want of memory
abbrev pub IsNumberFault : List (List ℕ) → GraphError → Type 0
IsNumberFault paths (Duplicate line) = IsRepeat paths line
IsNumberFault paths Memory = Unit {0}
IsNumberFault paths _ = ⊥

-- each of the paths has its number: it stands once
pub record AreKeys (paths keys : List (List ℕ)) : Type 0 where
  pub same : keys ≡ paths
  pub distinct : AreDistinct paths

-- .. or the first line whose path stood before is known
abbrev pub AreKeysTo : List (List ℕ) → List (List ℕ) → Option ℕ → Type 0
AreKeysTo paths keys None = AreKeys paths keys
AreKeysTo paths keys (Some line) = IsRepeat paths line

-- the numbers of these paths
abbrev pub AreNumbersOf : List (List ℕ) → Numbers → Type 0
AreNumbersOf paths numbers = AreKeysTo paths numbers.paths.keys numbers.repeat

-- .. of none
pub record AreNoNumbers (numbers : Numbers) : Type 0 where
  pub none : AreNumbersOf [] numbers

-- more paths are numbered behind those before
pub record AddsPaths (old : Numbers) (more : List (List ℕ)) (new : Numbers) : Type 0 where
  pub adds : (paths : List (List ℕ)) → AreNumbersOf paths old → AreNumbersOf (paths ++ more) new

-- whatever paths these are the numbers of, each of them has one
pub record HasNumbers (numbers : Numbers) (keys : List (List ℕ)) : Type 0 where
  pub has : (paths : List (List ℕ)) → AreNumbersOf paths numbers → AreKeys paths keys

-- .. or one stands twice
pub record LacksNumbers (numbers : Numbers) (fault : GraphError) : Type 0 where
  pub lacks : (paths : List (List ℕ)) → AreNumbersOf paths numbers → IsNumberFault paths fault

-- some of the wanted items is none of the items
pub record LacksItem (items wanted : List (List ℕ)) : Type 0 where
  pub item : List ℕ
  pub asked : Contains wanted item
  pub missing : Contains items item → ⊥
