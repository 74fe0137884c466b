-- What is left of a bundle, wherever it is read from. The contract of its reader cites it.
use Rattle.std.specs.Prelude.{ℕ, List, Option, Some, None}
use Rattle.nd_command_line.specs.declared.bundles.Bundle.{Bundle}
use Rattle.nd_command_line.specs.declared.bundles.Bundle.TheVariants.{Input, File}

-- the bytes that reads will give from here on, given what standard input and what a file have left
abbrev pub left_of : {I F : Type 0} → (I → Option (List ℕ)) → (F → Option (List ℕ)) → Bundle I F → Option (List ℕ)
left_of input file (Input i) = input i
left_of input file (File f) = file f

-- it comes from a file where the option names one, and else from standard input
abbrev pub ComesFrom : {I F : Type 0} → Option (List ℕ) → Bundle I F → Type 0
ComesFrom (Some _) (File _) = Unit {0}
ComesFrom None (Input _) = Unit {0}
ComesFrom _ _ = ⊥
