-- The lines of a bundle: a newline-separated text, whose last newline may be missing (this project's own format).
-- Cited by the readers' clauses, through what a bundle is.
use Rattle.std.specs.Prelude.{ℕ, List, [], ◌∷◌, ◌++◌}
use Rattle.nd_bytes.specs.Lines.{lines_of}

-- the pieces between newlines; a text of no bytes has no lines
abbrev pub lines : List ℕ → List (List ℕ)
lines = lines_of

-- the lines of several texts, one text after another. Serves proofs alone
abbrev pub lines_in : List (List ℕ) → List (List ℕ)
lines_in [] = []
lines_in (text ∷ texts) = lines text ++ lines_in texts
