-- The words of a line, and a line of them.
-- Public clauses cite this.
use Rattle.std.specs.Prelude.{ℕ, List, [], ◌∷◌, ◌++◌, map}
use Rattle.std.specs.Fmt.{decimal}
use Rattle.nd_history_text.specs.Lines.{spaced}
use Rattle.nd_history_text.specs.declared.rows.Word.{Word}
use Rattle.nd_history_text.specs.declared.rows.Word.TheVariants.{Text, Number, Share}

-- two numbers with a `/` between
unfoldable pub share : ℕ → ℕ → List ℕ
share taken all = decimal taken ++ 47 ∷ decimal all

-- the bytes of a word
abbrev pub text_of : Word → List ℕ
text_of (Text bytes) = bytes.now
text_of (Number number) = decimal number
text_of (Share taken all) = share taken all

abbrev pub texts_of : List Word → List (List ℕ)
texts_of words = map text_of words

-- a line: its first word, the others with a space before each, and a newline
unfoldable pub row : List ℕ → List (List ℕ) → List ℕ
row first others = (first ++ spaced others) ++ 10 ∷ []
