-- How the beginning of a text is shown (this project's own choice). Public clauses cite this.
use Rattle.std.specs.Prelude.{ℕ, Bool, ◌+◌, ◌-◌, ◌/◌, ◌%◌, ◌&&◌, nat_le, nat_lt, List, [], ◌∷◌, ◌++◌, length, take, if◌then◌else◌, codes}
use Rattle.std.specs.List.{flat_map}

-- a printable character of ASCII, from the space (32) to the tilde (126)
abbrev pub is_printable : ℕ → Bool
is_printable b = nat_le 32 b && nat_le b 126

-- `0` to `9` (48 and on), `a` to `f` (97 and on)
abbrev pub hex_digit : ℕ → ℕ
hex_digit n = if nat_lt n 10 then 48 + n else 97 + (n - 10)

-- a byte: itself, or `\x` and its two hexadecimal digits
abbrev pub shown_byte : ℕ → List ℕ
shown_byte b = if is_printable b then b ∷ [] else codes "\\x" ++ hex_digit (b / 16) ∷ hex_digit (b % 16) ∷ []

-- a text, byte by byte
abbrev pub shown_text : List ℕ → List ℕ
shown_text text = flat_map shown_byte text

-- a text of at most 200 bytes, or the first 200 of a longer one and `..`
abbrev pub excerpt_of : List ℕ → List ℕ
excerpt_of text = if nat_le (length text) 200 then shown_text text else shown_text (take 200 text) ++ codes ".."
