-- How a derivation text spells a quoted string and a list: each definition is the text of a value with
-- the bytes of `rest` behind it. The form is the ATerm format of store derivations (Nix Reference Manual,
-- 'Derivation "ATerm" file format'; Dolstra 2006, section 5.4). That a string escapes exactly these five
-- bytes, also where Nix's writer leaves them as they are, is this project's own choice.
-- Public clauses cite this, but `IsPlain` serves private clauses alone.
use Rattle.std.specs.Prelude.{◌≡◌, ℕ, ◌==◌, List, [], ◌∷◌, ◌++◌, if◌then◌else◌, Option, None, Some}

abbrev pub quote : ℕ
quote = 34

abbrev pub backslash : ℕ
backslash = 92

abbrev pub comma : ℕ
comma = 44

abbrev pub left_bracket : ℕ
left_bracket = 91

abbrev pub right_bracket : ℕ
right_bracket = 93

abbrev pub left_parenthesis : ℕ
left_parenthesis = 40

abbrev pub right_parenthesis : ℕ
right_parenthesis = 41

-- What stands behind the backslash of an escaped byte: a quote and a backslash stand for themselves,
-- newline (10), return (13) and tab (9) are the letters n, r and t. No other byte is escaped.
abbrev pub letter_of : ℕ → Option ℕ
letter_of c =
    if c == quote then Some quote
    else if c == backslash then Some backslash
    else if c == 10 then Some 110
    else if c == 13 then Some 114
    else if c == 9 then Some 116
    else None

-- a byte is a backslash and its letter where it has one, and else stands as it is
abbrev pub spelled : Option ℕ → ℕ → List ℕ → List ℕ
spelled None c rest = c ∷ rest
spelled (Some letter) c rest = backslash ∷ letter ∷ rest

unfoldable pub character : ℕ → List ℕ → List ℕ
character c rest = spelled (letter_of c) c rest

-- one byte after another
abbrev pub characters : List ℕ → List ℕ → List ℕ
characters [] rest = rest
characters (c ∷ cs) rest = character c (characters cs rest)

-- bytes that a string spells as they are
abbrev pub IsPlain : List ℕ → Type 0
IsPlain cs = (rest : List ℕ) → characters cs rest ≡ cs ++ rest

-- a string stands between quotes
unfoldable pub string : List ℕ → List ℕ → List ℕ
string cs rest = quote ∷ characters cs (quote ∷ rest)

-- lists of things whose texts `item` gives
module _ {X : Type 0} (item : X → List ℕ → List ℕ) where
  -- each thing with a comma before it
  abbrev pub others : List X → List ℕ → List ℕ
  others [] rest = rest
  others (x ∷ xs) rest = comma ∷ item x (others xs rest)

  -- things with commas between them
  abbrev pub listed : List X → List ℕ → List ℕ
  listed [] rest = rest
  listed (x ∷ xs) rest = item x (others xs rest)

  -- a list stands between brackets
  unfoldable pub list : List X → List ℕ → List ℕ
  list xs rest = left_bracket ∷ listed xs (right_bracket ∷ rest)
