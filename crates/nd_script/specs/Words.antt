-- The words of a script: numbers, and store paths that are made sets. The forms are this project's own.
-- Public clauses cite this.
use Rattle.std.specs.Prelude.{◌≡◌, ℕ, ◌<◌, Bool, List, [], ◌∷◌, length, codes, if◌then◌else◌, Option, None, Some}
use Rattle.std.specs.Borrow.{Bor}
use Rattle.std.specs.List.{All, AllZip, slice_split}
use Rattle.std.specs.Option.{option_copied}
use Rattle.nd_bytes.specs.Cut.{pieces}
use Rattle.nd_bytes.specs.Compared.{bytes_eq}
use Rattle.nd_bytes.specs.Decimal.{decimal_of, has_needless_zero}
use Rattle.nd_path.specs.Refusals.{IsPath}
use Rattle.nd_path.specs.PathSets.{IsRising, HasSameMembers}

-- the words that are left of a line: none at its end
abbrev pub words_left : Option (Bor (List ℕ)) → List (List ℕ)
words_left rest = pieces 32 (option_copied rest)

-- the value of a number that is written without needless zeros and is at most `limit`
abbrev pub number_of : ℕ → List ℕ → Option ℕ
number_of limit word = if has_needless_zero word then None else decimal_of limit word

-- the most that a number in a text may be
abbrev pub largest : ℕ
largest = 4294967295

-- the words begin with this number, which is below the bound, and go on with the rest
pub record Begins (bound : ℕ) (words : List (List ℕ)) (number : ℕ) (rest : List (List ℕ)) : Type 0 where
  pub word : List ℕ
  pub words_are : words ≡ word ∷ rest
  pub reads : number_of largest word ≡ Some number
  pub below : number < bound

-- the words are store paths, and these are they as a set
pub record IsSetOf (words paths : List (List ℕ)) : Type 0 where
  pub are : All IsPath words
  pub members : HasSameMembers words paths
  pub rising : IsRising paths

-- the words are one number of 0 to 255
pub record IsStatus (words : List (List ℕ)) (status : ℕ) : Type 0 where
  pub word : List ℕ
  pub words_are : words ≡ word ∷ []
  pub reads : number_of 255 word ≡ Some status

-- the word that begins a list
abbrev pub is_mark : List ℕ → Bool
is_mark word = bytes_eq word (codes "o")

-- the words are one list or more: a word `o` begins each, and the store paths behind it are made a set
pub record AreLists (words : List (List ℕ)) (sets : List (List (List ℕ))) : Type 0 where
  pub lists : List (List (List ℕ))
  pub some : 0 < length lists
  pub cut : slice_split is_mark words ≡ [] ∷ lists
  pub each : AllZip IsSetOf lists sets
