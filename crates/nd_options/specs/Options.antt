-- What is read of the options of a command over a bundle, each by its name. The contract of `park_options` cites what stands here.
use Rattle.std.specs.Prelude.{◌≡◌, ◌≢◌, ℕ, ◌<◌, ◌^◌, Bool, true, false, List, [], slice_index, Option, Some, None, codes}
use Rattle.std.specs.Str.Parse.{IsNumeral, digits_value, without_leading_plus}
use Rattle.clap.specs.Matches.{found_of, first_value, one_text}
use Rattle.clap.specs.declared.parser.matches.ArgMatches.{ArgMatches}
use Rattle.nd_cli.specs.declared.options.ParkOptions.{ParkOptions}

-- the text of an option, and no bytes without it
abbrev pub text_or_none : Option (List ℕ) → List ℕ
text_or_none (Some text) = text
text_or_none None = []

-- .. by the option's name
abbrev pub text_in : ArgMatches → List ℕ → List ℕ
text_in m name = text_or_none (first_value (found_of m) name)

-- a text names no file: it doesn't begin with an at sign
abbrev pub NamesNoFile : List ℕ → Type 0
NamesNoFile text = slice_index text 0 ≢ 64

-- such a text stands for itself
abbrev pub StandsFor : List ℕ → List ℕ → Type 0
StandsFor text bytes = NamesNoFile text → bytes ≡ text

-- the text is a number of 16 bits
abbrev pub IsNumber : List ℕ → Type 0
IsNumber text = IsNumeral 10 (without_leading_plus text) × (digits_value 10 (without_leading_plus text) < 2 ^ 16)

-- the number that the text says, and 1 without a text or where it says none
abbrev pub IsNumberIn : Option (List ℕ) → ℕ → Type 0
IsNumberIn None number = number ≡ 1
IsNumberIn (Some text) number = (IsNumber text → number ≡ digits_value 10 (without_leading_plus text)) × ((IsNumber text → ⊥) → number ≡ 1)

-- whether a flag was given
abbrev pub IsFlagIn : Option (List ℕ) → Bool → Type 0
IsFlagIn None flag = flag ≡ false
IsFlagIn (Some text) flag = (text ≡ codes "true" → flag ≡ true) × (text ≡ codes "false" → flag ≡ false)

-- each option has the value of its name, as far as that is no file
pub record AreOptionsIn (m : ArgMatches) (park : ParkOptions) : Type 0 where
  pub builders : StandsFor (text_in m (codes "builders")) park.builders
  pub system : park.system ≡ text_in m (codes "system")
  pub extra : park.extra ≡ text_in m (codes "extra")
  pub features : park.features ≡ text_in m (codes "features")
  pub jobs : IsNumberIn (one_text (found_of m) (codes "jobs")) park.jobs
  pub keep_going : IsFlagIn (one_text (found_of m) (codes "keep-going")) park.keep_going
  pub check_paths : IsFlagIn (one_text (found_of m) (codes "check-paths")) park.check_paths
  pub info : first_value (found_of m) (codes "info") ≡ None → park.info ≡ []

-- no option of the park names a file: the builders list is given as it is, and there is no info text
pub record NamesNoParkFile (m : ArgMatches) : Type 0 where
  pub builders : NamesNoFile (text_in m (codes "builders"))
  pub info : first_value (found_of m) (codes "info") ≡ None
