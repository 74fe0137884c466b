-- The fields of an entry of a builders list, and what each of them means (Nix Reference Manual, setting `builders`).
-- Which numbers are taken, and that the host key is kept unread, is this project's own choice.
-- Public clauses cite this, but `blank_pieces` serves private clauses alone.
use Rattle.std.specs.Prelude.{ℕ, Bool, ◌+◌, ◌-◌, ◌*◌, ◌^◌, ◌==◌, ◌&&◌, ◌||◌, nat_le, nat_eq, List, [], ◌∷◌, ◌++◌, length, slice_index_or, Option, None, Some, if◌then◌else◌, codes}
use Rattle.std.specs.Option.{option_map}
use Rattle.std.specs.List.{list_any, slice_split, starts_with}
use Rattle.nd_bytes.specs.Compared.{bytes_eq}
use Rattle.nd_bytes.specs.Cut.{until, behind}
use Rattle.nd_bytes.specs.Decimal.{decimal_of}
use Rattle.nd_machines.specs.FeatureSets.{filled, listed}

-- a space, a tab or a return
abbrev pub is_blank : ℕ → Bool
is_blank b = b == 32 || b == 9 || b == 13

-- the fields: what stands between blanks
abbrev pub fields : List ℕ → List (List ℕ)
fields entry = filled (slice_split is_blank entry)

-- the parts of what is left of an entry that is cut at blanks: none once nothing is left
abbrev pub blank_pieces : Option (List ℕ) → List (List ℕ)
blank_pieces None = []
blank_pieces (Some bytes) = slice_split is_blank bytes

-- what stands for a field that is left out
abbrev pub dash : List ℕ
dash = codes "-"

abbrev pub is_dash : List ℕ → Bool
is_dash field = bytes_eq field dash

-- the field at a place, counted from 0, or the dash where there is none
abbrev pub field : ℕ → List (List ℕ) → List ℕ
field n fs = slice_index_or fs n dash

-- ---- what the fields mean

-- an entry that would name a file of machines
abbrev pub is_include : List ℕ → Bool
is_include uri = starts_with nat_eq uri (codes "@")

-- the word, alone or with `?` behind it
abbrev pub is_named : List ℕ → List ℕ → Bool
is_named word uri = bytes_eq uri word || starts_with nat_eq uri (word ++ codes "?")

-- a URI that says how the store is reached: by a path or a scheme (it has a `/`, 47), by one of three names, or by parameters alone
abbrev pub is_complete : List ℕ → Bool
is_complete uri =
    list_any (λ b. b == 47) uri || is_named (codes "auto") uri || is_named (codes "daemon") uri || is_named (codes "local") uri
    || starts_with nat_eq uri (codes "?")

-- any other is the name of a host that is reached by SSH
abbrev pub uri_of : List ℕ → List ℕ
uri_of uri = if is_complete uri then uri else codes "ssh://" ++ uri

-- the systems: this one alone where none is named
abbrev pub systems_of : List ℕ → List ℕ → List (List ℕ)
systems_of this_system field = if is_dash field then this_system ∷ [] else listed field

-- the features: none where none is named
abbrev pub features_of : List ℕ → List (List ℕ)
features_of field = if is_dash field then [] else listed field

-- a name, or none
abbrev pub name_of : List ℕ → Option (List ℕ)
name_of field = if is_dash field then None else Some field

-- the number of jobs: one or more digits, at most 65,535, and 1 where it is left out
abbrev pub jobs_of : List ℕ → Option ℕ
jobs_of field = if is_dash field then Some 1 else decimal_of 65535 field

-- the millionths of one to six digits behind a point
abbrev pub fraction_of : List ℕ → Option ℕ
fraction_of digits = if nat_le (length digits) 6 then option_map (λ n. n * 10 ^ (6 - length digits)) (decimal_of 999999 digits) else None

-- a number in millionths, of its whole part and, where it has a point, the digits behind that
abbrev pub millionths : Option ℕ → Option (List ℕ) → Option ℕ
millionths None behind_point = None
millionths (Some whole) None = Some (whole * 10 ^ 6)
millionths (Some whole) (Some digits) = option_map (λ n. whole * 10 ^ 6 + n) (fraction_of digits)

-- more than 0, and at most 1,000,000
abbrev pub speed_in_range : Option ℕ → Option ℕ
speed_in_range None = None
speed_in_range (Some n) = if nat_le 1 n && nat_le n (10 ^ 12) then Some n else None

-- the speed in millionths: one or more digits, and where a point (46) follows, one to six digits behind it. 1 where it is left out
abbrev pub speed_of : List ℕ → Option ℕ
speed_of field =
    if is_dash field then Some (10 ^ 6)
    else speed_in_range (millionths (decimal_of 1000000 (until (λ b. b == 46) field)) (behind (λ b. b == 46) field))
