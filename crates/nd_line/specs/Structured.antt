-- Structured attributes: the JSON value of a text, and what its members are.
-- Source: Nix Reference Manual, "Advanced Attributes" (`__structuredAttrs`, `requiredSystemFeatures`,
-- `preferLocalBuild`). That a member of another kind is a refusal is this project's own choice.
-- Cited by the readers' clauses, through what a line says.
use Rattle.std.specs.Prelude.{◌≡◌, ℕ, List, [], ◌∷◌, Bool, false, Option, Some, None, option_map, option_and_then, IsUtf8}
use Rattle.serde_json.specs.Data.{Data, Items, no_items, item}
use Rattle.serde_json.specs.Find.{as_bool, as_str, as_array}
use Rattle.serde_json.specs.Read.{read}

-- the JSON value of a text: it is UTF-8, and the JSON grammar (RFC 8259) reads it, nested at most 127 deep
pub record IsJson (text : List ℕ) (value : Data) : Type 0 where
  pub utf8 : IsUtf8 text
  pub reads : read text ≡ Some value

-- the strings of an array, None where an item is of another kind
abbrev pub strings : Items → Option (List (List ℕ))
strings no_items = Some []
strings (item d ds) = option_and_then (λ s. option_map (λ ss. s ∷ ss) (strings ds)) (as_str d)

-- an absent member is an empty list; a present one is an array of strings
abbrev pub features_in : Option Data → Option (List (List ℕ))
features_in None = Some []
features_in (Some d) = option_and_then strings (as_array d)

-- an absent member is false; a present one is a boolean
abbrev pub preference_in : Option Data → Option Bool
preference_in None = Some false
preference_in (Some d) = as_bool d
