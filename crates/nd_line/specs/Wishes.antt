-- What structured attributes say of a derivation's needs.
-- Source: Nix Reference Manual, "Advanced Attributes" (`__structuredAttrs`, `requiredSystemFeatures`,
-- `preferLocalBuild`). That a member of another kind is refused is this project's own choice.
-- Cited by the readers' clauses, through what a line says.
use Rattle.std.specs.Prelude.{◌≡◌, ℕ, List, Some, codes}
use Rattle.nd_machines.specs.FeatureSets.{set_of}
use Rattle.serde_json.specs.Data.{Data, Members}
use Rattle.serde_json.specs.Find.{get, as_object}
use Rattle.nd_line.specs.Structured.{IsJson, features_in, preference_in}
use Rattle.nd_line.specs.declared.structured.Wishes.{Wishes}

-- the text is a JSON object, and its two members say these wishes: the features as a set
pub record Says (text : List ℕ) (wishes : Wishes) : Type 0 where
  pub value : Data
  pub members : Members
  pub json : IsJson text value
  pub is_object : as_object value ≡ Some members
  pub listed : List (List ℕ)
  pub lists : features_in (get (codes "requiredSystemFeatures") value) ≡ Some listed
  pub features : wishes.features ≡ set_of listed
  pub prefer_local : preference_in (get (codes "preferLocalBuild") value) ≡ Some wishes.prefer_local
