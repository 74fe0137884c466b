-- What a derivation needs of the machine that builds it, as its platform, its builder and its environment say.
-- Source: Nix Reference Manual, "Advanced Attributes" (`requiredSystemFeatures`, `preferLocalBuild`,
-- `__structuredAttrs`, whose JSON object stands in the environment as `__json`) and "builtin:fetchurl".
-- Cited by the readers' clauses, through what a line says.
use Rattle.std.specs.Prelude.{◌≡◌, ℕ, Bool, false, List, [], ◌∷◌, Option, Some, None, nat_eq, codes, if◌then◌else◌, unwrap_or}
use Rattle.std.specs.List.{starts_with}
use Rattle.nd_bytes.specs.Compared.{bytes_eq}
use Rattle.nd_aterm.specs.declared.records.EnvEntry.{EnvEntry}
use Rattle.nd_eligible.specs.Attributes.{word_set}
use Rattle.nd_eligible.specs.declared.need.Need.{Need}
use Rattle.nd_line.specs.Wishes.{Says}
use Rattle.nd_line.specs.declared.structured.Wishes.{Wishes}

-- the value of the variable with this name
abbrev pub variable : List ℕ → List EnvEntry → Option (List ℕ)
variable name [] = None
variable name (entry ∷ env) = if bytes_eq entry.key name then Some entry.value else variable name env

-- whether the value is `1`
abbrev pub is_one : Option (List ℕ) → Bool
is_one None = false
is_one (Some value) = bytes_eq value (codes "1")

-- the wishes of a derivation without structured attributes: those of the two variables
pub record AreVariables (env : List EnvEntry) (wishes : Wishes) : Type 0 where
  pub features : wishes.features ≡ word_set (unwrap_or (variable (codes "requiredSystemFeatures") env) [])
  pub prefer_local : wishes.prefer_local ≡ is_one (variable (codes "preferLocalBuild") env)

-- With structured attributes the wishes are what they say, whatever the two variables are.
abbrev pub Asks : Option (List ℕ) → List EnvEntry → Wishes → Type 0
Asks None env wishes = AreVariables env wishes
Asks (Some json) env wishes = Says json wishes

-- the structured attributes, where there are any
abbrev pub structured : List EnvEntry → Option (List ℕ)
structured env = variable (codes "__json") env

-- the need of a derivation with this platform, this builder and this environment
pub record Needs (platform builder : List ℕ) (env : List EnvEntry) (need : Need) : Type 0 where
  pub wishes : Wishes
  pub asks : Asks (structured env) env wishes
  pub system : need.system ≡ platform
  pub features : need.features ≡ wishes.features
  pub prefer_local : need.prefer_local ≡ wishes.prefer_local
  pub builtin : need.builtin ≡ starts_with nat_eq builder (codes "builtin:")

-- there are structured attributes, and they say nothing
pub record AsksNothing (env : List EnvEntry) : Type 0 where
  pub json : List ℕ
  pub is_structured : structured env ≡ Some json
  pub nothing : (wishes : Wishes) → Says json wishes → ⊥
