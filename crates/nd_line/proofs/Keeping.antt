-- What the kept variables ask for is what the whole environment asks for.
use Rattle.std.proofs.Common.{◌≡◌, ℕ, Bool, true, false, true≢false, List, [], ◌∷◌, Option, Some, None, cond, refl, ap, sym, subst, ◌∙◌}
use Rattle.std.specs.Prelude.{codes, unwrap_or}
use Rattle.nd_bytes.specs.Compared.{bytes_eq, bytes_same}
use Rattle.nd_aterm.specs.declared.records.EnvEntry.{EnvEntry}
use Rattle.nd_aterm.specs.Selected.{variables}
use Rattle.nd_eligible.specs.Attributes.{word_set}
use Rattle.nd_line.specs.Attributes.{variable, is_one, structured, Asks, AsksNothing}
use Rattle.nd_line.specs.Kept.{is_attribute}
use Rattle.nd_line.specs.declared.structured.Wishes.{Wishes}

-- a name that isn't that of an attribute isn't the name of one
apart : (name key : List ℕ) → is_attribute name ≡ true → is_attribute key ≡ false → (b : Bool) → bytes_eq key name ≡ b → b ≡ false
apart name key is isnt false same = refl
apart name key is isnt true same = absurd (true≢false (sym is ∙ ap is_attribute (sym (bytes_same key name same)) ∙ isnt))

step_kept : (name : List ℕ) (v : EnvEntry) (env rest : List EnvEntry) → is_attribute name ≡ true → variable name rest ≡ variable name env → (b : Bool) → is_attribute v.key ≡ b
    → variable name (cond b (v ∷ rest) rest) ≡ variable name (v ∷ env)
step_kept name v env rest is same true kept = ap (λ (found : Option (List ℕ)). cond (bytes_eq v.key name) (Some v.value) found) same
step_kept name v env rest is same false kept =
    same ∙ sym (ap (λ (b : Bool). cond b (Some v.value) (variable name env)) (apart name v.key is kept (bytes_eq v.key name) refl))

-- the first variable of an attribute's name stays the first one
variable_kept : (name : List ℕ) → is_attribute name ≡ true → (env : List EnvEntry) → variable name (variables is_attribute env) ≡ variable name env
variable_kept name is [] = refl
variable_kept name is (v ∷ env) = step_kept name v env (variables is_attribute env) is (variable_kept name is env) (is_attribute v.key) refl

structured_kept : (env : List EnvEntry) → structured (variables is_attribute env) ≡ structured env
structured_kept env = variable_kept (codes "__json") refl env

asked_same : (env : List EnvEntry) (json : Option (List ℕ)) (wishes : Wishes) → Asks json (variables is_attribute env) wishes → Asks json env wishes
asked_same env None wishes asks = record {
  features = asks.features ∙ ap (λ (value : Option (List ℕ)). word_set (unwrap_or value [])) (variable_kept (codes "requiredSystemFeatures") refl env);
  prefer_local = asks.prefer_local ∙ ap is_one (variable_kept (codes "preferLocalBuild") refl env);
}
asked_same env (Some json) wishes asks = asks

pub asks_kept : (env : List EnvEntry) (wishes : Wishes) → Asks (structured (variables is_attribute env)) (variables is_attribute env) wishes → Asks (structured env) env wishes
asks_kept env wishes asks = asked_same env (structured env) wishes (subst (λ (json : Option (List ℕ)). Asks json (variables is_attribute env) wishes) (structured_kept env) asks)

pub nothing_kept : (env : List EnvEntry) → AsksNothing (variables is_attribute env) → AsksNothing env
nothing_kept env asks = record { json = asks.json; is_structured = sym (structured_kept env) ∙ asks.is_structured; nothing = asks.nothing }
