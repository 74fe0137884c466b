-- Lemmas on what is kept of an environment.
use Rattle.std.proofs.Common.{◌≡◌, ℕ, Bool, true, false, ◌&&◌, List, [], ◌∷◌, ◌++◌, Option, Some, None, if◌then◌else◌, refl, sym, ap, ◌∙◌, arith}
use Rattle.std.proofs.lemmas.List.Elements.{filter-append}
use Rattle.nd_aterm.specs.declared.records.EnvEntry.{EnvEntry}
use Rattle.nd_aterm.specs.declared.sifting.Sifted.{Sifted}
use Rattle.nd_aterm.specs.Derivations.{env_entry, rises, is_below}
use Rattle.nd_aterm.specs.Selected.{variables}
use Rattle.nd_aterm.specs.Sifting.{last_name, follows, kept_of, IsSifted, IsTaken, IsSiftedMore, BeginsEnv, HasEnv}
use Rattle.nd_aterm.specs.Spelling.{comma, left_bracket, right_bracket}
use Rattle.nd_aterm.proofs.SiftingLemmas.{listed_more, some_more, none_between, some_between}

last_of : (env : List EnvEntry) (v : EnvEntry) → last_name (env ++ v ∷ []) ≡ Some v.key
last_of [] v = refl
last_of (w ∷ []) v = refl
last_of (w ∷ x ∷ env) v = last_of (x ∷ env) v

and_true : (b : Bool) → (b && true) ≡ b
and_true true = refl
and_true false = refl

and_assoc : (a b c : Bool) → (a && (b && c)) ≡ ((a && b) && c)
and_assoc true b c = refl
and_assoc false b c = refl

-- one more variable rises where the others do and it stands behind the last of them
rises_more : (env : List EnvEntry) (v : EnvEntry) → rises (λ (w : EnvEntry). w.key) (env ++ v ∷ []) ≡ (rises (λ (w : EnvEntry). w.key) env && follows (last_name env) v.key)
rises_more [] v = refl
rises_more (w ∷ []) v = and_true (is_below w.key v.key)
rises_more (w ∷ x ∷ env) v =
    ap (λ (b : Bool). is_below w.key x.key && b) (rises_more (x ∷ env) v)
    ∙ and_assoc (is_below w.key x.key) (rises (λ (w : EnvEntry). w.key) (x ∷ env)) (follows (last_name (x ∷ env)) v.key)

one_kept : (b : Bool) (v : EnvEntry) → kept_of v.key (if b then Some v.value else None) ≡ (if b then v ∷ [] else [])
one_kept true v = refl
one_kept false v = refl

-- what is kept with one more variable
sifted_on : (selects : List ℕ → Bool) (env : List EnvEntry) (v : EnvEntry) (old new : Sifted) → IsSifted selects env old → IsTaken v.key (if selects v.key then Some v.value else None) old new
    → IsSifted selects (env ++ v ∷ []) new
sifted_on selects env v old new is taken = record {
  kept =
      taken.kept ∙ ap (λ (kept : List EnvEntry). kept ++ kept_of v.key (if selects v.key then Some v.value else None)) is.kept
      ∙ ap (λ (more : List EnvEntry). variables selects env ++ more) (one_kept (selects v.key) v)
      ∙ sym (filter-append (λ (w : EnvEntry). selects w.key) env (v ∷ []));
  last = taken.last ∙ sym (last_of env v);
  rising =
      taken.rising ∙ ap (λ (b : Bool). b && follows old.last v.key) is.rising
      ∙ ap (λ (last : Option (List ℕ)). rises (λ (w : EnvEntry). w.key) env && follows last v.key) is.last
      ∙ sym (rises_more env v);
}

-- a first variable
pub env_first : (selects : List ℕ → Bool) (bytes rest : List ℕ) (old new : Sifted) → IsSifted selects [] old → IsSiftedMore selects bytes rest old new → BeginsEnv selects bytes rest new
env_first selects bytes rest old new is more = record {
  env = more.variable ∷ [];
  some = omega arith;
  spelled = more.spelled;
  is = sifted_on selects [] more.variable old new is more.taken;
}

-- and one more
pub env_more : (selects : List ℕ → Bool) (bytes rest after next : List ℕ) (old new : Sifted) → BeginsEnv selects bytes rest old → rest ≡ comma ∷ after → IsSiftedMore selects after next old new
    → BeginsEnv selects bytes next new
env_more selects bytes rest after next old new so_far comma_is more = record {
  env = so_far.env ++ more.variable ∷ [];
  some = some_more env_entry so_far.env more.variable;
  spelled = listed_more env_entry bytes so_far.env rest after next more.variable so_far.some so_far.spelled comma_is more.spelled;
  is = sifted_on selects so_far.env more.variable old new so_far.is more.taken;
}

-- an environment without variables
pub no_env : (selects : List ℕ → Bool) (bytes inner rest : List ℕ) (sifted : Sifted) → bytes ≡ left_bracket ∷ inner → inner ≡ right_bracket ∷ rest → IsSifted selects [] sifted → HasEnv selects bytes rest sifted
no_env selects bytes inner rest sifted first last is = record { env = []; spelled = none_between env_entry bytes inner rest first last; is = is }

-- an environment with variables
pub some_env : (selects : List ℕ → Bool) (bytes inner rest : List ℕ) (sifted : Sifted) → bytes ≡ left_bracket ∷ inner → BeginsEnv selects inner (right_bracket ∷ rest) sifted → HasEnv selects bytes rest sifted
some_env selects bytes inner rest sifted first has = record { env = has.env; spelled = some_between env_entry bytes inner rest has.env first has.spelled; is = has.is }
