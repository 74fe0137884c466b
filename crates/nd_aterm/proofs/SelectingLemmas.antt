-- Lemmas on derivation texts of which not all is kept.
use Rattle.std.proofs.Common.{◌≡◌, ℕ, Bool, true, false, true≢false, List, [], ◌∷◌, ◌++◌, codes, refl, sym, ap, subst, ◌∙◌}
use Rattle.nd_aterm.specs.declared.records.EnvEntry.{EnvEntry}
use Rattle.nd_aterm.specs.declared.records.Parts.{Parts}
use Rattle.nd_aterm.specs.declared.records.SelectedParts.{SelectedParts}
use Rattle.nd_aterm.specs.declared.selecting.KeptCommand.{KeptCommand}
use Rattle.nd_aterm.specs.declared.selecting.KeptParts.{KeptParts}
use Rattle.nd_aterm.specs.declared.selecting.Paths.{Paths}
use Rattle.nd_aterm.specs.declared.sifting.Sifted.{Sifted}
use Rattle.nd_aterm.specs.Derivations.{env_entry, derivation, in_order, Text}
use Rattle.nd_aterm.specs.DerivationsOnce.{strings_once, env_once, derivation_once}
use Rattle.nd_aterm.specs.Sections.{Command, paths, command, joined}
use Rattle.nd_aterm.specs.Selected.{variables, selected, with_args, IsSelected}
use Rattle.nd_aterm.specs.Sifting.{AreStrings, HasEnv, HasSettings, NoSettings, HasCommand, HasParts, IsKept, IsText, IsJoined, settings, is_in_order}
use Rattle.nd_aterm.specs.Spelling.{comma, right_parenthesis, string, list}
use Rattle.nd_aterm.specs.SpellingOnce.{tail_is, string_once}
use Rattle.nd_aterm.proofs.SectionLemmas.{both_found}

-- what stands behind the arguments
behind_args : (keeps : Bool) (bytes : List ℕ) (kept : List (List ℕ)) (r : List ℕ) → AreStrings keeps bytes kept r → (args : List (List ℕ)) (env : List EnvEntry) (rest : List ℕ) → bytes ≡ settings args env rest
    → r ≡ comma ∷ list env_entry env (right_parenthesis ∷ rest)
unfolding settings
behind_args keeps bytes kept r has args env rest is = (strings_once has.whole args _ _ (sym has.spelled ∙ is)).1

-- no comma behind the arguments
pub no_comma : (keeps : Bool) (bytes : List ℕ) (kept : List (List ℕ)) (r : List ℕ) → AreStrings keeps bytes kept r → ((s : List ℕ) → r ≡ comma ∷ s → ⊥) → NoSettings bytes
no_comma keeps bytes kept r has none args env rest is = none _ (behind_args keeps bytes kept r has args env rest is)

-- no environment behind it
pub no_env_behind : (keeps : Bool) (bytes : List ℕ) (kept : List (List ℕ)) (r s : List ℕ) → AreStrings keeps bytes kept r → r ≡ comma ∷ s → ((env : List EnvEntry) (rest : List ℕ) → s ≡ list env_entry env rest → ⊥) → NoSettings bytes
no_env_behind keeps bytes kept r s has next none args env rest is = none env _ (tail_is (sym next ∙ behind_args keeps bytes kept r has args env rest is))

-- no parenthesis behind the environment
pub no_close : (selects : List ℕ → Bool) (keeps : Bool) (bytes : List ℕ) (kept : List (List ℕ)) (r s t : List ℕ) (sifted : Sifted) → AreStrings keeps bytes kept r → r ≡ comma ∷ s → HasEnv selects s t sifted
    → ((u : List ℕ) → t ≡ right_parenthesis ∷ u → ⊥) → NoSettings bytes
no_close selects keeps bytes kept r s t sifted has next envs none args env rest is =
    none _ (env_once envs.env env _ _ (sym envs.spelled ∙ tail_is (sym next ∙ behind_args keeps bytes kept r has args env rest is))).1

-- what is kept of the arguments and the environment
pub settings_found : (selects : List ℕ → Bool) (keeps : Bool) (bytes : List ℕ) (kept : List (List ℕ)) (r s t u : List ℕ) (sifted : Sifted) → AreStrings keeps bytes kept r → r ≡ comma ∷ s → HasEnv selects s t sifted
    → t ≡ right_parenthesis ∷ u → HasSettings selects keeps bytes u kept sifted
unfolding settings
settings_found selects keeps bytes kept r s t u sifted has comma_is envs close = record {
  args = has.whole;
  env = envs.env;
  spelled = has.spelled ∙ ap (list string has.whole) (comma_is ∙ ap (λ (x : List ℕ). comma ∷ x) (envs.spelled ∙ ap (list env_entry envs.env) close));
  kept_is = has.kept_is;
  is = envs.is;
}

-- platform and builder stand before the rest of a command
command_is : (c : Command) (rest : List ℕ) → command c rest ≡ string c.platform (comma ∷ string c.builder (comma ∷ settings c.args c.env rest))
unfolding command settings
command_is c rest = refl

-- no platform and builder, no command
pub no_start : (bytes : List ℕ) → ((x y r : List ℕ) → bytes ≡ string x (comma ∷ string y (comma ∷ r)) → ⊥) → (c : Command) (rest : List ℕ) → bytes ≡ command c rest → ⊥
no_start bytes none c rest is = none _ _ _ (is ∙ command_is c rest)

-- no settings behind them, no command
pub no_settings : (bytes x y r : List ℕ) → bytes ≡ string x (comma ∷ string y (comma ∷ r)) → NoSettings r → (c : Command) (rest : List ℕ) → bytes ≡ command c rest → ⊥
no_settings bytes x y r first none c rest is =
    let platform = string_once _ _ _ _ (sym first ∙ is ∙ command_is c rest) in
    let builder = string_once _ _ _ _ (tail_is platform.1) in
    none c.args c.env rest (tail_is builder.1)

-- what is kept of a command
pub command_found : (selects : List ℕ → Bool) (keeps : Bool) (bytes r rest : List ℕ) (found : KeptCommand) → bytes ≡ string found.platform (comma ∷ string found.builder (comma ∷ r))
    → HasSettings selects keeps r rest found.args found.env → HasCommand selects keeps bytes rest found
command_found selects keeps bytes r rest found first has = record {
  whole = record { platform = found.platform; builder = found.builder; args = has.args; env = has.env };
  spelled =
      first ∙ ap (λ (t : List ℕ). string found.platform (comma ∷ string found.builder (comma ∷ t))) has.spelled
      ∙ sym (command_is (record { platform = found.platform; builder = found.builder; args = has.args; env = has.env }) rest);
  platform = refl;
  builder = refl;
  args = has.kept_is;
  env = has.is;
}

-- what is kept of the derivation with these sections
pub parts_found : (selects : List ℕ → Bool) (keeps : Bool) (bytes behind next rest : List ℕ) (p : Paths) (c : KeptCommand) (found : KeptParts)
    → bytes ≡ codes "Derive(" ++ behind → behind ≡ paths p next → HasCommand selects keeps next rest c → IsJoined p c found → HasParts selects keeps bytes rest found
parts_found selects keeps bytes behind next rest p c found word first second is = record {
  parts = joined p second.whole;
  spelled = both_found bytes behind next rest p second.whole word first second.spelled;
  is = record {
    view =
        is.view
        ∙ (λ k. record { outputs = p.outputs; input_drvs = p.input_drvs; input_srcs = p.input_srcs; platform = second.platform k; builder = second.builder k; env = second.env.kept k });
    args = is.args ∙ second.args;
    rising = is.rising ∙ second.env.rising;
  };
}

-- whether the lists of the parts rise
order_is : (selects : List ℕ → Bool) (keeps : Bool) (p : Parts) (found : KeptParts) → IsKept selects keeps p found → is_in_order found.view found.rising ≡ in_order p
order_is selects keeps p found is = ap (λ (q : SelectedParts). is_in_order q found.rising) is.view ∙ ap (is_in_order (selected selects p)) is.rising

-- where something stands behind the text, it is no derivation's
pub none_whole : (selects : List ℕ → Bool) (keeps : Bool) (bytes rest : List ℕ) (found : KeptParts) → HasParts selects keeps bytes rest found → (rest ≡ [] → ⊥) → (p : Parts) → bytes ≡ derivation p [] → ⊥
none_whole selects keeps bytes rest found has some p is = some (derivation_once has.parts p rest [] (sym has.spelled ∙ is)).1

-- what is kept is kept of the parts that a derivation's text has
pub kept_same : (selects : List ℕ → Bool) (keeps : Bool) (bytes rest : List ℕ) (found : KeptParts) → HasParts selects keeps bytes rest found → (p : Parts) → bytes ≡ derivation p [] → IsKept selects keeps p found
kept_same selects keeps bytes rest found has p is =
    subst (λ (q : Parts). IsKept selects keeps q found) (derivation_once has.parts p rest [] (sym has.spelled ∙ is)).0 has.is

-- where the lists don't rise, it is no derivation's text
pub none_in_order : (selects : List ℕ → Bool) (keeps : Bool) (bytes rest : List ℕ) (found : KeptParts) → HasParts selects keeps bytes rest found → is_in_order found.view found.rising ≡ false → (p : Parts) → Text p bytes → ⊥
none_in_order selects keeps bytes rest found has falls p text =
    true≢false (sym text.1 ∙ sym (order_is selects keeps p found (kept_same selects keeps bytes rest found has p text.0)) ∙ falls)

-- where nothing stands behind the text and the lists rise, it is a derivation's
pub is_text : (selects : List ℕ → Bool) (keeps : Bool) (bytes rest : List ℕ) (found : KeptParts) → HasParts selects keeps bytes rest found → rest ≡ [] → is_in_order found.view found.rising ≡ true → IsText selects keeps bytes found
is_text selects keeps bytes rest found has ends rise = record {
  parts = has.parts;
  text = (has.spelled ∙ ap (derivation has.parts) ends, sym (order_is selects keeps has.parts found has.is) ∙ rise);
  is = has.is;
}

-- what is kept is selected of the derivation
pub is_selected : (selects : List ℕ → Bool) (keeps : Bool) (bytes : List ℕ) (found : KeptParts) → IsText selects keeps bytes found → IsSelected selects bytes found.view
is_selected selects keeps bytes found has = record { parts = has.parts; text = has.text; found_is = has.is.view }

-- every variable is kept
all_kept : (env : List EnvEntry) → variables (λ _. true) env ≡ env
all_kept [] = refl
all_kept (v ∷ env) = ap (λ (more : List EnvEntry). v ∷ more) (all_kept env)

-- where all is kept, these are the parts
pub whole_same : (p : Parts) (found : KeptParts) → IsKept (λ _. true) true p found → with_args found.view found.args ≡ p
whole_same p found is =
    ap (λ (q : SelectedParts). with_args q found.args) is.view ∙ ap (with_args (selected (λ _. true) p)) is.args
    ∙ (λ k. record { outputs = p.outputs; input_drvs = p.input_drvs; input_srcs = p.input_srcs; platform = p.platform; builder = p.builder; args = p.args; env = all_kept p.env k })

-- and the text is theirs
pub whole_text : (bytes : List ℕ) (found : KeptParts) → IsText (λ _. true) true bytes found → Text (with_args found.view found.args) bytes
whole_text bytes found has = subst (λ (p : Parts). Text p bytes) (sym (whole_same has.parts found has.is)) has.text
