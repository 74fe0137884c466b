-- What is known of a derivation text of which not all is kept, while it is read.
-- No public clause cites this: it serves private clauses and proofs alone.
use Rattle.std.specs.Prelude.{◌≡◌, ℕ, ◌<◌, ◌++◌, ◌&&◌, Bool, true, List, [], ◌∷◌, Option, Some, None, length, if◌then◌else◌}
use Rattle.std.specs.List.{list_all}
use Rattle.nd_aterm.specs.declared.records.EnvEntry.{EnvEntry}
use Rattle.nd_aterm.specs.declared.records.Parts.{Parts}
use Rattle.nd_aterm.specs.declared.records.SelectedParts.{SelectedParts}
use Rattle.nd_aterm.specs.declared.selecting.KeptCommand.{KeptCommand}
use Rattle.nd_aterm.specs.declared.selecting.KeptParts.{KeptParts}
use Rattle.nd_aterm.specs.declared.selecting.Paths.{Paths}
use Rattle.nd_aterm.specs.declared.sifting.Sifted.{Sifted}
use Rattle.nd_aterm.specs.Spelling.{comma, right_bracket, right_parenthesis, string, listed, list}
use Rattle.nd_aterm.specs.Derivations.{env_entry, derivation, rises, is_below, Text}
use Rattle.nd_aterm.specs.Selected.{variables, selected}
use Rattle.nd_aterm.specs.Sections.{Command, command}

-- the bytes begin with the text of something, and the rest stands behind it
pub record Begins {X : Type 0} (text : X → List ℕ → List ℕ) (bytes rest : List ℕ) : Type 0 where
  pub whole : X
  pub spelled : bytes ≡ text whole rest

-- these are the things of a list that is kept or not
abbrev pub things_kept : {X : Type 0} → Bool → List X → List X
things_kept keeps xs = if keeps then xs else []

-- the bytes begin with a list of strings, which is kept or not
pub record AreStrings (keeps : Bool) (bytes : List ℕ) (kept : List (List ℕ)) (rest : List ℕ) : Type 0 where
  pub whole : List (List ℕ)
  pub spelled : bytes ≡ list string whole rest
  pub kept_is : kept ≡ things_kept keeps whole

-- no list with an item goes from here on to its closing bracket
abbrev pub NoneListed : {X : Type 0} → (X → List ℕ → List ℕ) → List ℕ → Type 0
NoneListed {X} item bytes = (xs : List X) (rest : List ℕ) → 0 < length xs → bytes ≡ listed item xs (right_bracket ∷ rest) → ⊥

-- the bytes begin with items of a list
pub record BeginsListed {X : Type 0} (item : X → List ℕ → List ℕ) (bytes rest : List ℕ) : Type 0 where
  pub whole : List X
  pub some : 0 < length whole
  pub spelled : bytes ≡ listed item whole rest

-- the bytes begin with a string, which is kept or not
pub record IsValue (keeps : Bool) (bytes : List ℕ) (kept : Option (List ℕ)) (rest : List ℕ) : Type 0 where
  pub value : List ℕ
  pub spelled : bytes ≡ string value rest
  pub kept_is : kept ≡ (if keeps then Some value else None)

-- the bytes begin with a variable of this name, whose value is kept where the name is selected
pub record IsVariable (selects : List ℕ → Bool) (bytes key : List ℕ) (kept : Option (List ℕ)) (rest : List ℕ) : Type 0 where
  pub value : List ℕ
  pub spelled : bytes ≡ env_entry (record { key = key; value = value }) rest
  pub kept_is : kept ≡ (if selects key then Some value else None)

-- the name of the last variable
abbrev pub last_name : List EnvEntry → Option (List ℕ)
last_name [] = None
last_name (v ∷ []) = Some v.key
last_name (v ∷ w ∷ env) = last_name (w ∷ env)

-- the name may stand behind the last one
abbrev pub follows : Option (List ℕ) → List ℕ → Bool
follows None name = true
follows (Some last) name = is_below last name

-- the variable, where it has a value
abbrev pub kept_of : List ℕ → Option (List ℕ) → List EnvEntry
kept_of key None = []
kept_of key (Some value) = record { key = key; value = value } ∷ []

-- this is what is kept of an environment
pub record IsSifted (selects : List ℕ → Bool) (env : List EnvEntry) (sifted : Sifted) : Type 0 where
  pub kept : sifted.kept.items ≡ variables selects env
  pub last : sifted.last ≡ last_name env
  pub rising : sifted.rising ≡ rises (λ v. v.key) env

-- one more variable is taken: it is kept where it has a value, and its name is the last one
pub record IsTaken (key : List ℕ) (value : Option (List ℕ)) (old new : Sifted) : Type 0 where
  pub kept : new.kept.items ≡ old.kept.items ++ kept_of key value
  pub last : new.last ≡ Some key
  pub rising : new.rising ≡ (old.rising && follows old.last key)

-- the bytes begin with one more variable, and that is taken
pub record IsSiftedMore (selects : List ℕ → Bool) (bytes rest : List ℕ) (old new : Sifted) : Type 0 where
  pub variable : EnvEntry
  pub spelled : bytes ≡ env_entry variable rest
  pub taken : IsTaken variable.key (if selects variable.key then Some variable.value else None) old new

-- the bytes begin with variables of an environment, of which this is kept
pub record BeginsEnv (selects : List ℕ → Bool) (bytes rest : List ℕ) (sifted : Sifted) : Type 0 where
  pub env : List EnvEntry
  pub some : 0 < length env
  pub spelled : bytes ≡ listed env_entry env rest
  pub is : IsSifted selects env sifted

-- the bytes begin with an environment, of which this is kept
pub record HasEnv (selects : List ℕ → Bool) (bytes rest : List ℕ) (sifted : Sifted) : Type 0 where
  pub env : List EnvEntry
  pub spelled : bytes ≡ list env_entry env rest
  pub is : IsSifted selects env sifted

-- `[args],[env])`
unfoldable pub settings : List (List ℕ) → List EnvEntry → List ℕ → List ℕ
settings args env rest = list string args (comma ∷ list env_entry env (right_parenthesis ∷ rest))

-- the bytes begin with the arguments and an environment, of which this is kept
pub record HasSettings (selects : List ℕ → Bool) (keeps_args : Bool) (bytes rest : List ℕ) (kept : List (List ℕ)) (sifted : Sifted) : Type 0 where
  pub args : List (List ℕ)
  pub env : List EnvEntry
  pub spelled : bytes ≡ settings args env rest
  pub kept_is : kept ≡ things_kept keeps_args args
  pub is : IsSifted selects env sifted

-- no arguments and environment stand here
abbrev pub NoSettings : List ℕ → Type 0
NoSettings bytes = (args : List (List ℕ)) (env : List EnvEntry) (rest : List ℕ) → bytes ≡ settings args env rest → ⊥

-- the bytes begin with how a derivation is built, of which this is kept
pub record HasCommand (selects : List ℕ → Bool) (keeps_args : Bool) (bytes rest : List ℕ) (found : KeptCommand) : Type 0 where
  pub whole : Command
  pub spelled : bytes ≡ command whole rest
  pub platform : found.platform ≡ whole.platform
  pub builder : found.builder ≡ whole.builder
  pub args : found.args ≡ things_kept keeps_args whole.args
  pub env : IsSifted selects whole.env found.env

-- this is kept of these parts
pub record IsKept (selects : List ℕ → Bool) (keeps_args : Bool) (parts : Parts) (found : KeptParts) : Type 0 where
  pub view : found.view ≡ selected selects parts
  pub args : found.args ≡ things_kept keeps_args parts.args
  pub rising : found.rising ≡ rises (λ v. v.key) parts.env

-- the bytes begin with a derivation's text, and this is kept of the derivation
pub record HasParts (selects : List ℕ → Bool) (keeps_args : Bool) (bytes rest : List ℕ) (found : KeptParts) : Type 0 where
  pub parts : Parts
  pub spelled : bytes ≡ derivation parts rest
  pub is : IsKept selects keeps_args parts found

-- the bytes are a derivation's text, and this is kept of the derivation
pub record IsText (selects : List ℕ → Bool) (keeps_args : Bool) (bytes : List ℕ) (found : KeptParts) : Type 0 where
  pub parts : Parts
  pub text : Text parts bytes
  pub is : IsKept selects keeps_args parts found

-- the lists of what is selected rise, and so does the environment
abbrev pub is_in_order : SelectedParts → Bool → Bool
is_in_order p rising =
    rises (λ o. o.name) p.outputs
    && rises (λ d. d.path) p.input_drvs
    && list_all (λ d. rises (λ name. name) d.outputs) p.input_drvs
    && rises (λ src. src) p.input_srcs
    && rising

-- what is kept of two sections
pub record IsJoined (paths : Paths) (command : KeptCommand) (found : KeptParts) : Type 0 where
  pub view : found.view ≡ (record { outputs = paths.outputs; input_drvs = paths.input_drvs; input_srcs = paths.input_srcs; platform = command.platform; builder = command.builder; env = command.env.kept.items })
  pub args : found.args ≡ command.args
  pub rising : found.rising ≡ command.env.rising
