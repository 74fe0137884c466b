-- What is selected of a derivation: all but its arguments, and of its environment the variables whose names a test
-- selects.
-- Public clauses cite this.
use Rattle.std.specs.Prelude.{◌≡◌, ℕ, Bool, List, filter}
use Rattle.nd_aterm.specs.declared.records.EnvEntry.{EnvEntry}
use Rattle.nd_aterm.specs.declared.records.Parts.{Parts}
use Rattle.nd_aterm.specs.declared.records.SelectedParts.{SelectedParts}
use Rattle.nd_aterm.specs.Derivations.{Text}

-- every variable whose name is selected, in their order
abbrev pub variables : (List ℕ → Bool) → List EnvEntry → List EnvEntry
variables selects env = filter (λ (v : EnvEntry). selects v.key) env

-- what is selected of these parts
abbrev pub selected : (List ℕ → Bool) → Parts → SelectedParts
selected selects p = record { outputs = p.outputs; input_drvs = p.input_drvs; input_srcs = p.input_srcs; platform = p.platform; builder = p.builder; env = variables selects p.env }

-- the parts of which this is selected, where all variables are, and these arguments
abbrev pub with_args : SelectedParts → List (List ℕ) → Parts
with_args p args = record { outputs = p.outputs; input_drvs = p.input_drvs; input_srcs = p.input_srcs; platform = p.platform; builder = p.builder; args = args; env = p.env }

-- the bytes are a derivation's text, and this is what is selected of the derivation
pub record IsSelected (selects : List ℕ → Bool) (bytes : List ℕ) (found : SelectedParts) : Type 0 where
  pub parts : Parts
  pub text : Text parts bytes
  pub found_is : found ≡ selected selects parts
