-- The two sections of a derivation text behind its first word, each as a reader takes it.
-- No public clause cites this: it serves private clauses alone.
use Rattle.std.specs.Prelude.{ℕ, List, ◌∷◌}
use Rattle.nd_aterm.specs.declared.records.EnvEntry.{EnvEntry}
use Rattle.nd_aterm.specs.declared.records.Parts.{Parts}
use Rattle.nd_aterm.specs.declared.selecting.Paths.{Paths}
use Rattle.nd_aterm.specs.Spelling.{comma, right_parenthesis, string, list}
use Rattle.nd_aterm.specs.Derivations.{output, input_drv, env_entry}

-- how a derivation is built
pub record Command : Type 0 where
  pub platform : List ℕ
  pub builder : List ℕ
  pub args : List (List ℕ)
  pub env : List EnvEntry

-- `[outputs],[inputDrvs],[inputSrcs],`
unfoldable pub paths : Paths → List ℕ → List ℕ
paths p rest = list output p.outputs (comma ∷ list input_drv p.input_drvs (comma ∷ list string p.input_srcs (comma ∷ rest)))

-- `platform,builder,[args],[env])`
unfoldable pub command : Command → List ℕ → List ℕ
command c rest = string c.platform (comma ∷ string c.builder (comma ∷ list string c.args (comma ∷ list env_entry c.env (right_parenthesis ∷ rest))))

-- the parts of a derivation with these sections
abbrev pub joined : Paths → Command → Parts
joined p c = record { outputs = p.outputs; input_drvs = p.input_drvs; input_srcs = p.input_srcs; platform = c.platform; builder = c.builder; args = c.args; env = c.env }
