-- What was found of a derivation. Serves proofs alone.
use Rattle.std.specs.Prelude.{◌≡◌, ℕ, ◌++◌, List, map, filter}
use Rattle.std.specs.List.{list_all}
use Rattle.nd_aterm.specs.declared.records.Output.{Output}
use Rattle.nd_aterm.specs.Selected.{variables}
use Rattle.nd_line.specs.Kept.{is_attribute}
use Rattle.nd_line.specs.Kinds.{is_known}
use Rattle.nd_aterm.specs.declared.records.Parts.{Parts}
use Rattle.nd_line.specs.Reads.{named}
use Rattle.nd_line.specs.declared.kinds.Outputs.{Outputs}
use Rattle.nd_line.specs.declared.derived.Contents.{Contents}
use Rattle.nd_path.specs.StorePath.{name_of}
use Rattle.nd_line.specs.Derived.{IsOwnPath}
use Rattle.nd_line.specs.declared.line.NamedInput.{NamedInput}
use Rattle.nd_line.specs.declared.line.LineNode.{LineNode}
use Rattle.nd_line.specs.declared.refusal.LineError.{LineError}
use Rattle.nd_line.specs.declared.refusal.LineError.TheVariants.{BadLine, BadPath, BadDerivation, UnknownOutput, BadAttribute, WrongPath, Memory}

-- the names, the known paths, and whether all are known
pub record TellsOutputs (outputs : List Output) (found : Outputs) : Type 0 where
  pub names : found.names ≡ map (λ (output : Output). output.name) outputs
  pub paths : found.paths ≡ map (λ (output : Output). output.path) (filter is_known outputs)
  pub known : found.known ≡ list_all is_known outputs

-- the parts that a line's node is made of, of the environment those that say what the derivation needs
pub record HasContents (parts : Parts) (contents : Contents) : Type 0 where
  pub inputs : contents.inputs ≡ map named parts.input_drvs
  pub sources : contents.sources ≡ parts.input_srcs
  pub outputs : TellsOutputs parts.outputs contents.outputs
  pub platform : contents.platform ≡ parts.platform
  pub builder : contents.builder ≡ parts.builder
  pub env : contents.env ≡ variables is_attribute parts.env

-- the path of an input
abbrev pub path_of : NamedInput → List ℕ
path_of input = input.path

-- the path that the node's text has, over the sources and inputs of the node
abbrev pub IsOwnPathOf : LineNode → List ℕ → List ℕ → Type 0
IsOwnPathOf node text path = IsOwnPath (name_of node.path) text (node.sources ++ map path_of node.inputs) path

-- the node's text has another path
pub record HasAnother (node : LineNode) (text : List ℕ) : Type 0 where
  pub own : List ℕ
  pub is_own : IsOwnPathOf node text own
  pub differs : own ≡ node.path → ⊥

-- the fault is `WrongPath` where the node's text has another path, or it is want of memory
abbrev pub IsAnother : LineNode → List ℕ → LineError → Type 0
IsAnother node text BadLine = ⊥
IsAnother node text BadPath = ⊥
IsAnother node text BadDerivation = ⊥
IsAnother node text UnknownOutput = ⊥
IsAnother node text BadAttribute = ⊥
IsAnother node text WrongPath = HasAnother node text
IsAnother node text Memory = Unit {0}
