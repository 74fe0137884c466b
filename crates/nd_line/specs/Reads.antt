-- What a line of a bundle says, and when it is refused with which refusal (this project's own format).
-- Cited by the clause of `read_line`, by the clauses of a bundle's readers, through what a bundle is, and by the laws.
use Rattle.std.specs.Prelude.{◌≡◌, ℕ, Bool, true, false, ◌==◌, List, map, Option, Some, None, Result, Ok, Err}
use Rattle.nd_bytes.specs.Cut.{until, behind}
use Rattle.nd_aterm.specs.declared.records.InputDrv.{InputDrv}
use Rattle.nd_aterm.specs.declared.records.Output.{Output}
use Rattle.nd_aterm.specs.declared.records.Parts.{Parts}
use Rattle.nd_path.specs.StorePath.{name_of}
use Rattle.nd_line.specs.Kinds.{is_drv, knows_outputs, references}
use Rattle.nd_line.specs.Derived.{Derives, IsOwnPath}
use Rattle.nd_line.specs.Attributes.{Needs, AsksNothing}
use Rattle.nd_line.specs.declared.line.NamedInput.{NamedInput}
use Rattle.nd_line.specs.declared.line.LineNode.{LineNode}
use Rattle.nd_line.specs.declared.refusal.LineError.{LineError}
use Rattle.nd_line.specs.declared.refusal.LineError.TheVariants.{BadLine, BadPath, BadDerivation, UnknownOutput, BadAttribute, WrongPath, Memory}

-- what stands before the first space
abbrev pub front : List ℕ → List ℕ
front line = until (λ b. b == 32) line

-- what stands behind the first space
abbrev pub back : List ℕ → Option (List ℕ)
back line = behind (λ b. b == 32) line

-- the line is the path of a derivation, a space and this text
pub record Splits (line text : List ℕ) : Type 0 where
  pub text_is : back line ≡ Some text
  pub path_is : is_drv (front line) ≡ true

-- an input derivation with the outputs that are wanted of it
abbrev pub named : InputDrv → NamedInput
named input = record { path = input.path; names = input.outputs }

-- the node has the need and the paths of the derivation with these parts
pub record HasParts (parts : Parts) (node : LineNode) : Type 0 where
  pub need : Needs parts.platform parts.builder parts.env node.need
  pub inputs : node.inputs ≡ map named parts.input_drvs
  pub sources : node.sources ≡ parts.input_srcs
  pub output_names : node.output_names ≡ map (λ (output : Output). output.name) parts.outputs
  pub outputs : node.outputs ≡ map (λ (output : Output). output.path) parts.outputs

-- the text says this of the node
pub record Tells (text : List ℕ) (parts : Parts) (node : LineNode) : Type 0 where
  pub derives : Derives text parts
  pub known : knows_outputs parts ≡ true
  pub has : HasParts parts node

-- The node of the derivation with this path and this text; with the check the path is the one that the text has.
pub record IsNode (check : Bool) (path text : List ℕ) (node : LineNode) : Type 0 where
  pub parts : Parts
  pub path_is : node.path ≡ path
  pub tells : Tells text parts node
  pub own : check ≡ true → IsOwnPath (name_of path) text (references parts) path

-- What the line says.
pub record IsLine (check : Bool) (line : List ℕ) (node : LineNode) : Type 0 where
  pub text : List ℕ
  pub splits : Splits line text
  pub is_node : IsNode check (front line) text node

-- the text tells of a node, whose path is another one
pub record IsElsewhere (path text : List ℕ) : Type 0 where
  pub parts : Parts
  pub node : LineNode
  pub tells : Tells text parts node
  pub own : List ℕ
  pub is_own : IsOwnPath (name_of path) text (references parts) own
  pub differs : own ≡ path → ⊥

-- When the text behind a path is refused: it is no derivation's; an output isn't known; its structured attributes
-- say nothing; with the check, its path is another one. The causes exclude one another, the earlier one first.
abbrev pub IsBad : Bool → List ℕ → List ℕ → LineError → Type 0
IsBad check path text BadLine = ⊥
IsBad check path text BadPath = ⊥
IsBad check path text BadDerivation = (parts : Parts) → Derives text parts → ⊥
IsBad check path text UnknownOutput = (parts : Parts) × Derives text parts × (knows_outputs parts ≡ false)
IsBad check path text BadAttribute = (parts : Parts) × Derives text parts × (knows_outputs parts ≡ true) × AsksNothing parts.env
IsBad check path text WrongPath = (check ≡ true) × IsElsewhere path text
IsBad check path text Memory = Unit {0}

-- the line splits, and its text is refused
pub record IsBadText (check : Bool) (line : List ℕ) (fault : LineError) : Type 0 where
  pub text : List ℕ
  pub splits : Splits line text
  pub is_bad : IsBad check (front line) text fault

-- When the line is refused with which refusal. Want of memory may come at any point.
abbrev pub IsFaulty : Bool → List ℕ → LineError → Type 0
IsFaulty check line BadLine = back line ≡ None
IsFaulty check line BadPath = (text : List ℕ) × (back line ≡ Some text) × (is_drv (front line) ≡ false)
IsFaulty check line BadDerivation = IsBadText check line BadDerivation
IsFaulty check line UnknownOutput = IsBadText check line UnknownOutput
IsFaulty check line BadAttribute = IsBadText check line BadAttribute
IsFaulty check line WrongPath = IsBadText check line WrongPath
IsFaulty check line Memory = Unit {0}

-- What reading a line answers.
abbrev pub Reads : Bool → List ℕ → Result LineNode LineError → Type 0
Reads check line (Ok node) = IsLine check line node
Reads check line (Err fault) = IsFaulty check line fault
