-- What a bundle is: the graph that its lines say, or the first of its refusals (this project's own format). The refusals of a
-- line come first, the first such line's; then those over the whole. Cited by the readers' clauses.
use Rattle.std.specs.Prelude.{◌≡◌, ℕ, ◌+◌, Bool, List, ◌∷◌, ◌++◌, length, Result, Ok, Err}
use Rattle.std.specs.List.{AllZip}
use Rattle.nd_line.specs.declared.line.LineNode.{LineNode}
use Rattle.nd_line.specs.declared.refusal.LineError.{LineError}
use Rattle.nd_line.specs.declared.refusal.LineError.TheVariants as line_error
use Rattle.nd_links.specs.declared.fault.GraphError.{GraphError}
use Rattle.nd_links.specs.declared.fault.GraphError.TheVariants.{BadLine, BadPath, BadDerivation, UnknownOutput, BadAttribute, WrongPath, Duplicate, MissingInput, MissingOutput, Cycle, TooMany, Memory}
use Rattle.nd_graph.specs.Graphs.{Nodes, rows_of, IsSound}
use Rattle.nd_bundle.specs.Lines.{lines}
use Rattle.nd_line.specs.Reads.{IsLine, IsFaulty}
use Rattle.nd_graph.specs.Walks.{IsAcyclic}
use Rattle.nd_links.specs.Whole.{links_of, IsGraphOf, IsWholeFault}

-- The graph of the bundle with this text; with the check each line's path is its own text path. No two lines have one
-- path, each input and named output is there, there are at most 65,536 lines, and none needs itself.
pub record IsBundle (check : Bool) (text : List ℕ) (graph : Nodes) : Type 0 where
  pub nodes : List LineNode
  pub says : AllZip (IsLine check) (lines text) nodes
  pub of : IsGraphOf nodes graph
  pub sound : IsSound graph
  pub acyclic : IsAcyclic (rows_of graph)

-- the first line that is refused has this number, from 1, and this refusal
pub record IsLineRefused (check : Bool) (text : List ℕ) (fault : LineError) (number : ℕ) : Type 0 where
  pub before : List (List ℕ)
  pub line : List ℕ
  pub behind : List (List ℕ)
  pub nodes : List LineNode
  pub parts : lines text ≡ before ++ line ∷ behind
  pub says : AllZip (IsLine check) before nodes
  pub refused : IsFaulty check line fault
  pub number_is : number ≡ length before + 1

-- each line says a node, and the nodes are no graph together
pub record IsWholeRefused (check : Bool) (text : List ℕ) (fault : GraphError) : Type 0 where
  pub nodes : List LineNode
  pub says : AllZip (IsLine check) (lines text) nodes
  pub refused : IsWholeFault (links_of nodes) fault

-- The first refusal of the bundle with this text. Want of memory may come at any point.
abbrev pub IsFirstFault : Bool → List ℕ → GraphError → Type 0
IsFirstFault check text (BadLine n) = IsLineRefused check text line_error.BadLine n
IsFirstFault check text (BadPath n) = IsLineRefused check text line_error.BadPath n
IsFirstFault check text (BadDerivation n) = IsLineRefused check text line_error.BadDerivation n
IsFirstFault check text (UnknownOutput n) = IsLineRefused check text line_error.UnknownOutput n
IsFirstFault check text (BadAttribute n) = IsLineRefused check text line_error.BadAttribute n
IsFirstFault check text (WrongPath n) = IsLineRefused check text line_error.WrongPath n
IsFirstFault check text (Duplicate n) = IsWholeRefused check text (Duplicate n)
IsFirstFault check text (MissingInput n) = IsWholeRefused check text (MissingInput n)
IsFirstFault check text (MissingOutput n) = IsWholeRefused check text (MissingOutput n)
IsFirstFault check text Cycle = IsWholeRefused check text Cycle
IsFirstFault check text TooMany = IsWholeRefused check text TooMany
IsFirstFault check text Memory = Unit {0}

-- Why this text is no bundle: the first refusal, which is no want of memory.
abbrev pub IsBundleRefused : Bool → List ℕ → GraphError → Type 0
IsBundleRefused check text Memory = ⊥
IsBundleRefused check text fault = IsFirstFault check text fault

-- what reading the bundle with this text answers
abbrev pub ReadsBundle : Bool → List ℕ → Result Nodes GraphError → Type 0
ReadsBundle check text (Ok graph) = IsBundle check text graph
ReadsBundle check text (Err fault) = IsFirstFault check text fault
