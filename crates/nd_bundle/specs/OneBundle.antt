-- A bundle says one thing. Cited by the laws.
use Rattle.std.specs.Prelude.{◌≡◌, ℕ, Bool, List, ◌⊎◌, Result, Err}
use Rattle.nd_bundle.specs.Bundles.{IsBundle, IsBundleRefused, ReadsBundle}
use Rattle.nd_graph.specs.Graphs.{Nodes}
use Rattle.nd_links.specs.declared.fault.GraphError.{GraphError}
use Rattle.nd_links.specs.declared.fault.GraphError.TheVariants as bundle

-- Two readings of a bundle are the same answer, unless one of them wants memory: the refusals exclude one another and
-- the graph, and a bundle has one graph.
abbrev pub OneBundle : Type 0
OneBundle =
    (check : Bool) (text : List ℕ) (one other : Result Nodes GraphError) → ReadsBundle check text one → ReadsBundle check text other
    → (one ≡ Err bundle.Memory) ⊎ ((other ≡ Err bundle.Memory) ⊎ (one ≡ other))

-- no text is a bundle and has a cause to be refused
abbrev pub NeverBoth : Type 0
NeverBoth = (check : Bool) (text : List ℕ) (graph : Nodes) (fault : GraphError) → IsBundle check text graph → IsBundleRefused check text fault → ⊥

-- a text is the bundle of one graph
abbrev pub OneGraph : Type 0
OneGraph = (check : Bool) (text : List ℕ) (a b : Nodes) → IsBundle check text a → IsBundle check text b → a ≡ b
