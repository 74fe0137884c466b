-- The graph of nodes whose inputs are numbered.
use Rattle.std.proofs.Common.{◌≡◌, ℕ, ◌≤◌, ◌<◌, List, length, sym, ap, ◌∙◌, subst}
use Rattle.nd_graph.specs.Graphs.{Nodes, needed, node_limit, nodes_with, IsSound}
use Rattle.nd_graph.specs.Walks.{AreDistinct, AreInRange}
use Rattle.nd_graph.specs.declared.fault.OrderError.TheVariants as order
use Rattle.nd_graph.specs.declared.graph.Input.{Input}
use Rattle.nd_links.specs.Settled.{links_in, ArePaired, AreSized, IsGraphOfRows, IsLinkFault, IsOrderedFault, IsResolved}
use Rattle.nd_links.specs.Whole.{AllNumbered, IsWholeFault}
use Rattle.nd_links.specs.declared.details.Details.{Details}
use Rattle.nd_links.specs.declared.fault.GraphError.{GraphError}
use Rattle.nd_links.specs.declared.fault.GraphError.TheVariants as bundle
use Rattle.nd_bundle.proofs.Assembled.{is_sound, numbered_ranged, order_fault, too_many}
use Rattle.nd_links.proofs.Gathered.{link_whole}

-- the numbers of the nodes' inputs, found among keys that are their paths and names that are theirs
pub record AreNumbers (paths : List (List ℕ)) (details : Details) (keys : List (List ℕ)) (rows : List (List Input)) : Type 0 where
  pub same : keys ≡ paths
  pub distinct : AreDistinct paths
  pub resolved : IsResolved paths details.names.items details.wants.items rows

pub are_numbers : (paths : List (List ℕ)) (details : Details) (keys : List (List ℕ)) (names : List (List (List ℕ))) (rows : List (List Input)) → keys ≡ paths → names ≡ details.names.items → AreDistinct paths
    → IsResolved keys names details.wants.items rows → AreNumbers paths details keys rows
are_numbers paths details keys names rows same named distinct found = record {
  same = same;
  distinct = distinct;
  resolved = subst (λ (ps : List (List ℕ)). IsResolved ps details.names.items details.wants.items rows) same (subst (λ (ns : List (List (List ℕ))). IsResolved keys ns details.wants.items rows) named found);
}

pub in_range : (paths : List (List ℕ)) (details : Details) (keys : List (List ℕ)) (rows : List (List Input)) → AreNumbers paths details keys rows → AreSized paths details → AreInRange (needed rows)
in_range paths details keys rows are sized = numbered_ranged paths details.names.items details.wants.items rows are.resolved.numbered sized.wants

pub sound : (paths : List (List ℕ)) (details : Details) (keys : List (List ℕ)) (rows : List (List Input)) → AreNumbers paths details keys rows → AreSized paths details → ArePaired details.names.items details.outputs.items → length keys ≤ node_limit
    → IsSound (nodes_with keys details.needs.items rows details.sources.items details.outputs.items)
sound paths details keys rows are sized paired few =
    subst (λ (ps : List (List ℕ)). IsSound (nodes_with ps details.needs.items rows details.sources.items details.outputs.items)) (sym are.same)
    (is_sound paths details.needs.items rows details.sources.items details.names.items details.outputs.items details.wants.items
    sized.needs sized.wants sized.sources sized.outputs (subst (λ (ps : List (List ℕ)). length ps ≤ node_limit) are.same few) are.distinct are.resolved.numbered paired)

pub graph_parts : (paths : List (List ℕ)) (details : Details) (keys : List (List ℕ)) (rows : List (List Input)) (graph : Nodes) → AreNumbers paths details keys rows → graph ≡ nodes_with keys details.needs.items rows details.sources.items details.outputs.items → IsGraphOfRows paths details graph
graph_parts paths details keys rows graph are is = record {
  paths_are = ap (λ (g : Nodes). g.paths) is ∙ are.same;
  needs = ap (λ (g : Nodes). g.needs) is;
  inputs = subst (λ (rs : List (List Input)). AllNumbered paths details.names.items details.wants.items rs) (sym (ap (λ (g : Nodes). g.inputs) is)) are.resolved.numbered;
  sources = ap (λ (g : Nodes). g.sources) is;
  outputs = ap (λ (g : Nodes). g.outputs) is;
}

pub ordered_fault : (paths : List (List ℕ)) (details : Details) (keys : List (List ℕ)) (rows : List (List Input)) (error : GraphError) → AreNumbers paths details keys rows → IsOrderedFault keys rows error → IsWholeFault (links_in paths details) error
ordered_fault paths details keys rows (bundle.BadLine line) are is = absurd is
ordered_fault paths details keys rows (bundle.BadPath line) are is = absurd is
ordered_fault paths details keys rows (bundle.BadDerivation line) are is = absurd is
ordered_fault paths details keys rows (bundle.UnknownOutput line) are is = absurd is
ordered_fault paths details keys rows (bundle.BadAttribute line) are is = absurd is
ordered_fault paths details keys rows (bundle.WrongPath line) are is = absurd is
ordered_fault paths details keys rows (bundle.Duplicate line) are is = absurd is
ordered_fault paths details keys rows (bundle.MissingInput line) are is = absurd is
ordered_fault paths details keys rows (bundle.MissingOutput line) are is = absurd is
ordered_fault paths details keys rows bundle.Cycle are is = order_fault paths details.names.items details.wants.items rows are.distinct are.resolved order.Cycle is
ordered_fault paths details keys rows bundle.TooMany are is = too_many paths details.names.items details.wants.items rows are.distinct are.resolved is.0 (subst (λ (ps : List (List ℕ)). node_limit < length ps) are.same is.1)
ordered_fault paths details keys rows bundle.Memory are is = tt

pub unlinked_fault : (paths : List (List ℕ)) (details : Details) (keys : List (List ℕ)) (names : List (List (List ℕ))) (error : GraphError) → keys ≡ paths → names ≡ details.names.items → AreDistinct paths
    → IsLinkFault keys names details.wants.items error → IsWholeFault (links_in paths details) error
unlinked_fault paths details keys names error same named distinct why =
    link_whole (links_in paths details) error distinct
    (subst (λ (ps : List (List ℕ)). IsLinkFault ps details.names.items details.wants.items error) same (subst (λ (ns : List (List (List ℕ))). IsLinkFault keys ns details.wants.items error) named why))
