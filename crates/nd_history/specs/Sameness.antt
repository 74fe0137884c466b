-- When nodes of two graphs are the same, and when entries go on from others.
-- Public clauses cite this, but `IsSameNode` serves private clauses alone.
use Rattle.std.specs.Prelude.{◌≡◌, ℕ, List, [], ◌++◌}
use Rattle.std.specs.List.{slice_index_or}
use Rattle.nd_graph.specs.Graphs.{Nodes}
use Rattle.nd_history.specs.declared.entry.Entry.{Entry}

-- node d is the same in both graphs, its need aside
pub record IsSameNode (one other : Nodes) (d : ℕ) : Type 0 where
  pub path : slice_index_or one.paths d [] ≡ slice_index_or other.paths d []
  pub inputs : slice_index_or one.inputs d [] ≡ slice_index_or other.inputs d []
  pub sources : slice_index_or one.sources d [] ≡ slice_index_or other.sources d []
  pub outputs : slice_index_or one.outputs d [] ≡ slice_index_or other.outputs d []

-- the entries, oldest first, begin with these
pub record BeginsWith (entries first : List Entry) : Type 0 where
  pub later : List Entry
  pub whole : entries ≡ first ++ later
