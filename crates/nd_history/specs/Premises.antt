-- What a dispatch is made of, as contracts see it: the five inputs, which never change.
-- Public clauses cite this.
use Rattle.std.specs.Prelude.{ℕ, Bool, List}
use Rattle.nd_machines.specs.Builders.{Builder}
use Rattle.nd_eligible.specs.Settings.{Settings}
use Rattle.nd_graph.specs.Graphs.{Nodes}
use Rattle.nd_history.specs.declared.inputs.Inputs.{Inputs}

pub record Premises : Type 0 where
  -- the derivations, numbered from 0
  pub graph : Nodes
  -- the builders: the one at place p of the list is machine p + 1
  pub machines : List Builder
  -- the local machine, which is machine 0
  pub local : Settings
  -- the paths that are listed with their references; of two entries for a path the first counts
  pub info : List (List ℕ × List (List ℕ))
  -- whether the rest goes on after a failure
  pub keep_going : Bool

-- the five inputs, put together
abbrev pub premises : Nodes → List Builder → Settings → List (List ℕ × List (List ℕ)) → Bool → Premises
premises graph machines local info keep_going = record {
  graph = graph;
  machines = machines;
  local = local;
  info = info;
  keep_going = keep_going;
}

abbrev pub premises_of : Inputs → Premises
premises_of i = premises i.graph i.machines i.local i.info.entries i.keep_going
