-- What `ask` was given, of whose graph it has the needs alone. The clauses of `take_asked` cite this.
use Rattle.std.specs.Prelude.{ℕ, List, Option}
use Rattle.nd_links.specs.Placing.{ArePlaced}
use Rattle.nd_graph.specs.Graphs.{Nodes}
use Rattle.nd_cli.specs.Asked.{ReadsPark}
use Rattle.nd_cli.specs.declared.options.ParkOptions.{ParkOptions}
use Rattle.nd_cli.specs.declared.ask.Asked.{Asked}

-- the whole input, as a bundle for the park of the options, whose graph has these needs
pub record ReadsAsked (options : ParkOptions) (unread left : Option (List ℕ)) (asked : Asked) : Type 0 where
  pub graph : Nodes
  pub park : ReadsPark options unread left graph asked.setting.machines.items asked.setting.info.entries
  pub placed : ArePlaced asked.needs.table asked.needs.places graph.needs
