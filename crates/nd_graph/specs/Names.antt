-- What is printed of nodes that have no order. The names are this project's own. Cited where refusals are printed.
use Rattle.std.specs.Prelude.{ℕ, List, codes}
use Rattle.nd_graph.specs.declared.fault.OrderError.{OrderError}
use Rattle.nd_graph.specs.declared.fault.OrderError.TheVariants.{Cycle, Memory}

-- why nodes have no order
abbrev pub order_error_name : OrderError → List ℕ
order_error_name Cycle = codes "Cycle"
order_error_name Memory = codes "Memory"
