-- A line's refusal as one of the bundle, and a graph's. Cited by the clauses of `GraphError::of_line` and of `From<OrderError>`.
use Rattle.std.specs.Prelude.{ℕ}
use Rattle.nd_graph.specs.declared.fault.OrderError.{OrderError}
use Rattle.nd_graph.specs.declared.fault.OrderError.TheVariants as order
use Rattle.nd_line.specs.declared.refusal.LineError.{LineError}
use Rattle.nd_line.specs.declared.refusal.LineError.TheVariants.{BadLine, BadPath, BadDerivation, UnknownOutput, BadAttribute, WrongPath, Memory}
use Rattle.nd_links.specs.declared.fault.GraphError.{GraphError}
use Rattle.nd_links.specs.declared.fault.GraphError.TheVariants as bundle

-- with the number of the line, but for want of memory, which has none
abbrev pub fault_at : LineError → ℕ → GraphError
fault_at BadLine line = bundle.BadLine line
fault_at BadPath line = bundle.BadPath line
fault_at BadDerivation line = bundle.BadDerivation line
fault_at UnknownOutput line = bundle.UnknownOutput line
fault_at BadAttribute line = bundle.BadAttribute line
fault_at WrongPath line = bundle.WrongPath line
fault_at Memory line = bundle.Memory

-- why the nodes of a bundle have no order
abbrev pub of_order : OrderError → GraphError
of_order order.Cycle = bundle.Cycle
of_order order.Memory = bundle.Memory
