use Rattle.std.proofs.Common.{ap}
use Rattle.std.specs.Prelude.{take}
use Rattle.nd_workers.proofs.Faulted.{all_before}
use Rattle.nd_workers.proofs.faults.are_noted.Goals as goal

pub are_rows_noted-requires-clause-within : goal.are_rows_noted-requires-clause-within
are_rows_noted-requires-clause-within c = all_before c.args.dispatch.now.inputs c.args.dispatch.now.history _ c.args.opened _ c.history.ensures.legal (ap (take c.args.opened) c.history.ensures.value) c.requires.wide
