use Rattle.std.proofs.Common.{◌≡◌, reverse}
use Rattle.nd_history.specs.Premises.{premises_of}
use Rattle.nd_history.specs.Standing.{drvs_in}
use Rattle.nd_ledger.specs.Inner.{IsKept}
use Rattle.nd_history.specs.Pumping.{HasPumped}
use Rattle.nd_history.proofs.Steps.{open_count}
use Rattle.nd_ledger.proofs.dispatch.Dispatch.pump.Given as goal

abbrev pub invariant-loop-step : goal.invariant-loop-step
invariant-loop-step l = record {
  kept : IsKept l.self-inside;
  same : premises_of l.self-inside.inputs ≡ l.fn.self.inputs;
  pumped : HasPumped l.fn.self.inputs l.fn.self.history l.self-inside.state.book.entries;
}

abbrev pub decreases-loop-step : goal.decreases-loop-step
decreases-loop-step l = open_count (reverse l.self-inside.state.book.entries) (drvs_in (premises_of l.self-inside.inputs))
