use Rattle.std.proofs.Common.{◌≡◌, ◌++◌}
use Rattle.std.specs.List.{All}
use Rattle.std.specs.Vec.Iter.{into_iter_items}
use Rattle.nd_sim.specs.Answers.{IsNamed}
use Rattle.nd_sim.specs.Written.{WritesRun}
use Rattle.nd_sim.proofs.turns.take_turns.Given as goal

-- the commands that were taken are written, and the others are to come
abbrev pub invariant-loop-command : goal.invariant-loop-command
invariant-loop-command g l = record {
  inputs : l.dispatch.inputs ≡ l.fn.dispatch.inputs;
  written : WritesRun l.fn.dispatch.inputs l.yielded l.dispatch.history (g.W.Write.contents l.fn.out.device) (g.W.Write.contents l.out.device);
  whole : l.fn.commands.items ≡ l.yielded ++ into_iter_items l.command-iterator;
  named : All (IsNamed l.fn.dispatch.inputs) (into_iter_items l.command-iterator);
  mark : l.out.is_marked ≡ l.fn.out.is_marked;
}
