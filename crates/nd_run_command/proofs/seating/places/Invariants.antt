use Rattle.nd_run_command.proofs.Seated.{AreSeated}
use Rattle.nd_run_command.proofs.seating.places.Given as goal

abbrev pub invariant-loop-machine : goal.invariant-loop-machine
invariant-loop-machine l = AreSeated l.dispatch.inputs l.machine l.places.items
