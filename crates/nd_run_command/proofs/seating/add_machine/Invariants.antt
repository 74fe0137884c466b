use Rattle.nd_run_command.proofs.Seated.{AreAdded}
use Rattle.nd_run_command.proofs.seating.add_machine.Given as goal

abbrev pub invariant-loop-slot : goal.invariant-loop-slot
invariant-loop-slot l = AreAdded l.machine l.slot l.initial.places.items l.places.items
