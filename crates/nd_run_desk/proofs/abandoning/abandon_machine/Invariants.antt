use Rattle.nd_run_desk.proofs.Leaving.{IsGivenUp}
use Rattle.nd_run_desk.proofs.abandoning.abandon_machine.Given as goal

abbrev pub invariant-loop-slot : goal.invariant-loop-slot
invariant-loop-slot l = IsGivenUp l.manned l.machine l.slot l.initial.dispatch l.dispatch
