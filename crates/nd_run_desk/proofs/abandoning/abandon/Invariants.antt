use Rattle.nd_run_desk.proofs.Leaving.{AreGivenUp}
use Rattle.nd_run_desk.proofs.abandoning.abandon.Given as goal

abbrev pub invariant-loop-machine : goal.invariant-loop-machine
invariant-loop-machine l = AreGivenUp l.manned l.machine l.initial.dispatch l.dispatch
