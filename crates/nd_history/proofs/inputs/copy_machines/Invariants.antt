use Rattle.std.proofs.Common.{◌≡◌, take}
use Rattle.nd_history.proofs.inputs.copy_machines.Given as goal

abbrev pub invariant-loop-machine : goal.invariant-loop-machine
invariant-loop-machine l = l.copy.items ≡ take l.machine-index l.machines
