use Rattle.std.proofs.Common.{take}
use Rattle.nd_links.specs.Whole.{HasInputs}
use Rattle.nd_links.proofs.missing.has_inputs.Given as goal

abbrev pub invariant-loop-want : goal.invariant-loop-want
invariant-loop-want l = HasInputs l.register.paths (take l.want-index l.wants)
