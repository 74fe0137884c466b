use Rattle.std.proofs.Common.{◌≡◌, ◌++◌, take}
use Rattle.nd_agents.specs.CallTexts.{spaced}
use Rattle.nd_agents.proofs.call_text.push_spaced.Given as goal

abbrev pub invariant-loop-path : goal.invariant-loop-path
invariant-loop-path l = l.line.items ≡ l.initial.line.items ++ spaced (take l.path-index l.paths)
