use Rattle.std.proofs.Common.{arith}
use Rattle.nd_pump.proofs.turns.Turns.new.Goals as goal

-- what is ready is one of the derivations, all of which were looked at
pub returns-clause-listed : goal.returns-clause-listed
returns-clause-listed c = record { each = λ d ready. let node = ready.node in let sized = c.requires in c.list_ready.ensures.below d (omega (arith, node, sized)) ready }
