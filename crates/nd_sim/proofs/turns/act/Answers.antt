use Rattle.std.proofs.Common.{rules}
use Rattle.nd_sim.proofs.Simulating.{refused_cut}
use Rattle.nd_sim.proofs.turns.act.Goals as goal

pub returns-in-Err-Write-write_refused-clause-partly : goal.returns-in-Err-Write-write_refused-clause-partly
returns-in-Err-Write-write_refused-clause-partly g c =
    refused_cut _ _ _ _ c.in-Ok-Refused.field-0 c.in-Ok-Refused.refusal _ _ c.in-Ok-Refused.ensures.answer (search rules) c.in-Err-Write-write_refused.ensures.partly
