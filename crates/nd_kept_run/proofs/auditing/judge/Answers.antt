use Rattle.std.proofs.Common.{length}
use Rattle.nd_kept_run.proofs.Judged.{same_legal, refused_unless}
use Rattle.nd_kept_run.proofs.auditing.judge.Goals as goal

pub returns-in-Ok-clause-exactly : goal.returns-in-Ok-clause-exactly
returns-in-Ok-clause-exactly g c = λ text world known accepts.
    same_legal c.in-Ok.opened.dispatch world c.legal.result (c.in-Ok.ensures.exactly text world known accepts) c.legal.ensures

pub returns-in-Err-clause-exactly : goal.returns-in-Err-clause-exactly
returns-in-Err-clause-exactly g c = λ text world known accepts.
    refused_unless c.in-Err.fault c.refused.result (length world.history) (c.in-Err.ensures.exactly text world known accepts) c.refused.ensures
