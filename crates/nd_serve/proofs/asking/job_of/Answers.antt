use Rattle.nd_serve.proofs.JobLines.{job_unnamed}
use Rattle.nd_serve.proofs.asking.job_of.Goals as goal

pub returns-in-None : goal.returns-in-None
returns-in-None c = job_unnamed c.args.drvs c.args.line.now c.cut.result.0.now c.cut.result.1 c.cut.ensures.whole c.in-None.ensures
