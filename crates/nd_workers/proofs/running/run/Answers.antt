use Rattle.std.proofs.lemmas.Result.{IfOk-weaker}
use Rattle.nd_workers.proofs.Compared.{asked_in}
use Rattle.nd_workers.proofs.running.run.Goals as goal

pub returns-in-Ok-clause-receipted : goal.returns-in-Ok-clause-receipted
returns-in-Ok-clause-receipted g c = c.in-Ok.ensures.receipted

pub returns-in-Ok-clause-calls : goal.returns-in-Ok-clause-calls
returns-in-Ok-clause-calls g c = λ agrees. asked_in _ _ g.T.Transport.state _ _ _ _ _ (c.in-Ok.ensures.calls agrees)
