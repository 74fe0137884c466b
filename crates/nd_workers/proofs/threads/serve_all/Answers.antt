use Rattle.nd_workers.proofs.Zips.{zip_via}
use Rattle.nd_workers.proofs.threads.serve_all.Goals as goal

pub returns-clause-each : goal.returns-clause-each
returns-clause-each g c = zip_via _ _ _ c.start_all.ensures.each c.join_all.ensures.each (λ w r x p q. q w p)
