use Rattle.nd_run_desk.proofs.Jobs.{job_made}
use Rattle.nd_run_desk.proofs.desk.Desk.next.Goals as goal

pub returns-in-Ok-clause-of : goal.returns-in-Ok-clause-of
returns-in-Ok-clause-of g c =
    job_made g.L.Opened.opening c.pump.new.self.dispatch c.in-Some.ticket c.in-Ok.job c.pump.new.self.upheld.runs
    c.in-Ok.ensures.ticket c.in-Ok.ensures.live c.in-Ok.ensures.path c.in-Ok.ensures.outputs c.in-Ok.ensures.paths
