use Rattle.std.proofs.Common.{Ok}
use Rattle.nd_devices.specs.declared.refusals.Fault.{Fault}
use Rattle.nd_report.specs.Reports.{PutsDrvs}
use Rattle.nd_report.proofs.report_writing.put_drvs.Given as goal

-- the lines of the derivations so far are put
abbrev pub invariant-loop-drv : goal.invariant-loop-drv
invariant-loop-drv g l = PutsDrvs {E = Fault} l.dispatch l.drv g.W.Write.contents l.fn.out l.fn.page l.out l.page (Ok (tt {0}))
