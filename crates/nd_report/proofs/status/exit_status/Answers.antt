use Rattle.std.proofs.Common.{reverse}
use Rattle.nd_report.proofs.Ending.{one_failed, one_cancelled, none_ended}
use Rattle.nd_report.proofs.status.exit_status.Goals as goal

pub returns-then-counts-gt0 : goal.returns-then-counts-gt0
returns-then-counts-gt0 c =
    one_failed c.args.dispatch.now.inputs (reverse c.args.dispatch.now.history) c.counts-counts.result c.counts-counts.ensures.drvs c.if-counts-gt0.true

pub returns-then-counts-gt0-2 : goal.returns-then-counts-gt0-2
returns-then-counts-gt0-2 c =
    one_cancelled c.args.dispatch.now.inputs (reverse c.args.dispatch.now.history) c.counts-counts.result c.counts-counts.ensures.drvs c.if-counts-gt0-2.true

pub returns : goal.returns
returns c =
    none_ended c.args.dispatch.now.inputs (reverse c.args.dispatch.now.history) c.counts-counts.result c.counts-counts.ensures.drvs c.if-counts-gt0.false
    c.if-counts-gt0-2.false
