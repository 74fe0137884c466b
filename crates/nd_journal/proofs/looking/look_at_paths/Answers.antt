use Rattle.std.proofs.Common.{subst}
use Rattle.nd_path.specs.Refusals.{IsPath}
use Rattle.nd_journal.proofs.Looked.{one_more}
use Rattle.nd_journal.proofs.looking.look_at_paths.Goals as goal

pub loop-path-preserved : goal.loop-path-preserved
loop-path-preserved c =
    one_more IsPath c.args.paths.now c.loop-path.path-index c.path-item.result c.loop-path-test.true c.path-item.is c.loop-path.invariant
    (subst IsPath c.bytes-bytes.ensures.value c.bytes-bytes.ensures.path)
