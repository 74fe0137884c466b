use Rattle.std.specs.Vec.Iter.{into_iter_items}
use Rattle.nd_history.specs.Premises.{premises_of}
use Rattle.nd_audit.proofs.Judged.{begun_by}
use Rattle.nd_audit.proofs.side_by_side.begin_ahead.Goals as goal

pub returns : goal.returns
returns c =
    begun_by (premises_of c.args.inputs.now) c.args.entries.items (into_iter_items c.into_iter-left.result) (into_iter_items c.next.new.left) c.in_ok-ahead.ahead c.next.new.self c.in_ok-batch.batch
    c.in_ok-ahead.ensures.kept c.next.ensures.sized c.in_ok-batch.ensures.next c.into_iter-left.ensures.rest
