use Rattle.std.proofs.Common.{refl, ap, length}
use Rattle.nd_run_desk.proofs.Upheld.{counted_made, upheld_more}
use Rattle.nd_run_desk.proofs.desk.Desk.misreport.Goals as goal

pub invariant_of-self-in-Ok : goal.invariant_of-self-in-Ok
invariant_of-self-in-Ok g c = record {
  counted = counted_made _ _ _ _ _ c.in-Ok.ensures.ok refl c.args.self.now.counted c.add.ensures.total;
  since = c.args.self.now.since;
  upheld = upheld_more _ _ _ _ _ _ _ _ _ _ c.args.self.now.upheld c.in_ok-keep.ensures.kept (ap length c.history-index.ensures.value) c.requires.wrong c.in-Ok.ensures.ok;
}
