use Rattle.std.proofs.Common.{refl}
use Rattle.nd_run_desk.proofs.Upheld.{counted_made, upheld_made}
use Rattle.nd_run_desk.proofs.desk.Desk.end.Goals as goal

pub invariant_of-self : goal.invariant_of-self
invariant_of-self g c = record {
  counted = counted_made _ _ _ _ _ c.in-Ok.ensures.ok refl c.args.self.now.counted c.add.ensures.total;
  since = c.args.self.now.since;
  upheld = upheld_made _ _ _ _ _ _ _ c.args.self.now.upheld c.in-Ok.ensures.ok refl refl;
}
