use Rattle.std.proofs.Common.{◌∙◌}
use Rattle.nd_run_desk.proofs.Upheld.{counted_pumped, upheld_by_pump}
use Rattle.nd_run_desk.proofs.desk.Desk.choose.Goals as goal

pub invariant_of-self : goal.invariant_of-self
invariant_of-self g c = record {
  counted = counted_pumped _ _ _ c.pump.result c.pump.ensures.steps c.pump.ensures.err ∙ c.args.self.now.counted;
  since = c.args.self.now.since;
  upheld = upheld_by_pump _ _ _ _ _ _ c.pump.result c.args.self.now.upheld c.pump.ensures.inputs c.pump.ensures.steps c.pump.ensures.err;
}
