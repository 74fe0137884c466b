use Rattle.std.proofs.Common.{ap, ◌∙◌}
use Rattle.nd_ledger.specs.Worlds.{World}
use Rattle.nd_run_desk.proofs.Counts.{abandoned_made}
use Rattle.nd_run_desk.proofs.Upheld.{upheld_abandoned}
use Rattle.nd_run_desk.proofs.desk.Desk.begin_no_more.Goals as goal

pub invariant_of-self : goal.invariant_of-self
invariant_of-self g c = record {
  counted = abandoned_made c.args.self.now.dispatch.inputs c.as_slice.result.now _ _ (ap (λ (w : World). w.history) c.abandon.ensures) ∙ c.args.self.now.counted;
  since = c.args.self.now.since;
  upheld = upheld_abandoned _ _ _ _ _ _ c.as_slice.result.now c.args.self.now.upheld c.abandon.ensures;
}
