use Rattle.std.proofs.Common.{refl}
use Rattle.std.proofs.lemmas.Result.{IfOk-weaker}
use Rattle.nd_workers.proofs.writing.run_kept.Goals as goal

pub returns-clause-written : goal.returns-clause-written
returns-clause-written g c = IfOk-weaker c.run_by.result _ _ (λ e h. h.written refl) c.run_by.ensures.written

pub returns-clause-unwritten : goal.returns-clause-unwritten
returns-clause-unwritten g c = IfOk-weaker c.run_by.result _ _ (λ e h no. (h.unwritten no).1) c.run_by.ensures.written
