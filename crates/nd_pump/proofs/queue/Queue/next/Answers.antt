use Rattle.std.proofs.Common.{◌<◌, ◌↔◌, Bool, false, List, length, IsTrue, sym, subst, ap, ◌∙◌, arith}
use Rattle.std.proofs.Math.ListN.{length-set}
use Rattle.std.proofs.lemmas.Bool.{false≢true}
use Rattle.nd_flags.proofs.RowFacts.{IsMember-within}
use Rattle.nd_pump.specs.Queues.{IsDue}
use Rattle.nd_pump.specs.QueueKept.{queued}
use Rattle.nd_pump.proofs.Keeping.{kept_searched}
use Rattle.nd_pump.proofs.QueueFacts.{searched_more}
use Rattle.nd_pump.proofs.queue.Queue.next.Goals as goal

pub loop-drv-preserved : goal.loop-drv-preserved
loop-drv-preserved c =
    let q = c.loop-drv.self-inside in
    let d = c.in-Some.drv in
    let within : d < length q.heads = IsMember-within q.heads d c.in-Some.ensures.member in
    let told = subst (λ (xs : List Bool). IsTrue c.is_due.result ↔ IsDue (record { groups = q.grouped.groups; ready = q.grouped.ready; parked = xs }) d)
    c.as_slice.ensures.value c.is_due.ensures in
    let stale : IsDue (queued q) d → ⊥ = λ due. false≢true (sym c.if-is_due.false ∙ told.1 due) in
    record {
      kept = kept_searched q c.remove.new.self d stale c.remove.ensures c.loop-drv.invariant.kept;
      same = c.loop-drv.invariant.same;
      searched = searched_more q.heads c.remove.new.self c.loop-drv.from d c.loop-drv.invariant.searched c.in-Some.ensures within c.remove.ensures;
      within = omega (arith, within, ap (λ (xs : List Bool). length xs) c.remove.ensures, length-set q.heads d false);
    }
