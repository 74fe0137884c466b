use Rattle.std.proofs.Common.{◌≤◌, ℕ, List, IfOk, subst}
use Rattle.std.specs.Vec.Iter.{into_iter_items}
use Rattle.nd_choose.specs.Best.{jobs_at}
use Rattle.nd_machines.specs.Builders.{Builder}
use Rattle.nd_history.specs.Premises.{premises_of}
use Rattle.nd_audit.specs.Judging.{IsBegun}
use Rattle.nd_ledger.specs.States.{IsFresh}
use Rattle.nd_audit.proofs.Judged.{way_begun}
use Rattle.nd_audit.proofs.side_by_side.begin.Goals as goal

pub returns : goal.returns
returns g c =
    let j = c.args.inputs.now in
    let begun : IsBegun (premises_of j) c.args.entries.items c.in-Ok.ahead (into_iter_items c.in-Ok.left) c.in-Ok.batch =
    subst (λ x. IfOk x (λ r. IsBegun (premises_of j) c.args.entries.items r.0 (into_iter_items r.1) r.2)) c.in-Ok.is c.begin_halves-state.ensures.begun in
    let fresh : IsFresh j.graph j.machines j.local j.keep_going c.in-Ok-state.state =
    subst (λ x. IfOk x (IsFresh j.graph j.machines j.local j.keep_going)) c.in-Ok-state.is c.begin_halves-state.ensures.fresh in
    let J = λ (machines : List Builder). (p : ℕ) → jobs_at machines p ≤ 65535 in
    way_begun j c.args.entries.items (into_iter_items c.in-Ok.left) c.in-Ok.ahead c.in-Ok-state.state c.in-Ok.batch c.requires c.begin_halves-state.ensures.sound
    (subst J c.as_slice.ensures c.learn_jobs.ensures.builders) c.learn_jobs.ensures.local fresh begun
