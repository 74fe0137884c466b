use Rattle.std.proofs.Common.{rules, Vec, Global, length, refl}
use Rattle.std.proofs.lemmas.Option.{slice_get_read}
use Rattle.nd_receipts.specs.declared.receipt.Receipt.{Receipt}
use Rattle.nd_receipts.proofs.Crossings.{met_more, met_last}
use Rattle.nd_receipts.proofs.dealing.are_all_met.Goals as goal

pub loop-worker-preserved : goal.loop-worker-preserved
loop-worker-preserved c = met_more (λ (v : Vec Receipt Global). v.items) c.args.rows.now c.args.met.now c.loop-worker.worker c.in-Some-Some.count.now c.in-Some-Some.row.now c.loop-worker.invariant
    (slice_get_read c.args.rows.now (length c.args.rows.now) c.loop-worker.worker c.in-Some-Some.row.now refl (search rules) (search rules))
    (slice_get_read c.args.met.now (length c.args.met.now) c.loop-worker.worker c.in-Some-Some.count.now refl (search rules) (search rules))
    (search rules)

pub returns-clause-met : goal.returns-clause-met
returns-clause-met c = λ yes. met_last (λ (v : Vec Receipt Global). v.items) c.args.rows.now c.args.met.now c.loop-worker.worker c.loop-worker.invariant (search rules)
