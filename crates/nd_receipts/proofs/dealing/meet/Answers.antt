use Rattle.std.proofs.Common.{rules, Vec, Global, length, refl}
use Rattle.std.proofs.lemmas.Option.{slice_get_read}
use Rattle.nd_receipts.specs.declared.receipt.Receipt.{Receipt}
use Rattle.nd_receipts.proofs.Crossings.{met_by}
use Rattle.nd_receipts.proofs.dealing.meet.Goals as goal

pub returns-clause-met : goal.returns-clause-met
returns-clause-met c = λ yes. met_by (λ (v : Vec Receipt Global). v.items) c.args.rows.now c.args.worker c.args.index c.in-Some-get.count.now c.args.kind c.args.met.now.items c.put.new.numbers.items c.in-Some.row.now c.in-Some-get-2.receipt.now
    (slice_get_read c.args.rows.now (length c.args.rows.now) c.args.worker c.in-Some.row.now refl (search rules) (search rules))
    (slice_get_read c.args.met.now.items (length c.args.met.now.items) c.args.worker c.in-Some-get.count.now refl (search rules) (search rules))
    (slice_get_read c.in-Some.row.now.items (length c.in-Some.row.now.items) c.in-Some-get.count.now c.in-Some-get-2.receipt.now refl (search rules) (search rules))
    (search rules) (search rules) c.put.ensures
