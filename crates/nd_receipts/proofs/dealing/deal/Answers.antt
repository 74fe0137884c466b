use Rattle.std.proofs.Common.{rules, Vec, Global, length, refl, map}
use Rattle.std.proofs.lemmas.Option.{slice_get_read}
use Rattle.nd_receipts.specs.declared.receipt.Receipt.{Receipt}
use Rattle.nd_receipts.proofs.Crossings.{deals_made}
use Rattle.nd_receipts.proofs.Refusals.{dealt_on_made, dealt_on_other, undealt_unmet}
use Rattle.nd_receipts.proofs.dealing.deal.Goals as goal

pub returns-in-Some-clause-dealt : goal.returns-in-Some-clause-dealt
returns-in-Some-clause-dealt c = λ yes. deals_made c.args.places.now (map (λ (v : Vec Receipt Global). v.items) c.args.rows.now) c.args.index c.args.entry.now c.args.tables.now.choices.items c.follow.new.choices.items c.args.tables.now.met.items c.meet.new.met.items c.in-Some.drv c.in-Some-get.worker.now c.in-Some.kind c.in-Some-get-2._place.now c.requires
    (search rules)
    (slice_get_read c.args.tables.now.choices.items (length c.args.tables.now.choices.items) c.in-Some.drv c.in-Some-get.worker.now refl (search rules) (search rules))
    (slice_get_read c.args.places.now (length c.args.places.now) c.in-Some-get.worker.now c.in-Some-get-2._place.now refl (search rules) (search rules))
    (search rules)
    c.follow.ensures.follows
    (c.follow.ensures.placed yes)

pub returns-in-Some-clause-on : goal.returns-in-Some-clause-on
returns-in-Some-clause-on c = λ yes. dealt_on_made c.args.places.now (map (λ (v : Vec Receipt Global). v.items) c.args.rows.now) c.args.index c.args.entry.now c.args.tables.now.choices.items c.follow.new.choices.items c.args.tables.now.met.items c.meet.new.met.items c.in-Some.drv c.in-Some-get.worker.now c.in-Some.kind c.in-Some-get-2._place.now
    (search rules)
    (slice_get_read c.args.tables.now.choices.items (length c.args.tables.now.choices.items) c.in-Some.drv c.in-Some-get.worker.now refl (search rules) (search rules))
    (slice_get_read c.args.places.now (length c.args.places.now) c.in-Some-get.worker.now c.in-Some-get-2._place.now refl (search rules) (search rules))
    (c.meet.ensures.met (search rules))
    c.follow.ensures.tracks

pub returns-clause-on : goal.returns-clause-on
returns-clause-on c = λ yes. dealt_on_other c.args.places.now (map (λ (v : Vec Receipt Global). v.items) c.args.rows.now) c.args.index c.args.entry.now c.args.tables.now.choices.items c.follow-2.new.choices.items c.args.tables.now.met.items (search rules) c.follow-2.ensures.tracks

pub returns-then-not-meet-clause-undealt : goal.returns-then-not-meet-clause-undealt
returns-then-not-meet-clause-undealt c = λ no. undealt_unmet c.args.places.now (map (λ (v : Vec Receipt Global). v.items) c.args.rows.now) c.args.index c.args.entry.now c.args.tables.now.choices.items c.args.tables.now.met.items c.in-Some.drv c.in-Some-get.worker.now c.in-Some.kind c.in-Some-get-2._place.now
    (search rules)
    (slice_get_read c.args.tables.now.choices.items (length c.args.tables.now.choices.items) c.in-Some.drv c.in-Some-get.worker.now refl (search rules) (search rules))
    (slice_get_read c.args.places.now (length c.args.places.now) c.in-Some-get.worker.now c.in-Some-get-2._place.now refl (search rules) (search rules))
    (c.meet.ensures.unmet (search rules))
