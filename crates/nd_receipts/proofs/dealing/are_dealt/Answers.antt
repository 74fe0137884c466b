use Rattle.std.proofs.Common.{◌≡◌, ◌≢◌, List, rules, Vec, Global, arith, map, length, reverse, sym, ◌∙◌}
use Rattle.std.proofs.lemmas.List.{length-map}
use Rattle.nd_receipts.specs.declared.receipt.Receipt.{Receipt}
use Rattle.nd_receipts.proofs.Crossings.{walk_first, walk_more, walk_last}
use Rattle.nd_receipts.proofs.Refusals.{walk_on_first, walk_on_more, as_many}
use Rattle.nd_receipts.proofs.dealing.are_dealt.Goals as goal

pub dealing-init : goal.dealing-init
dealing-init c =
    let rows = map (λ (v : Vec Receipt Global). v.items) c.args.rows.now in (
      omega arith,
      walk_first (λ (v : Vec Receipt Global). v.items) c.args.rows.now c.args.places.now c.args.opening (reverse c.args.old.now) c.args.new.now c.follow_all.new.choices.items c.args.tables.met.items c.follow_all.ensures.knows c.requires.met (search rules),
      walk_on_first c.args.places.now rows c.args.opening (length c.args.tables.choices.items) c.args.old.now c.args.new.now c.follow_all.new.choices.items c.args.tables.met.items c.requires.met c.follow_all.ensures.sized c.follow_all.ensures.tracks,
    )

pub dealing-preserved : goal.dealing-preserved
dealing-preserved c =
    let rows = map (λ (v : Vec Receipt Global). v.items) c.args.rows.now in (
      omega (arith, c.dealing.invariant.0),
      walk_more c.args.places.now rows c.args.opening c.dealing.index (reverse c.args.old.now) c.args.new.now c.dealing.entry-index c.entry-item.result c.dealing.tables.choices.items c.deal.new.tables.choices.items c.dealing.tables.met.items c.deal.new.tables.met.items
          c.dealing.invariant.1 (omega arith) c.entry-item.is c.dealing.invariant.0 (c.deal.ensures.dealt (search rules)),
      walk_on_more c.args.places.now rows c.args.opening (length c.args.tables.choices.items) c.dealing.index c.args.old.now c.args.new.now c.dealing.entry-index c.entry-item.result c.dealing.tables.choices.items c.deal.new.tables.choices.items c.dealing.tables.met.items c.deal.new.tables.met.items
          c.requires.apart c.dealing.invariant.2 (omega arith) c.entry-item.is c.dealing.invariant.0 (c.deal.ensures.on (search rules)),
    )

pub returns-then-rows-places-clause-undealt : goal.returns-then-rows-places-clause-undealt
returns-then-rows-places-clause-undealt c = λ no before within h.
    let items : Vec Receipt Global → List Receipt = λ v. v.items in
    let same : length (map items c.args.rows.now) ≡ length c.args.places.now = as_many c.args.places.now (map items c.args.rows.now) c.args.opening (reverse c.args.old.now) c.args.new.now h in
    let long : length (map items c.args.rows.now) ≡ length c.args.rows.now = length-map c.args.rows.now items in
    let differ : length c.args.rows.now ≢ length c.args.places.now = search rules in
    differ (sym long ∙ same)

pub returns-clause-dealt : goal.returns-clause-dealt
returns-clause-dealt c = λ yes.
    walk_last c.args.places.now (map (λ (v : Vec Receipt Global). v.items) c.args.rows.now) c.args.opening (reverse c.args.old.now) c.args.new.now c.dealing.entry-index c.dealing.tables.choices.items c.dealing.tables.met.items
    c.dealing.invariant.1 (omega arith) (rw (← c.as_slice.ensures.value) (c.are_all_met.ensures.met yes))
