use Rattle.std.proofs.Common.{List, ℕ, Bor, ap, ◌∙◌}
use Rattle.std.specs.Option.{option_copied}
use Rattle.nd_closure.proofs.Texts.{some_left, none_left, rest_now}
use Rattle.nd_script.proofs.Texts.{read_on, refused_by, all_read}
use Rattle.nd_script.proofs.reading.read_text.Goals as goal

pub returns-in-Err-clause-refused : goal.returns-in-Err-clause-refused
returns-in-Err-clause-refused g c =
    rw c.refusal.ensures (refused_by (g.S.Said.says c.args.drvs c.args.machines) c.args.text.now c.loop-left.items.items c.loop-left.left.now c.cut.result.0.now (option_copied c.cut.result.1)
    c.loop-left.number c.in-Err.fault c.loop-left.invariant (some_left c.loop-left.left.now c.loop-left-test.ensures) c.cut.ensures.whole c.in-Err.ensures.refused)

pub loop-left-preserved : goal.loop-left-preserved
loop-left-preserved g c =
    let left = ap (λ (b : Bor (List ℕ)). b.now) c.unwrap_or-left.ensures ∙ rest_now c.cut.result.1 _ in
    rw (c.in_ok-push.ensures.items, left) (read_on (g.S.Said.says c.args.drvs c.args.machines) c.args.text.now c.loop-left.items.items c.loop-left.left.now c.cut.result.0.now
    (option_copied c.cut.result.1) c.loop-left.number c.in-Ok.item c.loop-left.invariant (some_left c.loop-left.left.now c.loop-left-test.ensures) c.cut.ensures.whole
    c.cut.ensures.shorter c.in-Ok.ensures.found)

pub returns-clause-found : goal.returns-clause-found
returns-clause-found g c = all_read (g.S.Said.says c.args.drvs c.args.machines) c.args.text.now c.loop-left.items.items c.loop-left.left.now c.loop-left.number c.loop-left.invariant
    (none_left c.loop-left.left.now c.loop-left-test.ensures)
