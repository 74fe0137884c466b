use Rattle.std.proofs.Common.{ℕ, List, Bor, ap, sym, ◌∙◌}
use Rattle.std.specs.Option.{option_copied}
use Rattle.nd_explain.proofs.Numbers.{rest_now, some_left, none_left, entries_here, entries_next, entries_end}
use Rattle.nd_explain.proofs.pieces.entry_of.Goals as goal

pub returns-in-Ok : goal.returns-in-Ok
returns-in-Ok c =
    sym (entries_here c.loop-left.left.now c.cut.result.0.now (option_copied c.cut.result.1) c.loop-left.before c.in-Ok.entry.now
    (some_left c.loop-left.left.now c.loop-left-test.ensures) c.cut.ensures.whole c.in-Ok.ensures) ∙ c.loop-left.invariant

pub loop-left-preserved : goal.loop-left-preserved
loop-left-preserved c =
    let left = ap (λ (b : Bor (List ℕ)). b.now) c.unwrap_or-left.ensures ∙ rest_now c.cut.result.1 _ in
    rw left (sym (entries_next c.loop-left.left.now c.cut.result.0.now (option_copied c.cut.result.1) c.loop-left.before c.in-Err.others
    (some_left c.loop-left.left.now c.loop-left-test.ensures) c.cut.ensures.whole c.in-Err.ensures) ∙ c.loop-left.invariant)

pub returns : goal.returns
returns c = sym (entries_end c.loop-left.left.now c.loop-left.before (none_left c.loop-left.left.now c.loop-left-test.ensures)) ∙ c.loop-left.invariant
