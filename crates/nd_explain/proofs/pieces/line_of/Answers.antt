use Rattle.std.proofs.Common.{◌≡◌, ℕ, ◌<◌, List, Bor, ap, sym, ◌∙◌, arith}
use Rattle.std.specs.List.{slice_get}
use Rattle.std.specs.Option.{option_copied}
use Rattle.nd_bytes.specs.Lines.{lines_of}
use Rattle.nd_explain.proofs.Numbers.{rest_now, some_left, none_left, lines_here, lines_next, lines_end}
use Rattle.nd_explain.proofs.pieces.line_of.Goals as goal

pub returns-then-before-eq0 : goal.returns-then-before-eq0
returns-then-before-eq0 c =
    let first : c.loop-left.before ≡ 0 = omega arith in
    sym (lines_here c.loop-left.left.now c.cut.result.0.now (option_copied c.cut.result.1) (some_left c.loop-left.left.now c.loop-left-test.ensures) c.cut.ensures.whole)
    ∙ ap (λ (n : ℕ). slice_get (lines_of c.loop-left.left.now) n) (sym first) ∙ c.loop-left.invariant

pub loop-left-preserved : goal.loop-left-preserved
loop-left-preserved c =
    let further : 0 < c.loop-left.before = omega arith in
    let left = ap (λ (b : Bor (List ℕ)). b.now) c.unwrap_or-left.ensures ∙ rest_now c.cut.result.1 _ in
    rw left (sym (lines_next c.loop-left.left.now c.cut.result.0.now (option_copied c.cut.result.1) c.loop-left.before
    (some_left c.loop-left.left.now c.loop-left-test.ensures) c.cut.ensures.whole further) ∙ c.loop-left.invariant)

pub returns : goal.returns
returns c = sym (lines_end c.loop-left.left.now c.loop-left.before (none_left c.loop-left.left.now c.loop-left-test.ensures)) ∙ c.loop-left.invariant
