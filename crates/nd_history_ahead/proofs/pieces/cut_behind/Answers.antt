use Rattle.std.proofs.Common.{◌≡◌, ◌==◌, ◌∙◌, ℕ, List, Some, drop, ap, sym, subst}
use Rattle.std.specs.Option.{option_copied}
use Rattle.nd_bytes.specs.Cut.{behind}
use Rattle.nd_history_ahead.specs.Ahead.{IsEnded}
use Rattle.nd_history_ahead.proofs.Refusing.{front_ended, ended_before}
use Rattle.nd_history_ahead.proofs.pieces.cut_behind.Goals as goal

pub returns-in_default-Some-clause-ended : goal.returns-in_default-Some-clause-ended
returns-in_default-Some-clause-ended c =
    let rest : List ℕ = c.in_default-Some.behind.now in
    let found : behind (λ b. b == 10) (drop c.args.least c.args.text.now) ≡ Some rest =
    ap (behind (λ b. b == 10)) (sym c.split_at.ensures.back) ∙ sym c.cut.ensures.rest ∙ ap option_copied c.in_default-Some.is-1 in
    ended_before c.split_at-in_default-Some.result.0.now c.split_at-in_default-Some.result.1.now
    (subst IsEnded (sym c.split_at-in_default-Some.ensures.front) (front_ended c.args.text.now rest c.args.least found))
