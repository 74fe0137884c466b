use Rattle.std.proofs.Common.{◌≡◌, ◌++◌, ◌-◌, Some, List, ℕ, length, take, drop, ap, sym, ◌∙◌}
use Rattle.std.specs.Option.{option_copied}
use Rattle.nd_bytes.specs.Cut.{behind}
use Rattle.nd_bundle.specs.Lines.{lines}
use Rattle.nd_bundle.proofs.Newlines.{cut_behind, newline}
use Rattle.nd_bundle.proofs.cutting.first_piece.Goals as goal

pub returns-in_default-Some-clause-lines : goal.returns-in_default-Some-clause-lines
returns-in_default-Some-clause-lines c =
    let text : List ℕ = c.args.text.now in
    let rest : List ℕ = c.in_default-Some.behind.now in
    let found : behind newline (drop c.args.least text) ≡ Some rest = ap (λ (bytes : List ℕ). behind newline bytes) (sym c.split_at.ensures.back) ∙ sym c.cut.ensures.rest ∙ ap option_copied c.in_default-Some.is-1 in
    ap (λ (xs : List ℕ). lines xs ++ lines c.split_at-in_default-Some.result.1.now) c.split_at-in_default-Some.ensures.front
    ∙ ap (λ (xs : List ℕ). lines (take (length text - length rest) text) ++ lines xs) c.split_at-in_default-Some.ensures.back
    ∙ cut_behind text rest c.args.least found
