use Rattle.std.proofs.Common.{◌≡◌, Some, List, ℕ, ap, sym, ◌∙◌}
use Rattle.std.specs.Option.{option_copied}
use Rattle.nd_bytes.specs.Cut.{behind}
use Rattle.nd_bundle.proofs.Newlines.{line_end, newline}
use Rattle.nd_bundle.proofs.cutting.cut_line.Goals as goal

pub returns-in_default-Some-clause-end : goal.returns-in_default-Some-clause-end
returns-in_default-Some-clause-end c =
    let rest : List ℕ = c.in_default-Some.behind.now in
    let found : behind newline c.args.text.now ≡ Some rest = sym c.cut.ensures.rest ∙ ap option_copied c.in_default-Some.is-1 in
    line_end c.args.text.now rest c.split_at.result.0.now found c.split_at.ensures.front
