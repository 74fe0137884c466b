use Rattle.std.proofs.Common.{ap, sym, ◌∙◌}
use Rattle.std.specs.Option.{option_copied}
use Rattle.nd_line.proofs.Sayings.{bad_path}
use Rattle.nd_line.proofs.reading.read_line.Goals as goal

pub returns-in_default-2 : goal.returns-in_default-2
returns-in_default-2 c =
    bad_path c.args.line.now c.cut.result.0.now c.in-Some.text.now c.cut.ensures.front (sym c.cut.ensures.rest ∙ ap option_copied c.in-Some.is) (rw c.in_default-2.is at c.in_ok-path.ensures.ok)
