use Rattle.std.proofs.Common.{ap, ◌∙◌}
use Rattle.std.proofs.result.Match.{err_is}
use Rattle.std.specs.Option.{option_copied}
use Rattle.nd_bytes.specs.Cut.{pieces}
use Rattle.nd_script.proofs.Lists.{gather, no_set}
use Rattle.nd_script.proofs.words.path_set.Goals as goal

pub returns-in_err-path_of-clause-refused : goal.returns-in_err-path_of-clause-refused
returns-in_err-path_of-clause-refused c =
    rw (err_is c.from_residual.result _ c.from_residual.ensures.1)
    (no_set (pieces 32 (option_copied c.args.words)) c.loop-left.paths.items (pieces 32 (option_copied c.loop-left.left)) (pieces 32 (option_copied c.cut.result.1))
    c.cut.result.0.now c.in_err-path_of.field-0.0 c.loop-left.invariant (ap (pieces 32) (ap option_copied c.in-Some.is) ∙ c.cut.ensures.whole) c.in_err-path_of.ensures.refused)

pub loop-left-preserved : goal.loop-left-preserved
loop-left-preserved c =
    rw c.in_ok-push.ensures.items
    (gather (pieces 32 (option_copied c.args.words)) c.loop-left.paths.items (pieces 32 (option_copied c.loop-left.left)) (pieces 32 (option_copied c.cut.result.1))
    c.cut.result.0.now c.in_ok-path_of.field-0 c.loop-left.invariant (ap (pieces 32) (ap option_copied c.in-Some.is) ∙ c.cut.ensures.whole) c.in_ok-path_of.ensures.found c.in_ok-path_of.ensures.path)
