use Rattle.std.proofs.result.Match.{err_is}
use Rattle.nd_aterm.proofs.RefusalLemmas.{Refuses-weaker}
use Rattle.nd_aterm.proofs.SelectingLemmas.{no_start, no_settings, command_found}
use Rattle.nd_aterm.proofs.selecting.command_at.Goals as goal

pub returns-in_err-platform-clause-none : goal.returns-in_err-platform-clause-none
returns-in_err-platform-clause-none g c =
    rw (err_is c.from_residual.result _ c.from_residual.ensures.1)
    (Refuses-weaker c.in_err-platform.field-0.0 _ _ (no_start _) c.in_err-platform.ensures.none)

pub returns-in_err-args-clause-none : goal.returns-in_err-args-clause-none
returns-in_err-args-clause-none g c =
    rw (err_is c.from_residual-in_err-args.result _ c.from_residual-in_err-args.ensures.1)
    (Refuses-weaker c.in_err-args.field-0.0 _ _ (no_settings _ _ _ _ c.in_ok-platform.ensures.found) c.in_err-args.ensures.none)

pub returns-clause-found : goal.returns-clause-found
returns-clause-found g c =
    command_found g.S.Selection.selects _ _ _ _ _ c.in_ok-platform.ensures.found c.in_ok-args.ensures.found
