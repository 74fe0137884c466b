use Rattle.std.proofs.result.Match.{err_is}
use Rattle.nd_aterm.proofs.RefusalLemmas.{Refuses-as, Refuses-weaker}
use Rattle.nd_aterm.proofs.SelectingLemmas.{no_comma, no_env_behind, no_close, settings_found}
use Rattle.nd_aterm.proofs.selecting.settings_at.Goals as goal

pub returns-in_err-rest-clause-none : goal.returns-in_err-rest-clause-none
returns-in_err-rest-clause-none g c =
    rw (err_is c.from_residual-in_err-rest.result _ c.from_residual-in_err-rest.ensures.1)
    (Refuses-as c.in_err-rest.field-0.0 _ _ (no_comma _ _ _ _ c.in_ok-args.ensures.found) c.in_err-rest.ensures.none)

pub returns-in_err-env-clause-none : goal.returns-in_err-env-clause-none
returns-in_err-env-clause-none g c =
    rw (err_is c.from_residual-in_err-env.result _ c.from_residual-in_err-env.ensures.1)
    (Refuses-weaker c.in_err-env.field-0.0 _ _ (no_env_behind _ _ _ _ _ c.in_ok-args.ensures.found c.in_ok-rest.ensures.found) c.in_err-env.ensures.none)

pub returns-in_err-rest-2-clause-none : goal.returns-in_err-rest-2-clause-none
returns-in_err-rest-2-clause-none g c =
    rw (err_is c.from_residual-in_err-rest-2.result _ c.from_residual-in_err-rest-2.ensures.1)
    (Refuses-as c.in_err-rest-2.field-0.0 _ _ (no_close g.S.Selection.selects _ _ _ _ _ _ _ c.in_ok-args.ensures.found c.in_ok-rest.ensures.found c.in_ok-env.ensures.found) c.in_err-rest-2.ensures.none)

pub returns-clause-found : goal.returns-clause-found
returns-clause-found g c =
    settings_found g.S.Selection.selects _ _ _ _ _ _ _ _ c.in_ok-args.ensures.found c.in_ok-rest.ensures.found c.in_ok-env.ensures.found c.in_ok-rest-2.ensures.found
