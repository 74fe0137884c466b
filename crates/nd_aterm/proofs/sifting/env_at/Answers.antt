use Rattle.std.proofs.lemmas.Result.{IfErr-weaker, IfOk-weaker}
use Rattle.std.proofs.result.Match.{err_is}
use Rattle.nd_aterm.specs.Derivations.{env_entry}
use Rattle.nd_aterm.proofs.EnvLemmas.{no_env, some_env}
use Rattle.nd_aterm.proofs.RefusalLemmas.{Refuses-as, Refuses-weaker}
use Rattle.nd_aterm.proofs.SiftingLemmas.{no_bracket, no_list}
use Rattle.nd_aterm.proofs.sifting.env_at.Goals as goal

pub returns-in_err-bytes-clause-none : goal.returns-in_err-bytes-clause-none
returns-in_err-bytes-clause-none g c =
    rw (err_is c.from_residual.result _ c.from_residual.ensures.1)
    (Refuses-as c.in_err-bytes.field-0.0 _ _ (no_bracket env_entry _) c.in_err-bytes.ensures.none)

pub returns-in-Some-clause-found : goal.returns-in-Some-clause-found
returns-in-Some-clause-found g c =
    no_env g.S.Selection.selects _ _ _ _ c.in_ok-bytes.ensures.found c.in-Some.ensures (c.new.ensures g.S.Selection.selects)

pub returns-clause-found : goal.returns-clause-found
returns-clause-found g c =
    IfOk-weaker c.listed_env.result _ _
    (λ x has. some_env g.S.Selection.selects _ _ _ _ c.in_ok-bytes.ensures.found has) c.listed_env.ensures.found

pub returns-clause-none : goal.returns-clause-none
returns-clause-none g c =
    IfErr-weaker c.listed_env.result _ _
    (λ e why. Refuses-weaker e _ _ (no_list env_entry _ _ c.in_ok-bytes.ensures.found c.in_default.ensures) why) c.listed_env.ensures.none
