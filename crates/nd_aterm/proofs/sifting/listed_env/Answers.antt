use Rattle.std.proofs.result.Match.{err_is}
use Rattle.nd_aterm.specs.Derivations.{env_entry}
use Rattle.nd_aterm.specs.DerivationsOnce.{env_entry_once, env_entry_opens}
use Rattle.nd_aterm.proofs.EnvLemmas.{env_first, env_more}
use Rattle.nd_aterm.proofs.RefusalLemmas.{Refuses-as, Refuses-weaker}
use Rattle.nd_aterm.proofs.SiftingLemmas.{no_next, no_end}
use Rattle.nd_aterm.proofs.sifting.listed_env.Goals as goal

pub loop-after-init : goal.loop-after-init
loop-after-init g c = env_first g.S.Selection.selects _ _ _ _ (c.new-sifted.ensures g.S.Selection.selects) c.in_ok-rest.ensures.found

pub returns-in_err-rest-2-clause-none : goal.returns-in_err-rest-2-clause-none
returns-in_err-rest-2-clause-none g c =
    let so_far = c.loop-after.invariant in
    rw (err_is c.from_residual-in_err-rest-2.result _ c.from_residual-in_err-rest-2.ensures.1)
    (Refuses-weaker c.in_err-rest-2.field-0.0 _ _ (no_next env_entry env_entry_once env_entry_opens _ so_far.env _ _ so_far.some so_far.spelled c.in-Some.ensures) c.in_err-rest-2.ensures.none)

pub loop-after-preserved : goal.loop-after-preserved
loop-after-preserved g c = env_more g.S.Selection.selects _ _ _ _ _ _ c.loop-after.invariant c.in-Some.ensures c.in_ok-rest-2.ensures.found

pub returns-in_err-rest-3-clause-none : goal.returns-in_err-rest-3-clause-none
returns-in_err-rest-3-clause-none g c =
    let so_far = c.loop-after.invariant in
    rw (err_is c.from_residual-in_err-rest-3.result _ c.from_residual-in_err-rest-3.ensures.1)
    (Refuses-as c.in_err-rest-3.field-0.0 _ _ (no_end env_entry env_entry_once env_entry_opens _ so_far.env _ so_far.some so_far.spelled c.in_default.ensures) c.in_err-rest-3.ensures.none)
