use Rattle.std.proofs.lemmas.Result.{IfErr-weaker}
use Rattle.std.proofs.result.Match.{err_is}
use Rattle.nd_aterm.specs.Spelling.{string}
use Rattle.nd_aterm.specs.SpellingOnce.{string_once, string_opens}
use Rattle.nd_aterm.proofs.RefusalLemmas.{Refuses-as, Refuses-weaker}
use Rattle.nd_aterm.proofs.SiftingLemmas.{begins_first, begins_more, no_first, no_next, no_end}
use Rattle.nd_aterm.proofs.sifting.behind_listed.Goals as goal

pub returns-in_err-rest-clause-none : goal.returns-in_err-rest-clause-none
returns-in_err-rest-clause-none c =
    rw (err_is c.from_residual.result _ c.from_residual.ensures.1)
    (Refuses-weaker c.in_err-rest.field-0.0 _ _ (no_first string _) c.in_err-rest.ensures.none)

pub loop-after-init : goal.loop-after-init
loop-after-init c = begins_first string _ _ c.in_ok-rest.ensures.found

pub returns-in_err-rest-2-clause-none : goal.returns-in_err-rest-2-clause-none
returns-in_err-rest-2-clause-none c =
    let so_far = c.loop-after.invariant in
    rw (err_is c.from_residual-in_err-rest-2.result _ c.from_residual-in_err-rest-2.ensures.1)
    (Refuses-weaker c.in_err-rest-2.field-0.0 _ _ (no_next string string_once string_opens _ so_far.whole _ _ so_far.some so_far.spelled c.in-Some.ensures) c.in_err-rest-2.ensures.none)

pub loop-after-preserved : goal.loop-after-preserved
loop-after-preserved c = begins_more string _ _ _ _ c.loop-after.invariant c.in-Some.ensures c.in_ok-rest-2.ensures.found

pub returns-clause-none : goal.returns-clause-none
returns-clause-none c =
    let so_far = c.loop-after.invariant in
    IfErr-weaker c.expect.result _ _
    (λ e why. Refuses-as e _ _ (no_end string string_once string_opens _ so_far.whole _ so_far.some so_far.spelled c.in_default.ensures) why)
    c.expect.ensures.none
