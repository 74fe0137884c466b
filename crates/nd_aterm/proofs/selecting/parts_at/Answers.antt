use Rattle.std.proofs.result.Match.{err_is}
use Rattle.nd_aterm.proofs.RefusalLemmas.{Refuses-weaker}
use Rattle.nd_aterm.proofs.SectionLemmas.{no_word, no_paths, no_command}
use Rattle.nd_aterm.proofs.SelectingLemmas.{parts_found}
use Rattle.nd_aterm.proofs.selecting.parts_at.Goals as goal

pub returns-in_default-clause-none : goal.returns-in_default-clause-none
returns-in_default-clause-none g c = no_word _ c.in_default.ensures

pub returns-in_err-paths-clause-none : goal.returns-in_err-paths-clause-none
returns-in_err-paths-clause-none g c =
    rw (err_is c.from_residual.result _ c.from_residual.ensures.1)
    (Refuses-weaker c.in_err-paths.field-0.0 _ _ (no_paths _ _ c.in-Some.ensures) c.in_err-paths.ensures.none)

pub returns-in-Ok-clause-found : goal.returns-in-Ok-clause-found
returns-in-Ok-clause-found g c =
    parts_found g.S.Selection.selects _ _ _ _ _ _ _ _ c.in-Some.ensures c.in_ok-paths.ensures.found c.in-Ok.ensures.found c.join.ensures

pub returns-in-Err-clause-none : goal.returns-in-Err-clause-none
returns-in-Err-clause-none g c =
    Refuses-weaker c.in-Err.fault _ _ (no_command _ _ _ _ c.in-Some.ensures c.in_ok-paths.ensures.found) c.in-Err.ensures.none
