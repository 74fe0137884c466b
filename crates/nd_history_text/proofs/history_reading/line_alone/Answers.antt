use Rattle.std.proofs.Common.{◌∙◌, sym}
use Rattle.std.proofs.result.Match.{err_is}
use Rattle.nd_history_text.proofs.Texts.{words_read, words_no_kind, words_refused_by, words_untold}
use Rattle.nd_history_text.proofs.history_reading.line_alone.Goals as goal

pub returns-then-not-is_told-clause-refused : goal.returns-then-not-is_told-clause-refused
returns-then-not-is_told-clause-refused c =
    words_untold _ _ _ _ _ _ c.cut.ensures.whole c.in-Some.ensures c.in_ok-entry.ensures.found (sym c.is_told.ensures ∙ c.if-not-is_told.true)

pub returns-clause-found : goal.returns-clause-found
returns-clause-found c = words_read _ _ _ _ _ _ c.cut.ensures.whole c.in-Some.ensures c.in_ok-entry.ensures.found (sym c.is_told.ensures ∙ c.if-not-is_told.false)

pub returns-in_default-clause-refused : goal.returns-in_default-clause-refused
returns-in_default-clause-refused c = words_no_kind _ _ _ _ c.cut.ensures.whole c.in_default.ensures

pub returns-in_err-entry-clause-refused : goal.returns-in_err-entry-clause-refused
returns-in_err-entry-clause-refused c =
    rw (err_is c.from_residual.result _ c.from_residual.ensures.1)
    (words_refused_by _ _ _ _ c.in-Some.kind c.in_err-entry.field-0.0 c.cut.ensures.whole c.in-Some.ensures c.in_err-entry.ensures.refused)
