use Rattle.std.proofs.Common.{◌∙◌, sym, ap}
use Rattle.std.specs.Option.{option_copied}
use Rattle.nd_history_text.proofs.Texts.{line_read, line_unended}
use Rattle.nd_history_text.proofs.history_reading.line_first.Goals as goal

pub returns-in_default-clause-refused : goal.returns-in_default-clause-refused
returns-in_default-clause-refused c = line_unended _ _ (sym (ap option_copied c.in_default.is) ∙ c.cut.ensures.rest)

pub returns-clause-found : goal.returns-clause-found
returns-clause-found c =
    line_read _ _ _ _ _ c.cut.ensures.front (sym (ap option_copied c.in-Some.is) ∙ c.cut.ensures.rest) c.in_ok-entry.ensures.found
