use Rattle.std.proofs.Common.{◌∙◌, sym, ap}
use Rattle.nd_history_text.specs.Reading.{rises}
use Rattle.nd_history_text.proofs.PathLists.{paths_unrisen, paths_read}
use Rattle.nd_history_text.proofs.words.paths_first.Goals as goal

pub returns-then-not-is_rising-clause-refused : goal.returns-then-not-is_rising-clause-refused
returns-then-not-is_rising-clause-refused c =
    paths_unrisen _ _ _ c.in_ok-rest.ensures.found (ap rises (sym c.as_slice.ensures.value) ∙ sym c.is_rising.ensures ∙ c.if-not-is_rising.true)

pub returns-clause-found : goal.returns-clause-found
returns-clause-found c =
    paths_read _ _ _ _ c.in_ok-rest.ensures.found (ap rises (sym c.as_slice.ensures.value) ∙ sym c.is_rising.ensures ∙ c.if-not-is_rising.false)
    (rw c.in_ok-taken.ensures at c.in_ok-set.ensures.members) c.in_ok-set.ensures.rising
