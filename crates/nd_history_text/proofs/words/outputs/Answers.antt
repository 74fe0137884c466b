use Rattle.std.proofs.Common.{◌∙◌, sym, ap}
use Rattle.std.specs.Option.{option_copied}
use Rattle.nd_bytes.specs.Cut.{pieces}
use Rattle.nd_history_text.proofs.PathLists.{outputs_more, outputs_bad_word}
use Rattle.nd_history_text.proofs.words.outputs.Goals as goal

pub returns-then-not-is_word-clause-refused : goal.returns-then-not-is_word-clause-refused
returns-then-not-is_word-clause-refused c =
    outputs_bad_word _ _ _ c.loop-rest.reading.sets.items c.cut.result.0.now c.loop-rest.invariant
    (ap (pieces 32) (ap option_copied c.in-Some.is) ∙ c.cut.ensures.whole) (sym c.if-not-is_word.true ∙ c.is_word.ensures)

pub loop-rest-preserved : goal.loop-rest-preserved
loop-rest-preserved c =
    rw c.in_ok-push.ensures.items (outputs_more _ _ _ _ _ c.loop-rest.reading.sets.items c.cut.result.0.now c.loop-rest.invariant
    (ap (pieces 32) (ap option_copied c.in-Some.is) ∙ c.cut.ensures.whole) (sym c.if-not-is_word.false ∙ c.is_word.ensures) c.in_ok-set.ensures.found)
