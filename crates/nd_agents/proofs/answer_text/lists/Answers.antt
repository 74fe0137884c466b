use Rattle.std.proofs.Common.{◌∙◌}
use Rattle.nd_agents.proofs.Relays.{none_listed}
use Rattle.nd_agents.proofs.answer_text.lists.Goals as goal

pub returns-clause-refused : goal.returns-clause-refused
returns-clause-refused c =
    none_listed c.args.words.now c.as_slice.result.now c.in-Err.fault (c.as_slice.ensures.value ∙ c.in-Ok.ensures) c.in-Err.ensures.refused
