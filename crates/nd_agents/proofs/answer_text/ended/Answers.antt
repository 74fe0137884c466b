use Rattle.std.proofs.Common.{ap}
use Rattle.std.specs.Option.{option_copied}
use Rattle.nd_agents.proofs.Relays.{no_lost}
use Rattle.nd_agents.proofs.answer_text.ended.Goals as goal

pub returns-in-Some-words-clause-refused : goal.returns-in-Some-words-clause-refused
returns-in-Some-words-clause-refused c = rw c.in-Lost.is (no_lost (option_copied c.args.words) c.in-Some-words.field-0.now (ap option_copied c.in-Some-words.is))
