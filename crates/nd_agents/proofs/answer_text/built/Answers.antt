use Rattle.std.proofs.Common.{ap}
use Rattle.std.specs.Option.{option_copied}
use Rattle.nd_agents.proofs.Relays.{no_built}
use Rattle.nd_agents.proofs.answer_text.built.Goals as goal

pub returns-in-Err-clause-refused : goal.returns-in-Err-clause-refused
returns-in-Err-clause-refused c = no_built (option_copied c.args.words) c.in-Some.bytes.now c.in-Err.fault (ap option_copied c.in-Some.is) c.in-Err.ensures.refused
