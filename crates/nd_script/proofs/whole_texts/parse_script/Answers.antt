use Rattle.nd_script.specs.declared.command.Command.{Command}
use Rattle.nd_script.specs.Script.{IsLine}
use Rattle.nd_script.proofs.Once.{commands_once, exactly_these}
use Rattle.nd_script.proofs.whole_texts.parse_script.Goals as goal

pub returns-clause-exactly : goal.returns-clause-exactly
returns-clause-exactly c =
    exactly_these (IsLine c.args.drvs c.args.machines) Command.Stop (commands_once c.args.drvs c.args.machines) c.args.text.now c.read_text.result (λ v. v.items)
    c.read_text.ensures.found c.read_text.ensures.refused
