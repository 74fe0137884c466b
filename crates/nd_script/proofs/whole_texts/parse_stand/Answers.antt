use Rattle.nd_script.specs.declared.rule.Rule.{Rule}
use Rattle.nd_script.specs.Stand.{IsRuleLine}
use Rattle.nd_script.proofs.Once.{rules_once, exactly_these}
use Rattle.nd_script.proofs.whole_texts.parse_stand.Goals as goal

pub returns-clause-exactly : goal.returns-clause-exactly
returns-clause-exactly c =
    exactly_these (IsRuleLine c.args.drvs c.args.machines) (Rule.Lose 0) (rules_once c.args.drvs c.args.machines) c.args.text.now c.read_text.result (λ v. v.items)
    c.read_text.ensures.found c.read_text.ensures.refused
