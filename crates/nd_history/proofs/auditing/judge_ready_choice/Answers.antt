use Rattle.std.proofs.Common.{reverse, subst}
use Rattle.nd_hook.specs.declared.kinds.Decision.{Decision}
use Rattle.nd_history.specs.Choices.{HasDecision}
use Rattle.nd_history.specs.Premises.{premises_of}
use Rattle.nd_history.proofs.Rules.{judged_worse, judged_remote}
use Rattle.nd_history.proofs.auditing.judge_ready_choice.Goals as goal

pub returns-then-machine-place : goal.returns-then-machine-place
returns-then-machine-place c =
    judged_worse (premises_of c.args.inputs.now) (reverse c.args.book.now.entries) c.args.drv c.in-Remote.place c.args.machine c.args.slot
    c.requires.ranged c.requires.ready (subst (λ (x : Decision). HasDecision (premises_of c.args.inputs.now) (reverse c.args.book.now.entries) c.args.drv x) c.in-Remote.is c.requires.decided) c.if-machine-eq0.false c.if-machine-place.true

pub returns-else-machine-place : goal.returns-else-machine-place
returns-else-machine-place c =
    judged_remote (premises_of c.args.inputs.now) (reverse c.args.book.now.entries) c.args.drv c.in-Remote.place c.args.machine c.args.slot c.check_slot-in-Remote.result
    c.check_slot-in-Remote.ensures c.requires.ranged c.requires.ready (subst (λ (x : Decision). HasDecision (premises_of c.args.inputs.now) (reverse c.args.book.now.entries) c.args.drv x) c.in-Remote.is c.requires.decided) c.if-machine-eq0.false c.if-machine-place.false
