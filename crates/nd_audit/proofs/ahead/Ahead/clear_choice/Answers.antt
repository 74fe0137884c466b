use Rattle.std.proofs.Common.{◌≡◌, ◌∙◌, length, refl, arith}
use Rattle.nd_history.specs.declared.entry.Entry.TheVariants.{Chosen}
use Rattle.nd_history.specs.Premises.{premises_of}
use Rattle.nd_audit.proofs.Clearing.{cleared_choice, cleared_out, drv_there}
use Rattle.nd_audit.proofs.ahead.Ahead.clear_choice.Goals.{else-drv-len-via-then-drv-len+else-has_machine, else-drv-len-via-else-drv-len}
use Rattle.nd_audit.proofs.ahead.Ahead.clear_choice.Goals as goal

pub returns-then-has_machine-clause-cleared : goal.returns-then-has_machine-clause-cleared
returns-then-has_machine-clause-cleared c =
    let lt = c.if-drv-len.true in
    let same : c.len.result ≡ length c.args.self.now.machines.items = c.len.ensures ∙ c.args.self.now.machines.ok.0 in
    cleared_choice (premises_of c.args.inputs.now) c.args.self.now _ c.args.drv c.args.machine c.args.slot (omega (arith, lt, same)) refl refl

pub returns-else-drv-len-clause-cleared : goal.returns-else-drv-len-clause-cleared
returns-else-drv-len-clause-cleared c =
    let i = premises_of c.args.inputs.now in
    let e = Chosen c.args.drv c.args.machine c.args.slot in
    let same : c.len.result ≡ length c.args.self.now.machines.items = c.len.ensures ∙ c.args.self.now.machines.ok.0 in
    elim c.else-drv-len.branch [
      | else-drv-len-via-then-drv-len+else-has_machine w ↦ cleared_out i c.args.self.now e (λ ranged. let is = w.has_machine.ensures.1 ranged.1 in let isnt = w.if-has_machine.false in cc)
      | else-drv-len-via-else-drv-len w ↦ cleared_out i c.args.self.now e (λ ranged. let lt = drv_there i c.args.self.now c.args.drv c.requires ranged.0 in let ge = w.if-drv-len.false in omega (arith, lt, ge, same))
    ]
