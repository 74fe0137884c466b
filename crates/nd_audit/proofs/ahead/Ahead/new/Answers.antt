use Rattle.std.proofs.Common.{rules, ◌≡◌, replicate, refl, sym}
use Rattle.nd_history.specs.Premises.{premises_of}
use Rattle.nd_audit.proofs.Clearing.{first_kept, first_sized}
use Rattle.nd_audit.proofs.ahead.Ahead.new.Goals as goal

pub returns-clause-sized : goal.returns-clause-sized
returns-clause-sized c =
    let zeros : c.in_ok-machines.machines.items ≡ replicate c.len-2.result 0 = c.in_ok-machines.ensures.items_if_clones_equal (search rules) in
    first_sized (premises_of c.args.inputs.now) _ _ _ _ c.len-2.result c.in_ok-stores.ensures refl (sym c.len.ensures) refl c.len-2.ensures.sound c.len-2.ensures.len zeros

pub returns-clause-kept : goal.returns-clause-kept
returns-clause-kept c = first_kept (premises_of c.args.inputs.now) _ _ _ _ c.in_ok-stores.ensures refl (sym c.len.ensures) refl
