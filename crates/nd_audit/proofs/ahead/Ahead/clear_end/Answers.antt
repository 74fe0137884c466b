use Rattle.std.proofs.Common.{refl}
use Rattle.nd_history.specs.declared.entry.Entry.TheVariants.{Built}
use Rattle.nd_history.specs.Premises.{premises_of}
use Rattle.nd_audit.proofs.Clearing.{cleared_end, cleared_out, got_at, held_residual, machine_there, on_any_error, out_at, stores_stayed}
use Rattle.nd_audit.proofs.ahead.Ahead.clear_end.Goals as goal

pub returns-in_default-clause-cleared : goal.returns-in_default-clause-cleared
returns-in_default-clause-cleared c =
    let i = premises_of c.args.inputs.now in
    cleared_out i c.args.self.now (Built c.args.drv c.args.refs.now) (out_at i c.args.self.now c.deref.result.now c.args.drv c.requires c.deref.ensures.value c.in_default.ensures.lookup.0)

pub prepare_built-requires-clause-machine : goal.prepare_built-requires-clause-machine
prepare_built-requires-clause-machine c =
    machine_there (premises_of c.args.inputs.now) c.args.self.now c.args.drv c.in-Some.machine.now c.requires
    (got_at c.args.self.now c.deref.result.now c.args.drv c.in-Some.machine.now c.deref.ensures.value c.in-Some.ensures.lookup.0 c.in-Some.ensures.lookup.1)

pub returns-in_err-additions-clause-held_up : goal.returns-in_err-additions-clause-held_up
returns-in_err-additions-clause-held_up c =
    held_residual (premises_of c.args.inputs.now) c.args.self.now (Built c.args.drv c.args.refs.now) c.from_residual-in_err-additions.result c.from_residual-in_err-additions.ensures.1

pub returns-in_err-additions-clause-stays : goal.returns-in_err-additions-clause-stays
returns-in_err-additions-clause-stays c =
    on_any_error c.from_residual-in_err-additions.result _ (stores_stayed (premises_of c.args.inputs.now) c.args.self.now _ refl c.in_err-additions.ensures.same)

pub returns-clause-cleared : goal.returns-clause-cleared
returns-clause-cleared c =
    cleared_end (premises_of c.args.inputs.now) c.args.self.now _ c.prepare_built.new.self c.args.drv c.in-Some.machine.now c.args.refs.now c.in_ok-check_references.field-0 c.in_ok-additions.additions
    (got_at c.args.self.now c.deref.result.now c.args.drv c.in-Some.machine.now c.deref.ensures.value c.in-Some.ensures.lookup.0 c.in-Some.ensures.lookup.1)
    c.in_ok-check_references.ensures.right c.if-not-branch.false c.in_ok-additions.ensures.same c.in_ok-additions.ensures.additions c.take_in.ensures refl
