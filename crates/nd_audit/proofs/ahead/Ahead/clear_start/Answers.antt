use Rattle.std.proofs.Common.{refl, ap, ◌∙◌}
use Rattle.nd_history.specs.declared.entry.Entry.TheVariants.{Started}
use Rattle.nd_history.specs.Premises.{premises_of}
use Rattle.nd_ledger.specs.Admitting.{admit_error_for}
use Rattle.nd_audit.proofs.Clearing.{cleared_out, cleared_start, got_at, held_paths, held_residual, machine_there, on_any_error, out_at, stores_stayed}
use Rattle.nd_audit.proofs.ahead.Ahead.clear_start.Goals as goal

pub returns-in_default-clause-cleared : goal.returns-in_default-clause-cleared
returns-in_default-clause-cleared c =
    let i = premises_of c.args.inputs.now in
    cleared_out i c.args.self.now (Started c.args.drv c.args.paths.now) (out_at i c.args.self.now c.deref.result.now c.args.drv c.requires c.deref.ensures.value c.in_default.ensures.lookup.0)

pub check_paths-requires-clause-machine : goal.check_paths-requires-clause-machine
check_paths-requires-clause-machine c =
    machine_there (premises_of c.args.inputs.now) c.args.self.now c.args.drv c.in-Some.machine.now c.requires
    (got_at c.args.self.now c.deref.result.now c.args.drv c.in-Some.machine.now c.deref.ensures.value c.in-Some.ensures.lookup.0 c.in-Some.ensures.lookup.1)

pub returns-in-Err-clause-held_up : goal.returns-in-Err-clause-held_up
returns-in-Err-clause-held_up c =
    held_paths (premises_of c.args.inputs.now) c.args.self.now c.args.drv c.in-Some.machine.now c.args.paths.now c.in-Err.fault c.admit_error.result
    (got_at c.args.self.now c.deref.result.now c.args.drv c.in-Some.machine.now c.deref.ensures.value c.in-Some.ensures.lookup.0 c.in-Some.ensures.lookup.1)
    c.in-Err.ensures.refused (c.admit_error.ensures ∙ ap admit_error_for c.refusal_of.ensures)

pub prepare_start-requires-clause-machine : goal.prepare_start-requires-clause-machine
prepare_start-requires-clause-machine c =
    machine_there (premises_of c.args.inputs.now) c.args.self.now c.args.drv c.in-Some.machine.now c.requires
    (got_at c.args.self.now c.deref.result.now c.args.drv c.in-Some.machine.now c.deref.ensures.value c.in-Some.ensures.lookup.0 c.in-Some.ensures.lookup.1)

pub returns-in_err-additions-clause-held_up : goal.returns-in_err-additions-clause-held_up
returns-in_err-additions-clause-held_up c =
    held_residual (premises_of c.args.inputs.now) c.args.self.now (Started c.args.drv c.args.paths.now) c.from_residual.result c.from_residual.ensures.1

pub returns-in_err-additions-clause-stays : goal.returns-in_err-additions-clause-stays
returns-in_err-additions-clause-stays c =
    on_any_error c.from_residual.result _ (stores_stayed (premises_of c.args.inputs.now) c.args.self.now _ refl c.in_err-additions.ensures.same)

pub returns-clause-cleared : goal.returns-clause-cleared
returns-clause-cleared c =
    cleared_start (premises_of c.args.inputs.now) c.args.self.now _ c.prepare_start.new.self c.args.drv c.in-Some.machine.now c.args.paths.now c.in_ok-additions.additions
    (got_at c.args.self.now c.deref.result.now c.args.drv c.in-Some.machine.now c.deref.ensures.value c.in-Some.ensures.lookup.0 c.in-Some.ensures.lookup.1)
    c.in-Ok.ensures.ok c.in_ok-additions.ensures.same c.in_ok-additions.ensures.additions c.take_in.ensures refl
