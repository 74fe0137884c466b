use Rattle.std.proofs.Common.{◌≡◌, ◌<◌, arith}
use Rattle.std.proofs.result.Match.{err_is}
use Rattle.nd_history.specs.Choices.{machines_in}
use Rattle.nd_run_command.proofs.Manned.{all_manned}
use Rattle.nd_run_command.proofs.Seated.{too_many, all_places}
use Rattle.nd_run_command.proofs.seating.places.Goals as goal

pub returns-in_err-add_machine-clause-refused : goal.returns-in_err-add_machine-clause-refused
returns-in_err-add_machine-clause-refused c =
    let within : c.loop-machine.machine < machines_in c.args.dispatch.now.inputs = (let test = c.loop-machine-test.true in let all = c.machine_count-machine-end.ensures in omega arith) in
    rw (err_is c.from_residual.result _ c.from_residual.ensures.1)
    (too_many c.args.dispatch.now.inputs c.loop-machine.machine c.loop-machine.places.items c.in_err-add_machine.field-0.0 c.loop-machine.invariant within c.in_err-add_machine.ensures.refused)

pub returns-clause-manned : goal.returns-clause-manned
returns-clause-manned c =
    let last : c.loop-machine.machine ≡ machines_in c.args.dispatch.now.inputs = (
    let test = c.loop-machine-test.false in let bound = c.loop-machine.auto.machine-end in let all = c.machine_count-machine-end.ensures in omega arith
    ) in
    all_manned c.args.dispatch.now.inputs c.loop-machine.places.items (all_places c.args.dispatch.now.inputs c.loop-machine.machine c.loop-machine.places.items c.loop-machine.invariant last)
