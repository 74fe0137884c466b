use Rattle.std.proofs.Common.{◌≡◌, Bool, sym, ap, subst}
use Rattle.std.proofs.result.Match.{err_is}
use Rattle.nd_cli.specs.Statuses.{exit_status}
use Rattle.nd_history.specs.Premises.{Premises}
use Rattle.nd_commands.specs.Scripts.{HasScript}
use Rattle.nd_commands.proofs.Answering.{sim_unopened}
use Rattle.nd_commands.proofs.reading.read_sim_inputs.Goals as goal

pub returns-in_err-dispatch-clause-fault : goal.returns-in_err-dispatch-clause-fault
returns-in_err-dispatch-clause-fault g c =
    rw (err_is c.from_residual.result _ c.from_residual.ensures.1)
    (λ (writer_marked : Bool).
    sim_unopened c.args.options.now c.args.script.now g.R.Read.remaining c.args.input.now c.take_dispatch.new.input
    writer_marked c.in_err-dispatch.field-0.0 c.in_err-dispatch.ensures.fault)

pub returns-in-Ok-clause-read : goal.returns-in-Ok-clause-read
returns-in-Ok-clause-read g c = record { reads = c.in_ok-dispatch.ensures.read; empty = c.in_ok-dispatch.ensures.empty; says = c.in-Ok.ensures.read }

pub returns-in_err-dispatch-clause-exactly : goal.returns-in_err-dispatch-clause-exactly
returns-in_err-dispatch-clause-exactly g c =
    rw (err_is c.from_residual.result _ c.from_residual.ensures.1)
    (λ text known accepted. c.in_err-dispatch.ensures.exactly text accepted.inputs known accepted.has)

pub returns-in-Err-clause-exactly : goal.returns-in-Err-clause-exactly
returns-in-Err-clause-exactly g c = λ text known accepted.
    let made : c.in_ok-dispatch.dispatch.inputs ≡ accepted.inputs = c.in_ok-dispatch.ensures.exactly text accepted.inputs known accepted.has in
    ap exit_status (c.in-Err.ensures.exactly accepted.commands
    (subst (λ (i : Premises). HasScript i c.args.script.now accepted.commands) (sym made) accepted.says))
