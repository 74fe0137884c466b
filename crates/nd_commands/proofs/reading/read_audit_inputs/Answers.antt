use Rattle.std.proofs.Common.{Bool, ap}
use Rattle.std.proofs.result.Match.{err_is}
use Rattle.nd_cli.specs.Statuses.{exit_status}
use Rattle.nd_commands.specs.Opened.{IsParkGiven}
use Rattle.nd_commands.proofs.Beside.{taken_read, taken_local, taken_fault, taken_known}
use Rattle.nd_commands.proofs.Answering.{park_read, audit_unopened, history_fault}
use Rattle.nd_commands.proofs.reading.read_audit_inputs.Goals as goal

pub returns-in_err-park-clause-fault : goal.returns-in_err-park-clause-fault
returns-in_err-park-clause-fault g c =
    rw (err_is c.from_residual.result _ c.from_residual.ensures.1)
    (λ (writer_marked : Bool).
    audit_unopened c.args.options.now c.args.history.now g.R.Read.remaining c.args.input.now c.take_park_beside-park.new.input
    writer_marked c.in_err-park.field-0.0
    (taken_fault c.args.options.now g.R.Read.remaining c.args.input.now c.take_park_beside-park.new.input c.take_park_beside-park.result.0 c.in_err-park.field-0.0 c.in_err-park.was c.take_park_beside-park.ensures.park))

pub returns-clause-read : goal.returns-clause-read
returns-clause-read g c =
    let park = c.in_ok-park.park in
    park_read c.args.options.now (g.R.Read.remaining c.args.input.now.device) (g.R.Read.remaining c.take_park_beside-park.new.input.device)
    park.graph park.machines.items park.local park.info.entries
    (taken_read c.args.options.now g.R.Read.remaining c.args.input.now c.take_park_beside-park.new.input c.take_park_beside-park.result.0 park c.in_ok-park.was c.take_park_beside-park.ensures.park)
    (taken_local c.args.options.now g.R.Read.remaining c.args.input.now c.take_park_beside-park.new.input c.take_park_beside-park.result.0 park c.in_ok-park.was c.take_park_beside-park.ensures.park)

pub returns-in_err-entries-clause-fault : goal.returns-in_err-entries-clause-fault
returns-in_err-entries-clause-fault g c =
    rw (err_is c.from_residual-in_err-entries.result _ c.from_residual-in_err-entries.ensures.1)
    (λ (writer_marked : Bool).
    let park = c.in_ok-park.park in
    let reads : IsParkGiven c.args.options.now g.R.Read.remaining c.args.input.now c.take_park_beside-park.new.input park =
    park_read c.args.options.now (g.R.Read.remaining c.args.input.now.device) (g.R.Read.remaining c.take_park_beside-park.new.input.device)
    park.graph park.machines.items park.local park.info.entries
    (taken_read c.args.options.now g.R.Read.remaining c.args.input.now c.take_park_beside-park.new.input c.take_park_beside-park.result.0 park c.in_ok-park.was c.take_park_beside-park.ensures.park)
    (taken_local c.args.options.now g.R.Read.remaining c.args.input.now c.take_park_beside-park.new.input c.take_park_beside-park.result.0 park c.in_ok-park.was c.take_park_beside-park.ensures.park) in
    history_fault c.args.options.now c.args.history.now g.R.Read.remaining c.args.input.now c.take_park_beside-park.new.input
    writer_marked _ c.in_err-entries.field-0.0 reads c.in_err-entries.ensures.refused)

pub returns-in_err-park-clause-exactly : goal.returns-in_err-park-clause-exactly
returns-in_err-park-clause-exactly g c =
    rw (err_is c.from_residual.result _ c.from_residual.ensures.1)
    (λ text known accepted.
    taken_known c.args.options.now g.R.Read.remaining c.args.input.now c.take_park_beside-park.new.input c.take_park_beside-park.result.0 c.in_err-park.field-0.0 c.in_err-park.was
    c.take_park_beside-park.ensures.park text accepted.park.graph accepted.park.machines accepted.park.info known accepted.park.has)

pub returns-in_err-entries-clause-exactly : goal.returns-in_err-entries-clause-exactly
returns-in_err-entries-clause-exactly g c =
    rw (err_is c.from_residual-in_err-entries.result _ c.from_residual-in_err-entries.ensures.1)
    (λ text known accepted. ap exit_status (c.in_err-entries.ensures.exactly accepted.entries accepted.has))
