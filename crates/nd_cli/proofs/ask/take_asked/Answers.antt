use Rattle.std.proofs.Common.{false, ap}
use Rattle.std.proofs.result.Match.{err_is}
use Rattle.nd_cli.specs.Parks.{IsAccepted}
use Rattle.nd_cli.specs.Statuses.{exit_status}
use Rattle.nd_cli.proofs.Refused.{park_refused, setting_refused}
use Rattle.nd_cli.proofs.ask.take_asked.Goals as goal

pub returns-in_err-needs-clause-exactly : goal.returns-in_err-needs-clause-exactly
returns-in_err-needs-clause-exactly g c =
    rw (err_is c.from_residual.result _ c.from_residual.ensures.1)
    (λ text known accepted. c.in_err-needs.ensures.exactly text accepted.graph known accepted.has.bundle)

pub returns-in-Err-clause-fault : goal.returns-in-Err-clause-fault
returns-in-Err-clause-fault g c =
    let given = c.in_ok-needs.ensures.read.read in
    let accepted : IsAccepted c.args.options.now given.text = record { graph = c.in_ok-needs.ensures.read.graph; has = given.has } in
    park_refused c.args.options.now g.R.Read.remaining c.args.input.now c.take_needs.new.input false given.text c.in-Err.fault given.read
    (setting_refused c.args.options.now given.text c.in-Err.fault accepted c.in-Err.ensures.refused)

pub returns-in-Err-clause-exactly : goal.returns-in-Err-clause-exactly
returns-in-Err-clause-exactly g c = λ text known accepted.
    ap exit_status (c.in-Err.ensures.exactly accepted.machines accepted.info accepted.has.builders accepted.has.references)
