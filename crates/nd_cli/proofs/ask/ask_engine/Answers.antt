use Rattle.std.proofs.result.Match.{err_is}
use Rattle.nd_cli.proofs.ask.ask_engine.Goals as goal

pub returns-in_err-asked-clause-exactly : goal.returns-in_err-asked-clause-exactly
returns-in_err-asked-clause-exactly g c =
    rw (err_is c.from_residual.result _ c.from_residual.ensures.1) c.in_err-asked.ensures.exactly
