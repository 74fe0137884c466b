use Rattle.std.proofs.result.Match.{err_is}
use Rattle.nd_cli.proofs.park.read_setting.Goals as goal

pub returns-in_err-machines-clause-exactly : goal.returns-in_err-machines-clause-exactly
returns-in_err-machines-clause-exactly c =
    rw (err_is c.from_residual.result _ c.from_residual.ensures.1)
    (λ machines info builders references. c.in_err-machines.ensures.exactly machines builders)
