use Rattle.std.proofs.Common.{sym, ◌∙◌}
use Rattle.nd_history.proofs.Following.{lowered_one, lowered_none, nothing}
use Rattle.nd_history.proofs.tables.lower.Goals as goal

pub returns-in-Some : goal.returns-in-Some
returns-in-Some c = λ tickets tabled. lowered_one c.args.drv tickets c.in-Some.ticket _ _ tabled.apart (sym (c.lease.ensures tickets tabled) ∙ c.in-Some.is) c.put.ensures

pub returns-in_default : goal.returns-in_default
returns-in_default c = λ tickets tabled. lowered_none c.args.drv tickets _ (sym (c.lease.ensures tickets tabled) ∙ nothing c.lease.result c.in_default.not-Some)
