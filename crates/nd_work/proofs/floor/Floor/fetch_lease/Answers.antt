use Rattle.std.proofs.Common.{◌∙◌}
use Rattle.nd_work.proofs.Going.{goes_away}
use Rattle.nd_work.proofs.floor.Floor.fetch_lease.Goals as goal

pub returns-in_ok-down-in-Refused-clause-goes : goal.returns-in_ok-down-in-Refused-clause-goes
returns-in_ok-down-in-Refused-clause-goes g c =
    goes_away g.L.Opened.keeping g.L.Opened.opening c.args.hand.now.notes c.down.new.hand.notes c.args.job c.args.leave.now.kept c.in-Refused.calls c.copied_paths-kept.result
    c.args.transport.now c.fetch-fetched.new.self
    c.in-Refused.ensures.fetches c.fetch-fetched.ensures.may (λ two. c.copied_paths-kept.ensures two ∙ c.into_paths-paths.ensures) c.in_ok-down-in-Refused.ensures.ok
