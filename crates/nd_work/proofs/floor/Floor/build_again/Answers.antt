use Rattle.std.proofs.Common.{◌∙◌}
use Rattle.nd_work.proofs.Going.{again_lost}
use Rattle.nd_work.proofs.floor.Floor.build_again.Goals as goal

pub returns-in_ok-fail-in-Refused : goal.returns-in_ok-fail-in-Refused
returns-in_ok-fail-in-Refused g c =
    again_lost g.L.Opened.keeping g.L.Opened.opening c.args.hand.now.notes c.fail.new.hand.notes c.args.job c.args.call.now.kept c.in-Refused.calls c.copied_paths-paths.result
    c.args.transport.now c.fetch-fetched.new.self
    c.in-Refused.ensures.fetches c.fetch-fetched.ensures.may (λ two. c.copied_paths-paths.ensures two ∙ c.into_paths-paths.ensures) c.in_ok-fail-in-Refused.ensures.ok
