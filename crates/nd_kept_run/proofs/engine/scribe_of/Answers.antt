use Rattle.std.proofs.Common.{◌≡◌, ◌∙◌, ◌==◌, not, refl}
use Rattle.nd_kept_run.proofs.Kept.{none_begun}
use Rattle.nd_kept_run.proofs.engine.scribe_of.Goals as goal

pub new-requires-clause-unbegun : goal.new-requires-clause-unbegun
new-requires-clause-unbegun g c = λ fresh. c.history.ensures.value ∙ none_begun c.args.opened.now.kept (not (c.args.opened.now.kept == 0)) c.args.opened.now.dispatch.history c.args.opened.now.begun refl fresh
