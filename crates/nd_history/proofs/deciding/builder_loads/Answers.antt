use Rattle.std.proofs.Common.{ℕ, length, reverse, ◌∙◌, arith}
use Rattle.nd_history.specs.History.{load}
use Rattle.nd_history.proofs.Following.{after_first, length-take_drop}
use Rattle.nd_history.proofs.deciding.builder_loads.Goals as goal

pub returns-clause-value : goal.returns-clause-value
returns-clause-value c =
    after_first (λ (m : ℕ). load m (reverse c.args.book.now.entries)) c.loads-loads.result.now (length c.args.inputs.now.machines) (c.loads-loads.ensures.sized ∙ c.requires) c.loads-loads.ensures.each

pub returns-clause-sized : goal.returns-clause-sized
returns-clause-sized c = let sized = c.loads-loads.ensures.sized in let whole = c.requires in let cut = length-take_drop c.loads-loads.result.now in omega (arith, sized, whole, cut)
