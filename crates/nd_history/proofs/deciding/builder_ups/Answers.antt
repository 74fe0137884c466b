use Rattle.std.proofs.Common.{ℕ, length, reverse, arith}
use Rattle.nd_history.specs.History.{is_up}
use Rattle.nd_history.proofs.Following.{flags_after_first, length-take_drop}
use Rattle.nd_history.proofs.deciding.builder_ups.Goals as goal

pub returns-clause-value : goal.returns-clause-value
returns-clause-value c =
    flags_after_first (λ (m : ℕ). is_up m (reverse c.args.book.now.entries)) c.ups-ups.result.now c.args.book.now.machines (length c.args.inputs.now.machines)
    c.ups-ups.ensures.sized c.requires c.ups-ups.ensures.each

pub returns-clause-sized : goal.returns-clause-sized
returns-clause-sized c = let sized = c.ups-ups.ensures.sized in let whole = c.requires in let cut = length-take_drop c.ups-ups.result.now in omega (arith, sized, whole, cut)
