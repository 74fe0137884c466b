use Rattle.nd_provision.proofs.Told.{told_grown}
use Rattle.nd_provision.proofs.stores.Stores.prepare_start.Goals as goal

pub invariant_of-self : goal.invariant_of-self
invariant_of-self c = told_grown c.self.inside.listed c.self.inside.numbers c.numbers_at_hand.new.numbers c.in_err-brought.ensures.grown c.self.invariant

pub invariant_of-self-in_err-reserve_below : goal.invariant_of-self-in_err-reserve_below
invariant_of-self-in_err-reserve_below c = told_grown c.self.inside.listed c.self.inside.numbers c.numbers_at_hand.new.numbers c.in_ok-brought.ensures.grown c.self.invariant

pub invariant_of-self-2 : goal.invariant_of-self-2
invariant_of-self-2 c = told_grown c.self.inside.listed c.self.inside.numbers c.numbers_at_hand.new.numbers c.in_ok-brought.ensures.grown c.self.invariant
