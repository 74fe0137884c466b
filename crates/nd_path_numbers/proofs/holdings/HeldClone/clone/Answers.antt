use Rattle.std.proofs.Common.{ℕ, List, sym, subst}
use Rattle.nd_path_numbers.specs.Marks.{AreTold}
use Rattle.nd_path_numbers.proofs.holdings.HeldClone.clone.Goals as goal

pub invariant_of-result : goal.invariant_of-result
invariant_of-result c =
    subst (λ (numbers : List ℕ). AreTold numbers c.in_ok-marks_again.field-0) (sym c.in_ok-copy_of.ensures) (c.in_ok-marks_again.ensures c.self.inside.numbers.items c.self.invariant)
