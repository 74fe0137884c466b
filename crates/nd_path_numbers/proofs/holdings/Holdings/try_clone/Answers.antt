use Rattle.std.proofs.Common.{List, subst}
use Rattle.nd_path_numbers.specs.Held.{Hold, HoldTheSame}
use Rattle.nd_path_numbers.proofs.Holding.{same_by_each}
use Rattle.nd_path_numbers.proofs.holdings.Holdings.try_clone.Goals as goal

pub returns : goal.returns
returns c =
    subst (λ (holds : List Hold). HoldTheSame holds c.in_ok-machines.machines.items) c.self.view_is
    (same_by_each c.self.inside.machines.items c.in_ok-machines.machines.items c.in_ok-machines.ensures.cases.0)
