use Rattle.std.proofs.Common.{List, ℕ, subst, ap}
use Rattle.nd_path_numbers.specs.Numbers.{Numbered, IsLookedUp}
use Rattle.nd_path_numbers.proofs.Growing.{looked_up}
use Rattle.nd_path_numbers.proofs.path_numbers.PathNumbers.number.Goals as goal

pub returns : goal.returns
returns c =
    subst (λ (ps : List (List ℕ)). IsLookedUp ps c.args.path.now c.get_index_of.result) (ap (λ (n : Numbered). n.paths) c.self.view_is)
    (looked_up c.self.inside.paths.keys c.args.path.now c.get_index_of.result c.get_index_of.ensures.index c.get_index_of.ensures.found)
