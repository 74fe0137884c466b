use Rattle.std.proofs.Common.{sym, subst, refl, ◌∙◌, length}
use Rattle.nd_failure.specs.Progress.{Progress, IsLeased}
use Rattle.nd_failure.proofs.BoardFacts.{shown, IsKept-built, lower_within}
use Rattle.nd_failure.proofs.SpreadFacts.{dependants_within}
use Rattle.nd_failure.proofs.board.Board.built.Goals as goal

pub lower_all-requires : goal.lower_all-requires
lower_all-requires c =
    let leased : IsLeased (shown c.self.inside) c.args.i = subst (λ (p : Progress). IsLeased p c.args.i) (sym c.self.view_is) c.requires in
    lower_within c.self.inside c.args.i c.dependants-dependants.result.now c.self.invariant leased c.dependants-dependants.ensures

pub wake-requires-clause-in_range : goal.wake-requires-clause-in_range
wake-requires-clause-in_range c =
    dependants_within c.self.inside.edges c.args.i c.dependants-dependants.result.now (length c.self.inside.ready) c.dependants-dependants.ensures
    (c.self.invariant.ready.sized ∙ c.self.invariant.marked)

pub invariant_of-self : goal.invariant_of-self
invariant_of-self c =
    let leased : IsLeased (shown c.self.inside) c.args.i = subst (λ (p : Progress). IsLeased p c.args.i) (sym c.self.view_is) c.requires in
    IsKept-built c.self.inside c.args.i _ _ _ _ c.dependants-dependants.result.now c.self.invariant leased c.dependants-dependants.ensures refl
    c.lower_all.ensures.sized c.lower_all.ensures.lowered c.wake.ensures c.change.ensures
