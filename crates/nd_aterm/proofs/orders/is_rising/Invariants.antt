use Rattle.std.proofs.Common.{◌≡◌, ◌∷◌, drop}
use Rattle.nd_aterm.specs.Derivations.{rises}
use Rattle.nd_aterm.proofs.orders.is_rising.Given as goal

-- whether all rise is whether the rest does, from the last one on
abbrev pub invariant-loop-item : goal.invariant-loop-item
invariant-loop-item g l = rises g.T.Keyed.key (l.last ∷ drop l.item-index l.others) ≡ rises g.T.Keyed.key l.items
