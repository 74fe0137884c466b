use Rattle.std.proofs.Common.{◌≡◌, ◌∷◌, drop}
use Rattle.nd_history_text.specs.Reading.{rises}
use Rattle.nd_history_text.proofs.words.is_rising.Given as goal

-- whether all rise is whether the rest does, from the last one on
abbrev pub invariant-loop-path : goal.invariant-loop-path
invariant-loop-path l = rises (l.last ∷ drop l.path-index l.others) ≡ rises l.paths
