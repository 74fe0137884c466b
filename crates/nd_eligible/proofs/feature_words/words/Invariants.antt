use Rattle.std.proofs.Common.{◌≡◌, take}
use Rattle.std.specs.Prelude.{map, filter}
use Rattle.nd_eligible.specs.Attributes.{is_word}
use Rattle.nd_eligible.proofs.feature_words.words.Given as goal

-- the words of the pieces so far
abbrev pub invariant-loop-piece : goal.invariant-loop-piece
invariant-loop-piece l = l.found.items ≡ filter is_word (map (λ piece. piece.now) (take l.piece-index l.piece-items))
