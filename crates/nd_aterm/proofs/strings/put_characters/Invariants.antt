use Rattle.std.proofs.Common.{◌≡◌, ℕ, List, ◌++◌, length}
use Rattle.nd_aterm.specs.Spelling.{characters}
use Rattle.nd_aterm.proofs.strings.put_characters.Given as goal

-- what is written so far goes on to all of it
abbrev pub invariant-loop-byte : goal.invariant-loop-byte
invariant-loop-byte l =
    (rest : List ℕ) → l.out.items ++ characters l.left rest ≡ l.fn.out.items ++ characters l.bytes rest

abbrev pub decreases-loop-byte : goal.decreases-loop-byte
decreases-loop-byte l = length l.left
