use Rattle.std.proofs.Common.{◌≡◌, ℕ, List, ◌++◌, drop}
use Rattle.nd_aterm.specs.Spelling.{others}
use Rattle.nd_aterm.proofs.lists.put_others.Given as goal

-- what is written so far goes on to all of it
abbrev pub invariant-loop-item : goal.invariant-loop-item
invariant-loop-item g l =
    (rest : List ℕ) → l.out.items ++ others g.T.Written.text (drop l.item-index l.items) rest ≡ l.fn.out.items ++ others g.T.Written.text l.items rest
