use Rattle.std.proofs.Common.{◌≡◌, ℕ, List, ◌++◌, length}
use Rattle.std.specs.Vec.Iter.{into_iter_items}
use Rattle.nd_machines.specs.Builders.{Builder}
use Rattle.nd_eligible.specs.Settings.{Settings}
use Rattle.nd_cli.specs.Shares.{AreShares}
use Rattle.nd_cli.proofs.Sharing.{AreFirst}
use Rattle.nd_cli.proofs.shares.join_shares.Given as goal

-- the replies of the shares so far
abbrev pub invariant-loop-share : goal.invariant-loop-share
invariant-loop-share l = record {
  first : (machines : List Builder) (local : Settings) (size : ℕ) → AreShares machines local size l.firsts l.fn.shares.items → AreFirst machines local size l.firsts (length l.yielded) l.replies.items;
  whole : l.fn.shares.items ≡ l.yielded ++ into_iter_items l.share-iterator;
}
