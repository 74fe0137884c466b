use Rattle.std.proofs.Common.{take}
use Rattle.std.specs.List.{AllZip}
use Rattle.nd_cli.specs.ClassReplies.{IsClassReply}
use Rattle.nd_cli.proofs.asks.replies_about.Given as goal

-- the replies so far
abbrev pub invariant-loop-class : goal.invariant-loop-class
invariant-loop-class l = AllZip (IsClassReply l.machines l.local) (take l.class l.firsts) l.replies.items
