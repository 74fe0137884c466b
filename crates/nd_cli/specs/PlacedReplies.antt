-- The replies about derivations whose needs stand at places of a table. They serve private clauses.
use Rattle.std.specs.Prelude.{ℕ, List, Option}
use Rattle.std.specs.List.{AllZip}
use Rattle.nd_machines.specs.Builders.{Builder}
use Rattle.nd_eligible.specs.Settings.{Settings}
use Rattle.nd_eligible.specs.declared.need.Need.{Need}
use Rattle.nd_links.specs.Placing.{ArePlaced, Placed}
use Rattle.nd_hook.specs.declared.kinds.Reply.{Reply}
use Rattle.nd_hook.specs.Idle.{IsIdleReply}
use Rattle.nd_cli.specs.Asks.{WritesReplies, WritesSomeReplies}

-- some needs stand at these places
pub record HaveNeeds (needs : Placed) : Type 0 where
  pub said : List Need
  pub placed : ArePlaced needs.table needs.places said

-- the replies about derivations with the needs that stand there
pub record AreRepliesAt (machines : List Builder) (local : Settings) (needs : Placed) (replies : List Reply) : Type 0 where
  pub each : (said : List Need) → ArePlaced needs.table needs.places said → AllZip (IsIdleReply machines local) said replies

-- a writer took them
pub record WritesRepliesAt (machines : List Builder) (local : Settings) (needs : Placed) (old new : Option (List ℕ)) : Type 0 where
  pub writes : (said : List Need) → ArePlaced needs.table needs.places said → WritesReplies machines local said old new

-- .. or a part of them
pub record WritesSomeRepliesAt (machines : List Builder) (local : Settings) (needs : Placed) (old new : Option (List ℕ)) : Type 0 where
  pub writes : (said : List Need) → ArePlaced needs.table needs.places said → WritesSomeReplies machines local said old new
