-- The replies about derivations on an idle park, of which one is made for all needs with the same platform and the
-- same required features. They serve private clauses.
use Rattle.std.specs.Prelude.{List}
use Rattle.std.specs.Borrow.{Bor}
use Rattle.nd_machines.specs.Builders.{Builder}
use Rattle.nd_eligible.specs.Settings.{Settings}
use Rattle.nd_eligible.specs.declared.need.Need.{Need}
use Rattle.nd_hook.specs.declared.kinds.Reply.{Reply}
use Rattle.nd_hook.specs.Idle.{IsIdleReply}

-- the reply about a class, by the need of its first derivation
pub record IsClassReply (machines : List Builder) (local : Settings) (first : Bor Need) (reply : Reply) : Type 0 where
  pub is : IsIdleReply machines local first.now reply
