-- The reply of the hook on an idle park: no slot is taken, and every machine is up.
-- Public clauses cite this.
use Rattle.std.specs.Prelude.{ℕ, ◌≤◌, Bool, true, List, length, replicate, IsTrue, ◌↔◌}
use Rattle.nd_machines.specs.Builders.{Builder}
use Rattle.nd_eligible.specs.Settings.{Settings}
use Rattle.nd_eligible.specs.Eligibility.{IsEligibleAt, LocalOk}
use Rattle.nd_eligible.specs.declared.need.Need.{Need}
use Rattle.nd_hook.specs.declared.kinds.Reply.{Reply}
use Rattle.nd_hook.specs.Replies.{IsReply}

-- no slot is taken
abbrev pub idle : List Builder → List ℕ
idle machines = replicate (length machines) 0

-- every machine is up
abbrev pub all_up : List Builder → List Bool
all_up machines = replicate (length machines) true

-- the local machine may build the derivation, and on an idle park one of its slots is free
pub record IsFreeHere (local : Settings) (need : Need) : Type 0 where
  pub may : LocalOk local need
  pub slot : 1 ≤ local.jobs

-- the reply about a derivation with this need
pub record IsIdleReply (machines : List Builder) (local : Settings) (need : Need) (reply : Reply) : Type 0 where
  pub free_here : Bool
  pub is_free : IsTrue free_here ↔ IsFreeHere local need
  pub is : IsReply machines (idle machines) (all_up machines) (IsEligibleAt machines need) free_here reply
