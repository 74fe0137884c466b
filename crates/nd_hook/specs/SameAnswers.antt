-- The reply and the decision among given places against those over the whole list.
-- Public clauses cite this.
use Rattle.std.specs.Prelude.{◌≡◌, ℕ, Bool, List, Contains}
use Rattle.nd_machines.specs.Builders.{Builder}
use Rattle.nd_eligible.specs.declared.need.Need.{Need}
use Rattle.nd_eligible.specs.Eligibility.{IsEligibleAt, AreEligible}
use Rattle.nd_hook.specs.Replies.{IsReply}
use Rattle.nd_hook.specs.Decisions.{IsDecision}
use Rattle.nd_hook.specs.declared.kinds.Reply.{Reply}
use Rattle.nd_hook.specs.declared.kinds.Decision.{Decision}

-- among the places of the machines that are eligible for a need, the reply is the one for that need
abbrev pub SameReply : Type 0
SameReply = (machines : List Builder) (loads : List ℕ) (ups : List Bool) (need : Need) (places : List ℕ) (loc_free : Bool)
    → AreEligible machines need places
    → (among whole : Reply)
    → IsReply machines loads ups (Contains places) loc_free among
    → IsReply machines loads ups (IsEligibleAt machines need) loc_free whole
    → among ≡ whole

-- .. and so is the decision
abbrev pub SameDecision : Type 0
SameDecision = (machines : List Builder) (loads : List ℕ) (ups : List Bool) (need : Need) (places : List ℕ) (prefer_local loc loc_free : Bool)
    → AreEligible machines need places
    → (among whole : Decision)
    → IsDecision machines loads ups (Contains places) prefer_local loc loc_free among
    → IsDecision machines loads ups (IsEligibleAt machines need) prefer_local loc loc_free whole
    → among ≡ whole
