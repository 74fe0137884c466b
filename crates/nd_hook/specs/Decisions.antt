-- What is done with a derivation that can be built now: it is built on the local machine or on one
-- of the list, it waits, or nothing can ever build it (this project's own choice, after the replies
-- of the hook and Nix's attribute `preferLocalBuild`). `loc` says that the local machine may build
-- it and is up, `loc_free` that it has a free slot too.
-- Public clauses cite this.
use Rattle.std.specs.Prelude.{◌≡◌, ℕ, Bool, ◌&&◌, if◌then◌else◌, List}
use Rattle.std.specs.Bool.{MatchBool}
use Rattle.nd_machines.specs.Builders.{Builder}
use Rattle.nd_hook.specs.Replies.{IsReply}
use Rattle.nd_hook.specs.declared.kinds.Reply.{Reply}
use Rattle.nd_hook.specs.declared.kinds.Reply.TheVariants.{Accept, Postpone, Decline, DeclinePermanently}
use Rattle.nd_hook.specs.declared.kinds.Decision.{Decision}
use Rattle.nd_hook.specs.declared.kinds.Decision.TheVariants.{Local, Remote, Wait, NoBuilder}

-- without a machine of the list: the local one where it is free, else waiting for it where it may
abbrev pub decision_at_home : Bool → Bool → Decision
decision_at_home loc loc_free = if loc_free then Local else if loc then Wait else NoBuilder

-- what a reply leads to
abbrev pub decision_after : Reply → Bool → Bool → Decision
decision_after (Accept place) loc loc_free = Remote place
decision_after Postpone loc loc_free = Wait
decision_after Decline loc loc_free = decision_at_home loc loc_free
decision_after DeclinePermanently loc loc_free = decision_at_home loc loc_free

-- a derivation that prefers the local machine, and may have it, is built there or waits for it;
-- else the reply decides
abbrev pub IsDecision : List Builder → List ℕ → List Bool → (ℕ → Type 0) → Bool → Bool → Bool → Decision → Type 0
IsDecision machines loads ups IsMeant prefer_local loc loc_free decision =
    MatchBool (prefer_local && loc)
    (decision ≡ (if loc_free then Local else Wait))
    ((reply : Reply) × IsReply machines loads ups IsMeant loc_free reply × (decision ≡ decision_after reply loc loc_free))
