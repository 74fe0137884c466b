-- What the hook replies before anything was decided.
-- Public clauses cite this.
use Rattle.std.specs.Prelude.{◌≡◌, ◌↔◌, ℕ, [], Some, slice_get}
use Rattle.nd_eligible.specs.declared.need.Need.{Need}
use Rattle.nd_hook.specs.declared.kinds.Reply.{Reply}
use Rattle.nd_hook.specs.Idle.{IsIdleReply}
use Rattle.nd_history.specs.Premises.{Premises}
use Rattle.nd_history.specs.Choices.{HasReply}

-- after the empty history the reply about a derivation is the one on an idle park for its need
abbrev pub FirstReplyIsIdle : Type 0
FirstReplyIsIdle = (i : Premises) (d : ℕ) (need : Need) (reply : Reply) → slice_get i.graph.needs d ≡ Some need
    → HasReply i [] d reply ↔ IsIdleReply i.machines i.local need reply
