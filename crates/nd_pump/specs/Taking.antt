-- What the turn of a derivation leads to.
-- No public clause cites this: it serves private clauses alone.
use Rattle.std.specs.Prelude.{ℕ, ◌+◌, ◌<◌, not, List, Option, None, Some, count_by}
use Rattle.nd_pump.specs.Queues.{Queued}
use Rattle.nd_history.specs.declared.entry.Entry.{Entry}
use Rattle.nd_history.specs.Premises.{Premises}
use Rattle.nd_history.specs.Pumping.{IsStepOf}
use Rattle.nd_pump.specs.Turned.{Turned}

-- how many derivations are listed, and how many kinds aren't passed over
abbrev pub left_in : Queued → ℕ
left_in q = count_by (λ b. b) q.ready + count_by (λ b. not b) q.parked

-- its step, or one listed derivation or one kind fewer
abbrev pub IsTaken : Premises → List Entry → ℕ → Turned → Turned → Option Entry → Type 0
IsTaken i past d old new None = left_in new.queue < left_in old.queue
IsTaken i past d old new (Some e) = IsStepOf i past d e
