use Rattle.std.proofs.Common.{◌≡◌, ◌<◌, ℕ, List, length, get_or}
use Rattle.nd_failure.specs.Statuses.{HasStatus, IsTally}
use Rattle.nd_failure.specs.declared.status.Status.{Status}
use Rattle.nd_failure.specs.declared.status.Status.TheVariants.{Waiting}
use Rattle.nd_failure.proofs.plain.PlainBoard.counts.Given as goal

abbrev pub invariant-loop-i : goal.invariant-loop-i
invariant-loop-i l = (statuses : List Status) × (length statuses ≡ l.i)
    × ((d : ℕ) → d < l.i → HasStatus l.self d (get_or statuses d Waiting)) × IsTally statuses l.counts
