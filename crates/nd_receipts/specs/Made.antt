-- The entries of a history that workers make. This project's own choice. Public clauses cite this.
use Rattle.std.specs.Prelude.{ℕ, Bool, true, false, List, count_by}
use Rattle.nd_history.specs.declared.entry.Entry.{Entry}
use Rattle.nd_history.specs.declared.entry.Entry.TheVariants.{Chosen, NoBuilder, Started, Down, Built, Failed, Stop, Drain, Enable}
use Rattle.nd_history.specs.declared.entry.Why.{Why}
use Rattle.nd_history.specs.declared.entry.Why.TheVariants.{Status, Lost, BadReferences, NoWorker, Memory}

-- a worker says so
abbrev pub is_worker_cause : Why → Bool
is_worker_cause (Status code) = true
is_worker_cause Lost = true
is_worker_cause BadReferences = true
is_worker_cause NoWorker = false
is_worker_cause Memory = true

-- a worker makes the entry
abbrev pub is_made : Entry → Bool
is_made (Started d paths) = true
is_made (Down d) = true
is_made (Built d refs) = true
is_made (Failed d why) = is_worker_cause why
is_made (Chosen d m s) = false
is_made (NoBuilder d) = false
is_made Stop = false
is_made (Drain m) = false
is_made (Enable m) = false

-- how many entries workers made
abbrev pub made : List Entry → ℕ
made history = count_by is_made history

-- it says neither that no further lease is made nor that no worker serves a lease, and neither drains nor enables a machine
abbrev pub is_quiet : Entry → Bool
is_quiet (Failed d why) = is_worker_cause why
is_quiet Stop = false
is_quiet (Started d paths) = true
is_quiet (Down d) = true
is_quiet (Built d refs) = true
is_quiet (Chosen d m s) = true
is_quiet (NoBuilder d) = true
is_quiet (Drain m) = false
is_quiet (Enable m) = false
