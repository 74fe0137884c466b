-- How the calls of a transport are stored. No clause cites these definitions: they are the view and the invariant of
-- `CallLog`, for proofs alone.
use Rattle.std.specs.Prelude.{◌≡◌, ℕ, ◌+◌, ◌≤◌, vec_len, vec_capacity}
use Rattle.nd_transports.specs.declared.call_log.CallLog.TheInside.{Inside}
use Rattle.nd_transports.specs.declared.kinds.Phase.{Phase}
use Rattle.nd_transports.specs.declared.kinds.Phase.TheVariants.{Idle, Prepared, Connected, Copied}
use Rattle.nd_transports.specs.Calls.{State, calls_of}

abbrev pub state_of : Inside → State
state_of l = record { phase = l.phase; job = l.so_far.job; paths = l.paths; deeds = l.so_far.deeds }

-- how many calls may still come before the next job
abbrev pub calls_left : Phase → ℕ
calls_left Idle = 0
calls_left Prepared = 3
calls_left Connected = 2
calls_left Copied = 1

-- the calls that are kept are all of them, there is room for the next job's, and the derivation is that job's
pub record HasCalls (l : Inside) : Type 0 where
  pub calls : l.calls.items ≡ calls_of l.so_far.deeds
  pub room : vec_len l.calls + calls_left l.phase ≤ vec_capacity l.calls
  pub drv : l.drv ≡ l.so_far.job.ticket.drv
