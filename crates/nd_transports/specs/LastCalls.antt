-- How the calls of a transport are stored where the last one alone is kept. No clause cites these definitions: they are the
-- view and the invariant of `LastCall`, for proofs alone.
use Rattle.std.specs.Prelude.{◌≡◌, ◌-◌, List, Option, Some, None, length, slice_get}
use Rattle.nd_transports.specs.declared.kinds.Call.{Call}
use Rattle.nd_transports.specs.declared.last_call.LastCall.TheInside.{Inside}
use Rattle.nd_transports.specs.Calls.{State, Deed}

abbrev pub state_of : Inside → State
state_of l = record { phase = l.phase; job = l.so_far.job; paths = l.paths; deeds = l.so_far.deeds }

abbrev pub call_in : Option Deed → Option Call
call_in (Some x) = Some x.call
call_in None = None

-- the last of these calls, where there is one
abbrev pub last_of : List Deed → Option Call
last_of deeds = call_in (slice_get deeds (length deeds - 1))

-- the call that is kept is the last one, and the derivation is the job's
pub record HasLast (l : Inside) : Type 0 where
  pub last : l.last ≡ last_of l.so_far.deeds
  pub drv : l.drv ≡ l.so_far.job.ticket.drv
