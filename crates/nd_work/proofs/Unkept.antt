-- Leave in a run that keeps no history.
use Rattle.std.proofs.Common.{◌≡◌, ℕ, Bool, true, false, List, []}
use Rattle.nd_history.specs.declared.entry.Entry.{Entry}
use Rattle.nd_leases.specs.declared.ticket.Ticket.{Ticket}
use Rattle.nd_run_desk.specs.declared.keeping.Step.{Step}
use Rattle.nd_run_desk.specs.declared.keeping.Step.TheVariants.{Call, Build}
use Rattle.nd_run_desk.specs.Leaves.{Allows}

-- nothing has to be durable
pub unkept : (keeps : Bool) (durable : List Entry) (place : ℕ) (step : Step) (t : Ticket) → keeps ≡ false → Allows keeps durable place step t
unkept keeps durable place Call t off = record { own = λ on. absurd (cc (on, off)); choice = record { there = λ on. absurd (cc (on, off)) } }
unkept keeps durable place Build t off = record { behind = λ on. absurd (cc (on, off)); paths = []; start = record { there = λ on. absurd (cc (on, off)) } }
