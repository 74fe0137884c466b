use Rattle.std.proofs.Common.{◌≡◌, ◌+◌, ◌≤◌, vec_len, vec_capacity}
use Rattle.std.specs.List.{AllZip}
use Rattle.std.specs.Vec.Iter.{into_iter_len}
use Rattle.nd_run_desk.specs.Jobs.{IsDue}
use Rattle.nd_workers.specs.declared.seat.Seat.{Seat}
use Rattle.nd_workers.specs.AtWork.{IsAtWork}
use Rattle.nd_workers.specs.Served.{seat_of, HasServed, receipts_in}
use Rattle.nd_workers.proofs.threads.join_all.Given as goal

abbrev pub invariant-joining : goal.invariant-joining
invariant-joining g l =
    (l.all.parts ≡ l.initial.all.parts + vec_len l.stints)
    × (l.all.amount ≡ l.initial.all.amount + receipts_in l.stints.items)
    × (vec_len l.stints + into_iter_len l.next-iterator ≡ vec_len l.fn.running)
    × (vec_len l.stints + into_iter_len l.next-iterator ≤ vec_capacity l.stints)
    × AllZip (λ r x. (w : Seat g.row.T.Denot) → IsAtWork (IsDue g.L.Opened.keeping g.L.Opened.opening) g.T.Transport.state w r → HasServed (IsDue g.L.Opened.keeping g.L.Opened.opening) g.T.Transport.state (seat_of g.T.Transport.state w) x) l.yielded l.stints.items
