use Rattle.std.proofs.Common.{◌≡◌, ◌+◌, ◌≤◌, vec_len, vec_capacity}
use Rattle.std.specs.List.{AllZip}
use Rattle.std.specs.Vec.Iter.{into_iter_len}
use Rattle.nd_run_desk.specs.Jobs.{IsDue}
use Rattle.nd_workers.specs.AtWork.{IsAtWork}
use Rattle.nd_workers.proofs.threads.start_all.Given as goal

abbrev pub invariant-starting : goal.invariant-starting
invariant-starting g l =
    (l.rest.parts ≡ into_iter_len l.seat-iterator + 1)
    × (l.rest.amount ≡ l.initial.rest.amount)
    × (vec_len l.running + into_iter_len l.seat-iterator ≡ vec_len l.fn.seats)
    × (vec_len l.running + into_iter_len l.seat-iterator ≤ vec_capacity l.running)
    × AllZip (IsAtWork (IsDue g.L.Opened.keeping g.L.Opened.opening) g.T.Transport.state) l.yielded l.running.items
