use Rattle.std.proofs.Common.{◌≡◌, ◌+◌, ◌≤◌, vec_len, vec_capacity, length, map, sum_by}
use Rattle.std.specs.List.{AllZip, zip}
use Rattle.std.specs.Vec.Iter.{into_iter_len}
use Rattle.nd_workers.specs.Served.{receipts_in}
use Rattle.nd_workers.proofs.settling.take_apart.Given as goal

abbrev pub invariant-parting : goal.invariant-parting
invariant-parting g l =
    (vec_len l.workers ≡ vec_len l.receipts)
    × (vec_len l.workers + into_iter_len l.stint-iterator ≤ vec_capacity l.workers)
    × (vec_len l.receipts + into_iter_len l.stint-iterator ≤ vec_capacity l.receipts)
    × (sum_by (λ v. vec_len v) l.receipts.items ≡ receipts_in l.yielded)
    × AllZip (λ y x. (x.0 ≡ y.seat) × (x.1.items ≡ y.notes.receipts)) l.yielded (zip l.workers.items l.receipts.items)
    × (l.workers.items ≡ map (λ y. y.seat) l.yielded)
    × (vec_len l.receipts ≡ length l.yielded)
    × (vec_len l.copies + into_iter_len l.stint-iterator ≤ vec_capacity l.copies)
    × AllZip (λ y x. x.items ≡ y.notes.copies) l.yielded l.copies.items
