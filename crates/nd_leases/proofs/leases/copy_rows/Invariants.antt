use Rattle.std.proofs.Common.{◌≡◌, take, length, vec_capacity}
use Rattle.nd_leases.proofs.leases.copy_rows.Given as goal

abbrev pub invariant-loop-row : goal.invariant-loop-row
invariant-loop-row l = record { rows : l.copy.items ≡ take l.row-index l.rows; room : vec_capacity l.copy ≡ length l.rows }
