use Rattle.std.proofs.Common.{◌≡◌, [], replicate, vec_capacity}
use Rattle.nd_leases.proofs.leases.empty_rows.Given as goal

abbrev pub invariant-loop : goal.invariant-loop
invariant-loop l = record { rows : l.rows.items ≡ replicate l.counter []; room : vec_capacity l.rows ≡ l.fn.machines }
