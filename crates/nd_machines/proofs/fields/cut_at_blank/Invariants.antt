-- No byte so far is a blank.
use Rattle.std.proofs.Common.{◌≡◌, take, false}
use Rattle.std.specs.List.{All}
use Rattle.nd_machines.specs.Fields.{is_blank}
use Rattle.nd_machines.proofs.fields.cut_at_blank.Given as goal

abbrev pub invariant-loop-i : goal.invariant-loop-i
invariant-loop-i l = All (λ b. is_blank b ≡ false) (take l.i l.bytes)
