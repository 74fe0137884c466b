use Rattle.std.proofs.Common.{arith}
use Rattle.std.proofs.lemmas.Grind.{common_steps}
use Rattle.std.proofs.lemmas.List.{drop_more}
use Rattle.std.proofs.lemmas.Option.{slice_get-get_or}
use Rattle.nd_transports.proofs.rule_book.first_places.Goals as goal

pub loop-place-preserved-in_ok-insert : goal.loop-place-preserved-in_ok-insert
loop-place-preserved-in_ok-insert c = record { first = λ q. grind (arith, common_steps, drop_more, slice_get-get_or, c.loop-place.invariant.first q, c.in-Some.ensures q) }
