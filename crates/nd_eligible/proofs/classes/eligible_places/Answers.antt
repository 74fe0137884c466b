use Rattle.std.proofs.Common.{refl, sym, true≢false, arith}
use Rattle.nd_eligible.proofs.Places.{so_far_more, so_far_same, so_far_all}
use Rattle.nd_eligible.proofs.classes.eligible_places.Goals as goal
use Rattle.nd_eligible.proofs.classes.eligible_places.Goals.{then-eligible+in_ok-push, else-eligible}

-- an eligible machine's place is added, another one's isn't
pub loop-place-preserved : goal.loop-place-preserved
loop-place-preserved c = elim c.if-eligible.branch [
  | then-eligible+in_ok-push w ↦ rw (w.places-is, w.in_ok-push.ensures.items)
      (so_far_more c.args.machines.now c.args.need.now c.loop-place.place c.loop-place.places.items c.index-machines-place.result
      c.loop-place-test.true c.index-machines-place.is (w.if-eligible.ensures.0 refl) c.loop-place.invariant)
  | else-eligible w ↦ rw w.places-is
      (so_far_same c.args.machines.now c.args.need.now c.loop-place.place c.loop-place.places.items c.index-machines-place.result
      c.loop-place-test.true c.index-machines-place.is (λ passes. true≢false (sym (w.if-eligible.ensures.1 passes))) c.loop-place.invariant)
]

pub returns : goal.returns
returns c = rw c.new.ensures (so_far_all c.args.machines.now c.args.need.now c.loop-place.place c.loop-place.places.items (omega arith) c.loop-place.invariant)
