use Rattle.nd_eligible.proofs.Places.{AreSoFar}
use Rattle.nd_eligible.proofs.classes.eligible_places.Given as goal

-- the eligible machines at the places so far
abbrev pub invariant-loop-place : goal.invariant-loop-place
invariant-loop-place l = AreSoFar l.machines l.need l.place l.places.items
