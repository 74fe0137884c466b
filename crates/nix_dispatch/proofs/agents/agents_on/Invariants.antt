use Rattle.std.proofs.Common.{◌≡◌, map}
use Rattle.nix_dispatch.proofs.agents.agents_on.Given as goal

abbrev pub invariant-loop-place : goal.invariant-loop-place
invariant-loop-place g l = map (λ w. w.place) l.seats.items ≡ l.yielded
