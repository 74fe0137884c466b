use Rattle.nd_links.specs.Linking.{HaveInputs}
use Rattle.nd_links.proofs.missing.check_inputs.Given as goal

abbrev pub invariant-loop-place : goal.invariant-loop-place
invariant-loop-place l = HaveInputs l.rows l.place
