use Rattle.std.proofs.Common.{List, ℕ, sym, subst}
use Rattle.nd_closure.proofs.SameLines.{sets_decide}
use Rattle.nd_history.specs.Premises.{premises_of}
use Rattle.nd_provision.specs.Stored.{ArePathsRightBy}
use Rattle.nd_provision.proofs.Copied.{exact_in, some_is}
use Rattle.nd_provision.proofs.Storing.{exact_by}
use Rattle.nd_provision.proofs.stores.Stores.check_paths.Goals as goal

pub returns-in-Some-clause-ok : goal.returns-in-Some-clause-ok
returns-in-Some-clause-ok c =
    exact_in (premises_of c.args.inputs.now) c.args.self.now c.args.drv c.args.m c.args.paths.now c.requires.drv
    (some_is c.in_ok-numbers.field-0 c.in-Some.numbers c.in-Some.is c.in_ok-numbers.ensures.missing)

pub returns-then-eq-clause-ok : goal.returns-then-eq-clause-ok
returns-then-eq-clause-ok c =
    let i = premises_of c.args.inputs.now in
    subst (λ (xs : List (List ℕ)). ArePathsRightBy i c.args.self.now c.args.drv c.args.m xs)
    (sym ((sets_decide c.args.paths.now c.in_ok-walk_missing.field-0 c.eq-else-self.result c.eq-else-self.ensures).0 c.if-eq.true))
    (exact_by i c.args.self.now c.args.drv c.args.m c.in_ok-walk_missing.field-0 c.in_ok-walk_missing.ensures)
