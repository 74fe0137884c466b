use Rattle.std.proofs.Common.{List, ℕ, subst, ◌∙◌}
use Rattle.std.proofs.lemmas.List.{take_all}
use Rattle.std.proofs.lemmas.Result.{IfOk-weaker}
use Rattle.nd_path.specs.PathSets.{HasSameMembers}
use Rattle.nd_provision.specs.Stored.{Lacks}
use Rattle.nd_provision.proofs.Checking.{lacks_passed, lacks_taken, lacks_as_set}
use Rattle.nd_provision.proofs.checks.lacked.Goals as goal

pub loop-path-preserved-then-is_held : goal.loop-path-preserved-then-is_held
loop-path-preserved-then-is_held c =
    lacks_passed c.args.numbers.now.paths c.args.held.now.numbers c.as_slice-path-items.result.now c.loop-path.lacked.items c.loop-path.path-index c.path-item.result
    c.loop-path-test.true c.path-item.is c.loop-path.invariant c.if-is_held.ensures

pub loop-path-preserved : goal.loop-path-preserved
loop-path-preserved c =
    rw (c.in_ok-push.ensures.items, c.in_ok-try_clone.ensures)
    (lacks_taken c.args.numbers.now.paths c.args.held.now.numbers c.as_slice-path-items.result.now c.loop-path.lacked.items c.loop-path.path-index c.path-item.result
    c.loop-path-test.true c.path-item.is c.loop-path.invariant c.if-is_held.ensures)

pub returns : goal.returns
returns c =
    let whole : Lacks c.args.numbers.now.paths c.args.held.now.numbers c.args.closure.now c.loop-path.lacked.items =
    subst (λ (paths : List (List ℕ)). Lacks c.args.numbers.now.paths c.args.held.now.numbers paths c.loop-path.lacked.items)
    (take_all c.loop-path.path-index c.as_slice-path-items.result.now c.loop-path-test.false ∙ c.as_slice-path-items.ensures.value) c.loop-path.invariant in
    IfOk-weaker c.from_vec.result (HasSameMembers c.loop-path.lacked.items) (Lacks c.args.numbers.now.paths c.args.held.now.numbers c.args.closure.now)
    (λ result same. lacks_as_set c.args.numbers.now.paths c.args.held.now.numbers c.args.closure.now c.loop-path.lacked.items result whole same) c.from_vec.ensures.members
