use Rattle.std.proofs.Common.{◌≡◌, List, ℕ, ◌++◌, length, ap, refl, sym, ◌∙◌, subst, arith}
use Rattle.nd_path.specs.PathSets.{HasSameMembers}
use Rattle.nd_history.specs.Premises.{premises_of}
use Rattle.nd_history.specs.References.{outputs_of}
use Rattle.nd_provision.specs.Nearby.{AreAllNear}
use Rattle.nd_provision.specs.Stored.{AreAllWithin}
use Rattle.nd_provision.proofs.Nearness.{references_seen}
use Rattle.nd_provision.proofs.Storing.{references_near}
use Rattle.nd_provision.proofs.stores.Stores.check_references.Goals as goal

pub returns-then-all_lie_in-clause-right : goal.returns-then-all_lie_in-clause-right
returns-then-all_lie_in-clause-right c =
    let i = premises_of c.args.inputs.now in
    let near : List (List ℕ) = c.in_ok-near.near in
    let needed : List (List ℕ) = c.in_ok-needed_by.field-0.items in
    let as_many : length c.lists.result.now ≡ length c.outputs-outputs.result.now = omega (arith, c.if-lists-outputs.false) in
    let sized : length c.args.refs.now ≡ length (outputs_of i c.args.drv) =
    ap (λ (xs : List (List (List ℕ))). length xs) (sym c.lists.ensures) ∙ as_many ∙ ap (λ (xs : List (List ℕ)). length xs) c.outputs-outputs.ensures in
    let same : HasSameMembers (needed ++ outputs_of i c.args.drv) near =
    subst (λ (xs : List (List ℕ)). HasSameMembers (needed ++ xs) near) c.outputs-outputs.ensures c.in_ok-near.ensures in
    let within : AreAllWithin near c.args.refs.now = subst (λ (xs : List (List (List ℕ))). AreAllWithin near xs) c.lists-3.ensures c.if-all_lie_in.ensures in
    references_near i c.args.self.now c.args.drv c.args.refs.now needed near sized (c.in_ok-needed_by.ensures.tells i refl) same within

pub returns-then-are_near-clause-right : goal.returns-then-are_near-clause-right
returns-then-are_near-clause-right c =
    let i = premises_of c.args.inputs.now in
    let as_many : length c.lists.result.now ≡ length c.outputs-outputs.result.now = omega (arith, c.if-lists-outputs.false) in
    let sized : length c.args.refs.now ≡ length (outputs_of i c.args.drv) =
    ap (λ (xs : List (List (List ℕ))). length xs) (sym c.lists.ensures) ∙ as_many ∙ ap (λ (xs : List (List ℕ)). length xs) c.outputs-outputs.ensures in
    let near : AreAllNear i.graph c.args.drv c.args.refs.now = subst (λ (xs : List (List (List ℕ))). AreAllNear i.graph c.args.drv xs) c.lists-2.ensures (c.are_near.ensures c.if-are_near.true) in
    references_seen i c.args.self.now c.args.drv c.args.refs.now sized near
