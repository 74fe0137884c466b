use Rattle.std.proofs.Common.{◌≡◌, List, ℕ, ◌++◌, ap, ◌∙◌, subst}
use Rattle.std.specs.Bool.{MatchBool}
use Rattle.nd_path.specs.PathSets.{HasSameMembers}
use Rattle.nd_history.specs.Premises.{premises_of}
use Rattle.nd_history.specs.References.{outputs_of}
use Rattle.nd_provision.specs.Stored.{AreAllWithin, IsStray}
use Rattle.nd_provision.proofs.Storing.{references_by}
use Rattle.nd_provision.proofs.stores.Stores.walk_references.Goals as goal

pub returns : goal.returns
returns c =
    let i = premises_of c.args.inputs.now in
    let closure : List (List ℕ) = c.in_ok-closure.closure in
    let allowed : List (List ℕ) = c.in_ok-allowed.allowed in
    let all : c.into_vec.result.items ++ c.outputs-outputs.result.now ≡ closure ++ outputs_of i c.args.drv =
    ap (λ (xs : List (List ℕ)). xs ++ c.outputs-outputs.result.now) c.into_vec.ensures ∙ ap (λ (xs : List (List ℕ)). closure ++ xs) c.outputs-outputs.ensures in
    let same : HasSameMembers (closure ++ outputs_of i c.args.drv) allowed = subst (λ (xs : List (List ℕ)). HasSameMembers xs allowed) all c.in_ok-allowed.ensures in
    let tested : MatchBool c.all_lie_in.result (AreAllWithin allowed c.args.refs.now) (IsStray allowed c.args.refs.now) =
    subst (λ (xs : List (List (List ℕ))). MatchBool c.all_lie_in.result (AreAllWithin allowed xs) (IsStray allowed xs)) c.lists.ensures c.all_lie_in.ensures in
    references_by i c.args.self.now c.args.drv c.args.refs.now closure allowed c.all_lie_in.result c.requires.sized c.in_ok-closure.ensures same tested
