-- Paths that are found beside a derivation in the graph.
use Rattle.std.proofs.Common.{◌≡◌, ℕ, ◌+◌, ◌<◌, ◌==◌, List, [], ◌∷◌, length, get_or, take, refl, subst, inl, inr, true, arith}
use Rattle.std.proofs.lemmas.Bool.{eqb-true}
use Rattle.std.specs.List.{Contains}
use Rattle.nd_graph.specs.Graphs.{Nodes}
use Rattle.nd_history.specs.Premises.{Premises}
use Rattle.nd_history.specs.References.{outputs_of}
use Rattle.nd_history.specs.References.IsAlong.{seed}
use Rattle.nd_provision.specs.Stored.{Stored, AreReferencesRightBy}
use Rattle.nd_provision.specs.Nearby.{IsNear, AreNear, AreAllNear, AreAllEmpty}
use Rattle.nd_provision.proofs.Gains.{each_more}

-- the next path is near
pub one_more_near : (graph : Nodes) (d n : ℕ) (paths : List (List ℕ)) (p : List ℕ) → n < length paths → p ≡ get_or paths n p → AreNear graph d (take n paths) → IsNear graph d p → AreNear graph d (take (n + 1) paths)
one_more_near graph d n paths p lt is before here = record { each = each_more (λ (q : List ℕ). IsNear graph d q) paths n p lt is before.each here }

-- .. and so is each path of the next list
pub list_more_near : (graph : Nodes) (d n : ℕ) (lists : List (List (List ℕ))) (list paths : List (List ℕ)) → n < length lists → list ≡ get_or lists n list → paths ≡ list → AreAllNear graph d (take n lists) → AreNear graph d paths
    → AreAllNear graph d (take (n + 1) lists)
list_more_near graph d n lists list paths lt is at before here = record {
  each = each_more (λ (q : List (List ℕ)). AreNear graph d q) lists n list lt is before.each (subst (λ (xs : List (List ℕ)). AreNear graph d xs) at here);
}

-- the next list is empty
no_paths : (xs : List (List ℕ)) → length xs == 0 ≡ true → xs ≡ []
no_paths [] none = refl
no_paths (x ∷ xs) none = let empty : length (x ∷ xs) ≡ 0 = eqb-true (length (x ∷ xs)) 0 none in absurd (omega arith)

pub one_more_empty : (n : ℕ) (lists : List (List (List ℕ))) (list : List (List ℕ)) → n < length lists → list ≡ get_or lists n list → length list == 0 ≡ true → AreAllEmpty (take n lists) → AreAllEmpty (take (n + 1) lists)
one_more_empty n lists list lt is none before = record { each = each_more (λ (q : List (List ℕ)). q ≡ []) lists n list lt is before.each (no_paths list none) }

-- where there is no path, each is near
pub none_near : (graph : Nodes) (d : ℕ) (lists : List (List (List ℕ))) → AreAllEmpty lists → AreAllNear graph d lists
none_near graph d lists none = record {
  each = λ list h. record { each = λ p k. let there : Contains [] p = subst (λ (xs : List (List ℕ)). Contains xs p) (none.each list h) k in absurd (omega (arith, there.1)) };
}

-- references that are all found beside a derivation are right for it
pub references_seen : (i : Premises) (s : Stored) (d : ℕ) (refs : List (List (List ℕ))) → length refs ≡ length (outputs_of i d) → AreAllNear i.graph d refs → AreReferencesRightBy i s d refs true
references_seen i s d refs sized near = record {
  tells = λ past kept. record {
    sized = sized;
    within = λ list p h k. elim (((near.each list h).each p k).tells i refl) [
      | inl needed ↦ inl (seed p needed)
      | inr out ↦ inr out
    ];
  };
}
