-- Set difference, path by path.
use Rattle.std.proofs.Common.{◌≡◌, ℕ, ◌+◌, ◌<◌, List, [], ◌∷◌, ◌++◌, length, take, get_or, sym, subst, ◌∙◌, inl, inr}
use Rattle.std.specs.List.{Contains}
use Rattle.std.proofs.lemmas.List.{take_more}
use Rattle.std.proofs.lemmas.List.Elements.{Contains-push, Contains-push_cases, Contains-append_left}
use Rattle.nd_path.specs.PathSets.{HasSameMembers}
use Rattle.nd_provision.specs.Differences.{IsDifference}

-- a path that is held is passed over
pub passed_over : (paths held missing : List (List ℕ)) (i : ℕ) (p : List ℕ) → i < length paths → p ≡ get_or paths i p → IsDifference (take i paths) held missing → Contains held p
    → IsDifference (take (i + 1) paths) held missing
passed_over paths held missing i p within is h there = rw (take_more paths i p within) (record {
  of = λ q k. Contains-append_left (take i paths) (get_or paths i p ∷ []) q (h.of q k);
  lacked = h.lacked;
  all = λ q k. elim (Contains-push_cases (take i paths) (get_or paths i p) q k) [
    | inl before ↦ h.all q before
    | inr same ↦ inr (subst (λ (r : List ℕ). Contains held r) (is ∙ same) there)
  ];
})

-- a path that is not held is taken
pub taken : (paths held missing : List (List ℕ)) (i : ℕ) (p : List ℕ) → i < length paths → p ≡ get_or paths i p → IsDifference (take i paths) held missing → (Contains held p → ⊥)
    → IsDifference (take (i + 1) paths) held (missing ++ p ∷ [])
taken paths held missing i p within is h absent = rw (take_more paths i p within) (record {
  of = λ q k. elim (Contains-push_cases missing p q k) [
    | inl before ↦ Contains-append_left (take i paths) (get_or paths i p ∷ []) q (h.of q before)
    | inr same ↦ subst (λ (r : List ℕ). Contains (take i paths ++ get_or paths i p ∷ []) r) (sym is ∙ same) (Contains-push (take i paths) (get_or paths i p))
  ];
  lacked = λ q k there. elim (Contains-push_cases missing p q k) [
    | inl before ↦ h.lacked q before there
    | inr same ↦ absent (subst (λ (r : List ℕ). Contains held r) (sym same) there)
  ];
  all = λ q k. elim (Contains-push_cases (take i paths) (get_or paths i p) q k) [
    | inl before ↦ (elim (h.all q before) [
      | inl lacks ↦ inl (Contains-append_left missing (p ∷ []) q lacks)
      | inr has ↦ inr has
    ])
    | inr same ↦ inl (subst (λ (r : List ℕ). Contains (missing ++ p ∷ []) r) (is ∙ same) (Contains-push missing p))
  ];
})

-- what matters of the difference is its members
pub difference_as_set : (paths held missing result : List (List ℕ)) → IsDifference paths held missing → HasSameMembers missing result → IsDifference paths held result
difference_as_set paths held missing result h same = record {
  of = λ p k. h.of p (same.from p k);
  lacked = λ p k there. h.lacked p (same.from p k) there;
  all = λ p k. elim (h.all p k) [ inl lacks ↦ inl (same.to p lacks) | inr has ↦ inr has ];
}
