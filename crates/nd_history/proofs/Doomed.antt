-- Whether a derivation depends on a failed one can be decided: the nodes between two are let in one by one.
-- Source: Warshall, A Theorem on Boolean Matrices (1962).
use Rattle.std.proofs.Common.{◌≡◌, ◌⊎◌, ℕ, zero, suc, ◌<◌, true, List, [], ◌∷◌, length, Contains, sym, subst, inl, inr, arith, true≢false, ◌∙◌}
use Rattle.std.proofs.lemmas.Bool.{cases_Bool, cases_eq, cases_lt}
use Rattle.std.proofs.lemmas.List.{get_or_past}
use Rattle.nd_graph.specs.Graphs.{rows_of}
use Rattle.nd_graph.specs.Walks.{inputs_of, Walk, IsBelow}
use Rattle.nd_failure.proofs.BelowFacts.{IsBelow-input, IsBelow-step}
use Rattle.nd_failure.proofs.CountFacts.{Contains-first, Contains-later}
use Rattle.nd_history.specs.declared.entry.Entry.{Entry}
use Rattle.nd_history.specs.Premises.{Premises}
use Rattle.nd_history.specs.History.{is_failed, is_stopped}
use Rattle.nd_history.specs.Legal.{IsLegal}
use Rattle.nd_history.specs.Standing.{drvs_in, HasFailedBelow, IsDoomed}
use Rattle.nd_history.proofs.Boards.{failed_ranged}
use Rattle.nd_history.proofs.Reported.{nothing_in, contains_cases}

contains_or : (xs : List ℕ) (n : ℕ) → Contains xs n ⊎ (Contains xs n → ⊥)
contains_or [] n = inr (nothing_in n)
contains_or (x ∷ xs) n = elim (cases_eq x n) [
  | inl same ↦ inl (subst (λ (y : ℕ). Contains (x ∷ xs) y) same (Contains-first x xs))
  | inr other ↦ (elim (contains_or xs n) [
    | inl there ↦ inl (Contains-later x xs n there)
    | inr none ↦ inr (λ h. elim (contains_cases x xs n h) [ inl same ↦ other same | inr there ↦ none there ])
  ])
]

-- one goes from a to b over one or more inputs, and each node between the two is less than k
abbrev Via : List (List ℕ) → ℕ → ℕ → ℕ → Type 0
Via rows zero a b = Contains (inputs_of rows a) b
Via rows (suc k) a b = Via rows k a b ⊎ (Via rows k a k × Via rows k k b)

via_or : (rows : List (List ℕ)) (k a b : ℕ) → Via rows k a b ⊎ (Via rows k a b → ⊥)
via_or rows zero a b = contains_or (inputs_of rows a) b
via_or rows (suc k) a b = elim (via_or rows k a b) [
  | inl there ↦ inl (inl there)
  | inr none ↦ (elim (via_or rows k a k) [
    | inr off ↦ inr (λ h. elim h [ inl there ↦ none there | inr through ↦ off through.0 ])
    | inl to ↦ (elim (via_or rows k k b) [
      | inr off ↦ inr (λ h. elim h [ inl there ↦ none there | inr through ↦ off through.1 ])
      | inl on ↦ inl (inr (to, on))
    ])
  ])
]

-- ---- such a way is one over inputs

below_through : (rows : List (List ℕ)) (a c b n : ℕ) → Walk rows a c (suc n) → IsBelow rows c b → IsBelow rows a b
below_through rows a c b zero walk below = IsBelow-step rows a c b (subst (λ (x : ℕ). Contains (inputs_of rows a) x) walk.2 walk.1) below
below_through rows a c b (suc n) walk below = IsBelow-step rows a walk.0 b walk.1 (below_through rows walk.0 c b n walk.2 below)

via_below : (rows : List (List ℕ)) (k a b : ℕ) → Via rows k a b → IsBelow rows a b
via_below rows zero a b h = IsBelow-input rows a b h
via_below rows (suc k) a b h = elim h [
  | inl there ↦ via_below rows k a b there
  | inr through ↦ (let to = via_below rows k a k through.0 in below_through rows a k b to.steps to.walk (via_below rows k k b through.1))
]

-- ---- and each way over inputs is such a one

via_input : (rows : List (List ℕ)) (k a b : ℕ) → Contains (inputs_of rows a) b → Via rows k a b
via_input rows zero a b h = h
via_input rows (suc k) a b h = inl (via_input rows k a b h)

-- at the greatest node that is let in one need not come by it
via_to : (rows : List (List ℕ)) (k a : ℕ) → Via rows (suc k) a k → Via rows k a k
via_to rows k a h = elim h [ inl there ↦ there | inr through ↦ through.0 ]

via_from : (rows : List (List ℕ)) (k b : ℕ) → Via rows (suc k) k b → Via rows k k b
via_from rows k b h = elim h [ inl there ↦ there | inr through ↦ through.1 ]

-- a node that is let in may stand between
via_through : (rows : List (List ℕ)) (k a c b : ℕ) → c < k → Via rows k a c → Via rows k c b → Via rows k a b
via_through rows zero a c b lt to on = absurd (omega arith)
via_through rows (suc k) a c b lt to on = elim (cases_lt c k) [
  | inr last ↦
      let same : c ≡ k = omega arith in
      inr (via_to rows k a (subst (λ (x : ℕ). Via rows (suc k) a x) same to), via_from rows k b (subst (λ (x : ℕ). Via rows (suc k) x b) same on))
  | inl within ↦ (elim to [
    | inl x ↦ (elim on [
      | inl y ↦ inl (via_through rows k a c b within x y)
      | inr y ↦ inr (via_through rows k a c k within x y.0, y.1)
    ])
    | inr x ↦ (elim on [
      | inl y ↦ inr (x.0, via_through rows k k c b within x.1 y)
      | inr y ↦ inr (x.0, y.1)
    ])
  ])
]

-- what has an input is a node
is_node : (rows : List (List ℕ)) (a b : ℕ) → Contains (inputs_of rows a) b → a < length rows
is_node rows a b h = elim (cases_lt a (length rows)) [
  | inl lt ↦ lt
  | inr past ↦ absurd (nothing_in b (subst (λ (xs : List ℕ). Contains xs b) (get_or_past rows a [] past) h))
]

walk_via : (rows : List (List ℕ)) (a b n : ℕ) → Walk rows a b (suc n) → Via rows (length rows) a b
walk_via rows a b zero walk = via_input rows (length rows) a b (subst (λ (x : ℕ). Contains (inputs_of rows a) x) walk.2 walk.1)
walk_via rows a b (suc n) walk =
    via_through rows (length rows) a walk.0 b (is_node rows walk.0 walk.2.0 walk.2.1) (via_input rows (length rows) a walk.0 walk.1) (walk_via rows walk.0 b n walk.2)

below_or : (rows : List (List ℕ)) (a b : ℕ) → IsBelow rows a b ⊎ (IsBelow rows a b → ⊥)
below_or rows a b = elim (via_or rows (length rows) a b) [
  | inl there ↦ inl (via_below rows (length rows) a b there)
  | inr none ↦ inr (λ below. none (walk_via rows a b below.steps below.walk))
]

-- ---- failed derivations below

-- one of the first n derivations is a failed one below d, or none is
failed_or : (i : Premises) (past : List Entry) (d n : ℕ) → HasFailedBelow i past d ⊎ ((c : ℕ) → c < n → IsBelow (rows_of i.graph) d c → is_failed c past ≡ true → ⊥)
failed_or i past d zero = inr (λ c lt below failed. absurd (omega arith))
failed_or i past d (suc n) = elim (failed_or i past d n) [
  | inl some ↦ inl some
  | inr none ↦ (elim (below_or (rows_of i.graph) d n) [
    | inr off ↦ inr (λ c lt below failed. elim (cases_lt c n) [
      | inl before ↦ none c before below failed
      | inr last ↦ (let same : c ≡ n = omega arith in off (subst (λ (x : ℕ). IsBelow (rows_of i.graph) d x) same below))
    ])
    | inl below_d ↦ (elim (cases_Bool (is_failed n past)) [
      | inl failed_n ↦ inl (record { node = n; below = below_d; failed = failed_n })
      | inr fine ↦ inr (λ c lt below failed. elim (cases_lt c n) [
        | inl before ↦ none c before below failed
        | inr last ↦ (let same : c ≡ n = omega arith in true≢false (sym (subst (λ (x : ℕ). is_failed x past ≡ true) same failed) ∙ fine))
      ])
    ])
  ])
]

-- a derivation will never be begun, or it may be
pub doomed_or : (i : Premises) (past : List Entry) → IsLegal i past → (d : ℕ) → IsDoomed i past d ⊎ (IsDoomed i past d → ⊥)
doomed_or i past legal d = elim (cases_Bool (is_stopped i.keep_going past)) [
  | inl stopped ↦ inl (inl stopped)
  | inr going ↦ (elim (failed_or i past d (drvs_in i)) [
    | inl some ↦ inl (inr some)
    | inr none ↦ inr (λ h. elim h [
      | inl stopped ↦ true≢false (sym stopped ∙ going)
      | inr below ↦ none below.node (failed_ranged i past legal below.node below.failed) below.below below.failed
    ])
  ])
]
