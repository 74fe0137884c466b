-- Nodes below others, and failed ones among them.
use Rattle.std.proofs.Common.{◌≡◌, ℕ, zero, suc, ◌⊎◌, List, Contains, refl, ◌∙◌, ap, inl, inr}
use Rattle.nd_graph.specs.Walks.{inputs_of, Walk, IsBelow}
use Rattle.nd_failure.specs.Progress.{mark_of, HasInputsBuilt, HasFailedBelow}
use Rattle.nd_failure.specs.Kept.{AreSettled}
use Rattle.nd_failure.specs.declared.status.Mark.{Mark}
use Rattle.nd_failure.specs.declared.status.Mark.TheVariants.{Free, Leased, Built, Failed}

-- an input is below
pub IsBelow-input : (rows : List (List ℕ)) (d c : ℕ) → Contains (inputs_of rows d) c → IsBelow rows d c
IsBelow-input rows d c has = record { steps = 0; walk = (c, has, refl) }

-- what is below an input is below
pub IsBelow-step : (rows : List (List ℕ)) (d c x : ℕ) → Contains (inputs_of rows d) c → IsBelow rows c x → IsBelow rows d x
IsBelow-step rows d c x has below = record { steps = suc below.steps; walk = (c, has, below.walk) }

-- what is below is an input or below one
pub IsBelow-cases : (rows : List (List ℕ)) (d x : ℕ) → IsBelow rows d x
    → (c : ℕ) × Contains (inputs_of rows d) c × ((c ≡ x) ⊎ IsBelow rows c x)
IsBelow-cases rows d x below = go below.steps below.walk
  where
    go : (n : ℕ) → Walk rows d x (suc n) → (c : ℕ) × Contains (inputs_of rows d) c × ((c ≡ x) ⊎ IsBelow rows c x)
    go zero walk = (walk.0, walk.1, inl walk.2)
    go (suc n) walk = (walk.0, walk.1, inr (record { steps = n; walk = walk.2 }))

-- a failed input is a failed node below
pub HasFailedBelow-input : (rows : List (List ℕ)) (marks : List Mark) (d c : ℕ) → Contains (inputs_of rows d) c
    → mark_of marks c ≡ Failed → HasFailedBelow rows marks d
HasFailedBelow-input rows marks d c has failed = record { node = c; below = IsBelow-input rows d c has; failed = failed }

-- a failed node below an input is one below
pub HasFailedBelow-step : (rows : List (List ℕ)) (marks : List Mark) (d c : ℕ) → Contains (inputs_of rows d) c
    → HasFailedBelow rows marks c → HasFailedBelow rows marks d
HasFailedBelow-step rows marks d c has below = record {
  node = below.node;
  below = IsBelow-step rows d c below.node has below.below;
  failed = below.failed;
}

-- a failed node below is an input or below one
pub HasFailedBelow-cases : (rows : List (List ℕ)) (marks : List Mark) (d : ℕ) → HasFailedBelow rows marks d
    → (c : ℕ) × Contains (inputs_of rows d) c × ((mark_of marks c ≡ Failed) ⊎ HasFailedBelow rows marks c)
HasFailedBelow-cases rows marks d below =
    let first = IsBelow-cases rows d below.node below.below in (
      first.0,
      first.1,
      elim first.2 [
        | inl same ↦ inl (ap (λ (c : ℕ). mark_of marks c) same ∙ below.failed)
        | inr further ↦ inr (record { node = below.node; below = further; failed = below.failed })
      ],
    )

pub free_or : (m : Mark) → (m ≡ Free) ⊎ (m ≡ Free → ⊥)
free_or Free = inl refl
free_or Leased = inr (λ same. cc)
free_or Built = inr (λ same. cc)
free_or Failed = inr (λ same. cc)

pub not_built_if_failed : (m : Mark) → m ≡ Failed → m ≡ Built → ⊥
not_built_if_failed m failed built = cc

pub not_free_if_built : (m : Mark) → m ≡ Built → m ≡ Free → ⊥
not_free_if_built m built free = cc

-- a node with a failed node below has an input that isn't built
unbuilt_on_walk : (rows : List (List ℕ)) (marks : List Mark) → AreSettled rows marks → (n d x : ℕ) → Walk rows d x (suc n)
    → mark_of marks x ≡ Failed → (c : ℕ) × Contains (inputs_of rows d) c × (mark_of marks c ≡ Built → ⊥)
unbuilt_on_walk rows marks settled zero d x walk failed =
    (walk.0, walk.1, not_built_if_failed (mark_of marks walk.0) (ap (λ (c : ℕ). mark_of marks c) walk.2 ∙ failed))
unbuilt_on_walk rows marks settled (suc n) d x walk failed =
    let further = unbuilt_on_walk rows marks settled n walk.0 x walk.2 failed in (
      walk.0,
      walk.1,
      λ built. further.2
          ((settled.settled walk.0 (not_free_if_built (mark_of marks walk.0) built)).built further.0 further.1),
    )

pub HasFailedBelow-unbuilt : (rows : List (List ℕ)) (marks : List Mark) (d : ℕ) → AreSettled rows marks → HasFailedBelow rows marks d
    → (c : ℕ) × Contains (inputs_of rows d) c × (mark_of marks c ≡ Built → ⊥)
HasFailedBelow-unbuilt rows marks d settled below =
    unbuilt_on_walk rows marks settled below.below.steps d below.node below.below.walk below.failed

-- so it is free
pub HasFailedBelow-free : (rows : List (List ℕ)) (marks : List Mark) (d : ℕ) → AreSettled rows marks → HasFailedBelow rows marks d
    → mark_of marks d ≡ Free
HasFailedBelow-free rows marks d settled below =
    let unbuilt = HasFailedBelow-unbuilt rows marks d settled below in
    elim (free_or (mark_of marks d)) [
      | inl free ↦ free
      | inr taken ↦ absurd (unbuilt.2 ((settled.settled d taken).built unbuilt.0 unbuilt.1))
    ]

-- and a node whose inputs are all built has none below
pub built_above_none : (rows : List (List ℕ)) (marks : List Mark) (d : ℕ) → AreSettled rows marks → HasInputsBuilt rows marks d
    → HasFailedBelow rows marks d → ⊥
built_above_none rows marks d settled built below =
    let unbuilt = HasFailedBelow-unbuilt rows marks d settled below in unbuilt.2 (built.built unbuilt.0 unbuilt.1)
