-- The choice's order is total, and what beats one beats all that come after that one.
use Rattle.std.proofs.Common.{◌≡◌, ◌⊎◌, inl, inr, ℕ, ◌*◌, ◌<◌, ◌≤◌, arith, sym, ap}
use Rattle.std.proofs.Math.Nat.{mul-lt-mul_of_pos_right, lt_of_mul-lt-mul_right, eq_of_mul-eq-mul_right}
use Rattle.std.proofs.lemmas.Bool.{cases_lt}
use Rattle.nd_choose.specs.Order.{IsLighter, IsAsLight, Beats}

-- what comes after, or is tied but for the place
abbrev pub Follows : ℕ → ℕ → ℕ → ℕ → Type 0
Follows load speed next_load next_speed =
    IsLighter load speed next_load next_speed
    ⊎ (IsAsLight load speed next_load next_speed × (next_speed ≤ speed))

lighter_lighter : (la sa lb sb lc sc : ℕ) → 0 < sa → 0 < sc → la * sb < lb * sa → lb * sc < lc * sb → la * sc < lc * sa
lighter_lighter la sa lb sb lc sc pa pc h k = lt_of_mul-lt-mul_right sb (
    let one : (la * sb) * sc < (lb * sa) * sc = mul-lt-mul_of_pos_right h pc in
    let two : (lb * sc) * sa < (lc * sb) * sa = mul-lt-mul_of_pos_right k pa in
    omega (arith, one, two))

lighter_even : (la sa lb sb lc sc : ℕ) → 0 < sc → la * sb < lb * sa → lb * sc ≡ lc * sb → la * sc < lc * sa
lighter_even la sa lb sb lc sc pc h k = lt_of_mul-lt-mul_right sb (
    let one : (la * sb) * sc < (lb * sa) * sc = mul-lt-mul_of_pos_right h pc in
    let two : (lb * sc) * sa ≡ (lc * sb) * sa = ap (λ (n : ℕ). n * sa) k in
    omega (arith, one, two))

even_lighter : (la sa lb sb lc sc : ℕ) → 0 < sa → la * sb ≡ lb * sa → lb * sc < lc * sb → la * sc < lc * sa
even_lighter la sa lb sb lc sc pa h k = lt_of_mul-lt-mul_right sb (
    let one : (la * sb) * sc ≡ (lb * sa) * sc = ap (λ (n : ℕ). n * sc) h in
    let two : (lb * sc) * sa < (lc * sb) * sa = mul-lt-mul_of_pos_right k pa in
    omega (arith, one, two))

even_even : (la sa lb sb lc sc : ℕ) → 0 < sb → la * sb ≡ lb * sa → lb * sc ≡ lc * sb → la * sc ≡ lc * sa
even_even la sa lb sb lc sc pb h k = eq_of_mul-eq-mul_right sb pb (la * sc) (lc * sa) (
    let one : (la * sb) * sc ≡ (lb * sa) * sc = ap (λ (n : ℕ). n * sc) h in
    let two : (lb * sc) * sa ≡ (lc * sb) * sa = ap (λ (n : ℕ). n * sa) k in
    omega (arith, one, two))

-- what beats one beats what follows that one
pub beats_on : (la sa lb sb lc sc : ℕ) → 0 < sa → 0 < sb → 0 < sc → Beats la sa lb sb → Follows lb sb lc sc → Beats la sa lc sc
beats_on la sa lb sb lc sc pa pb pc (inl h) (inl k) = inl (lighter_lighter la sa lb sb lc sc pa pc h k)
beats_on la sa lb sb lc sc pa pb pc (inl h) (inr k) = inl (lighter_even la sa lb sb lc sc pc h k.0)
beats_on la sa lb sb lc sc pa pb pc (inr h) (inl k) = inl (even_lighter la sa lb sb lc sc pa h.0 k)
beats_on la sa lb sb lc sc pa pb pc (inr h) (inr k) = inr (even_even la sa lb sb lc sc pb h.0 k.0, omega (arith, h.1, k.1))

-- what doesn't beat the other is beaten by it, or tied with it
pub beaten : (la sa lb sb : ℕ) → (Beats lb sb la sa → ⊥) → Beats la sa lb sb ⊎ (IsAsLight la sa lb sb × (sa ≡ sb))
beaten la sa lb sb fails = elim (cases_lt (la * sb) (lb * sa)) [
  | inl lighter ↦ inl (inl lighter)
  | inr most ↦ elim (cases_lt (lb * sa) (la * sb)) [
    | inl heavier ↦ absurd (fails (inl heavier))
    | inr least ↦
        let even : la * sb ≡ lb * sa = omega arith in
        elim (cases_lt sb sa) [
          | inl faster ↦ inl (inr (even, faster))
          | inr slower ↦ elim (cases_lt sa sb) [
            | inl less ↦ absurd (fails (inr (sym even, less)))
            | inr same ↦ inr (even, omega arith)
          ]
        ]
  ]
]
