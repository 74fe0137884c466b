-- Lemmas on the places of workers.
use Rattle.std.proofs.Common.{◌≡◌, ℕ, zero, suc, ◌+◌, ◌<◌, Bool, true, false, ◌==◌, ◌&&◌, cond, List, [], ◌∷◌, count_by, nat_lt, slice_get, Some, refl, sym, ap, ◌∙◌, arith}
use Rattle.std.specs.List.{list_all}
use Rattle.std.proofs.lemmas.Bool.{eq-eqb, ltb-true}
use Rattle.std.proofs.lemmas.Option.{none-some, same_Some, slice_get_past}
use Rattle.nd_history.proofs.Slots.{count_cons}
use Rattle.nd_history.specs.Premises.{Premises}
use Rattle.nd_history.specs.Choices.{machines_in, jobs_of}
use Rattle.nd_receipts.specs.Dealt.{AreApart}
use Rattle.nd_workers.specs.Runs.{is_at, is_in_park, AreManned}

and_first : (a b : Bool) → (a && b) ≡ true → a ≡ true
and_first true b h = refl
and_first false b h = h

and_second : (a b : Bool) → (a && b) ≡ true → b ≡ true
and_second true b h = h
and_second false b h = absurd (cc)

both_yes : (a b : Bool) → a ≡ true → b ≡ true → (a && b) ≡ true
both_yes true b h k = k
both_yes false b h k = h

all_at : (f : ℕ × ℕ → Bool) (ps : List (ℕ × ℕ)) (k : ℕ) (p : ℕ × ℕ) → list_all f ps ≡ true → slice_get ps k ≡ Some p → f p ≡ true
all_at f [] k p h at = absurd (none-some p (sym (slice_get_past [] k (omega arith)) ∙ at))
all_at f (q ∷ ps) zero p h at = let same = same_Some q p at in ap f (sym same) ∙ and_first (f q) (list_all f ps) h
all_at f (q ∷ ps) (suc k) p h at = all_at f ps k p (and_second (f q) (list_all f ps) h) at

-- what is at a place is counted
counted_at : (f : ℕ × ℕ → Bool) (ps : List (ℕ × ℕ)) (k : ℕ) (p : ℕ × ℕ) → slice_get ps k ≡ Some p → f p ≡ true → 0 < count_by f ps
counted_at f [] k p at is = absurd (none-some p (sym (slice_get_past [] k (omega arith)) ∙ at))
counted_at f (q ∷ ps) zero p at is =
    let yes : f q ≡ true = ap f (same_Some q p at) ∙ is in
    let count : count_by f (q ∷ ps) ≡ count_by f ps + 1 = count_cons f q ps ∙ ap (λ b. cond b (count_by f ps + 1) (count_by f ps)) yes in
    omega arith
counted_at f (q ∷ ps) (suc k) p at is = by (f q) (counted_at f ps k p at is) (count_cons f q ps)
  where
    by : (b : Bool) → 0 < count_by f ps → count_by f (q ∷ ps) ≡ cond b (count_by f ps + 1) (count_by f ps) → 0 < count_by f (q ∷ ps)
    by true later h = omega arith
    by false later h = omega arith

-- what is counted once is at one place
counted_once : (f : ℕ × ℕ → Bool) (ps : List (ℕ × ℕ)) (j k : ℕ) (p : ℕ × ℕ) → count_by f ps ≡ 1 → slice_get ps j ≡ Some p → slice_get ps k ≡ Some p → f p ≡ true → j ≡ k
counted_once f [] j k p one a b is = absurd (none-some p (sym (slice_get_past [] j (omega arith)) ∙ a))
counted_once f (q ∷ ps) zero zero p one a b is = refl
counted_once f (q ∷ ps) zero (suc k) p one a b is =
    let yes : f q ≡ true = ap f (same_Some q p a) ∙ is in
    let count : count_by f (q ∷ ps) ≡ count_by f ps + 1 = count_cons f q ps ∙ ap (λ b. cond b (count_by f ps + 1) (count_by f ps)) yes in
    let more = counted_at f ps k p b is in
    absurd (omega arith)
counted_once f (q ∷ ps) (suc j) zero p one a b is =
    let yes : f q ≡ true = ap f (same_Some q p b) ∙ is in
    let count : count_by f (q ∷ ps) ≡ count_by f ps + 1 = count_cons f q ps ∙ ap (λ b. cond b (count_by f ps + 1) (count_by f ps)) yes in
    let more = counted_at f ps j p a is in
    absurd (omega arith)
counted_once f (q ∷ ps) (suc j) (suc k) p one a b is = by (f q) (counted_at f ps j p a is) (λ only. counted_once f ps j k p only a b is) (count_cons f q ps)
  where
    by : (x : Bool) → 0 < count_by f ps → (count_by f ps ≡ 1 → j ≡ k) → count_by f (q ∷ ps) ≡ cond x (count_by f ps + 1) (count_by f ps) → suc j ≡ suc k
    by true more once h = absurd (omega arith)
    by false more once h = ap suc (once (sym h ∙ one))

-- where there is one worker for each slot, no two are on one place
pub manned_apart : (i : Premises) (places : List (ℕ × ℕ)) → AreManned i places → AreApart places
manned_apart i places manned = record { each = λ j k p a b. by j k p a b }
  where
    by : (j k : ℕ) (p : ℕ × ℕ) → slice_get places j ≡ Some p → slice_get places k ≡ Some p → j ≡ k
    by j k p a b =
        let inside : is_in_park i p ≡ true = all_at (is_in_park i) places j p manned.within a in
        let machine : p.0 < machines_in i = ltb-true p.0 (machines_in i) (and_first (nat_lt p.0 (machines_in i)) (nat_lt p.1 (jobs_of i p.0)) inside) in
        let slot : p.1 < jobs_of i p.0 = ltb-true p.1 (jobs_of i p.0) (and_second (nat_lt p.0 (machines_in i)) (nat_lt p.1 (jobs_of i p.0)) inside) in
        counted_once (is_at p.0 p.1) places j k p ((manned.each p.0 machine).each p.1 slot) a b (both_yes (p.0 == p.0) (p.1 == p.1) (eq-eqb p.0 p.0 refl) (eq-eqb p.1 p.1 refl))
