-- The places of a park: each slot of each machine stands among them once, and nothing else.
use Rattle.std.proofs.Common.{◌≡◌, ◌≢◌, ◌⊎◌, inl, inr, ℕ, zero, suc, ◌+◌, ◌<◌, ◌≤◌, Bool, true, false, ◌==◌, ◌&&◌, cond, List, [], ◌∷◌, ◌++◌, map, count_by, nat_lt, refl, sym, ap, ◌∙◌, subst, arith}
use Rattle.std.specs.List.{list_all, flat_map, range_with_len}
use Rattle.std.proofs.lemmas.List.Folds.{list_all-append}
use Rattle.std.proofs.lemmas.Bool.{eq-eqb, ne_eqb, lt-ltb}
use Rattle.std.proofs.lemmas.Bool.Decides.{eqb_tells}
use Rattle.nd_history.proofs.Slots.{count_cons}
use Rattle.nd_history.specs.Premises.{Premises}
use Rattle.nd_history.specs.Choices.{machines_in, jobs_of}
use Rattle.nd_run_desk.specs.Abandoned.{places_on, places_of}
use Rattle.nd_workers.specs.Runs.{is_at, is_in_park, AreManned}

-- so many slots of machine k, from slot a on
abbrev slots_from : ℕ → ℕ → ℕ → List (ℕ × ℕ)
slots_from k a n = map (λ s. (k, s)) (range_with_len a n)

none_there : (f : ℕ × ℕ → Bool) (p : ℕ × ℕ) (ps : List (ℕ × ℕ)) (n : ℕ) → f p ≡ false → count_by f ps ≡ n → count_by f (p ∷ ps) ≡ n
none_there f p ps n miss rest = count_cons f p ps ∙ ap (λ b. cond b (count_by f ps + 1) (count_by f ps)) miss ∙ rest

one_there : (f : ℕ × ℕ → Bool) (p : ℕ × ℕ) (ps : List (ℕ × ℕ)) → f p ≡ true → count_by f ps ≡ 0 → count_by f (p ∷ ps) ≡ 1
one_there f p ps hit rest =
    let count : count_by f (p ∷ ps) ≡ count_by f ps + 1 = count_cons f p ps ∙ ap (λ b. cond b (count_by f ps + 1) (count_by f ps)) hit in
    omega arith

counted : (f : ℕ × ℕ → Bool) (ps qs : List (ℕ × ℕ)) → count_by f (ps ++ qs) ≡ count_by f ps + count_by f qs
counted f [] qs = omega arith
counted f (p ∷ ps) qs = by (f p) (counted f ps qs) (count_cons f p (ps ++ qs)) (count_cons f p ps)
  where
    by : (b : Bool) → count_by f (ps ++ qs) ≡ count_by f ps + count_by f qs → count_by f (p ∷ (ps ++ qs)) ≡ cond b (count_by f (ps ++ qs) + 1) (count_by f (ps ++ qs))
        → count_by f (p ∷ ps) ≡ cond b (count_by f ps + 1) (count_by f ps) → count_by f (p ∷ (ps ++ qs)) ≡ count_by f (p ∷ ps) + count_by f qs
    by true rest whole part = omega arith
    by false rest whole part = omega arith

not_first : (m s : ℕ) (p : ℕ × ℕ) → m ≢ p.0 → is_at m s p ≡ false
not_first m s p other = ap (λ b. b && (s == p.1)) (ne_eqb m p.0 other)

not_second : (m s : ℕ) (p : ℕ × ℕ) → s ≢ p.1 → is_at m s p ≡ false
not_second m s p other = ap (λ b. (m == p.0) && b) (ne_eqb s p.1 other) ∙ and_no (m == p.0)
  where
    and_no : (b : Bool) → (b && false) ≡ false
    and_no true = refl
    and_no false = refl

both : (m s : ℕ) → is_at m s (m, s) ≡ true
both m s = ap (λ b. b && (s == s)) (eq-eqb m m refl) ∙ eq-eqb s s refl

-- a slot isn't one of another machine
elsewhere : (m s k a n : ℕ) → m ≢ k → count_by (is_at m s) (slots_from k a n) ≡ 0
elsewhere m s k a zero other = refl
elsewhere m s k a (suc n) other = none_there (is_at m s) (k, a) (slots_from k (a + 1) n) 0 (not_first m s (k, a) other) (elsewhere m s k (a + 1) n other)

-- .. nor one of the slots behind it
behind : (m s a n : ℕ) → s < a → count_by (is_at m s) (slots_from m a n) ≡ 0
behind m s a zero less = refl
behind m s a (suc n) less =
    let other : s ≢ a = omega arith in
    none_there (is_at m s) (m, a) (slots_from m (a + 1) n) 0 (not_second m s (m, a) other) (behind m s (a + 1) n (omega arith))

-- .. and stands once among those of its machine
once : (m s a n : ℕ) → a ≤ s → s < a + n → count_by (is_at m s) (slots_from m a n) ≡ 1
once m s a zero from within = absurd (omega arith)
once m s a (suc n) from within = by (eqb_tells s a) (λ later. once m s (a + 1) n later (omega arith))
  where
    by : (((s == a) ≡ true) × (s ≡ a)) ⊎ (((s == a) ≡ false) × (s ≢ a)) → (a + 1 ≤ s → count_by (is_at m s) (slots_from m (a + 1) n) ≡ 1) → count_by (is_at m s) (slots_from m a (suc n)) ≡ 1
    by (inl (test, same)) rest =
        let here : is_at m s (m, a) ≡ true = ap (λ t. is_at m s (m, t)) (sym same) ∙ both m s in
        one_there (is_at m s) (m, a) (slots_from m (a + 1) n) here (behind m s (a + 1) n (omega arith))
    by (inr (test, other)) rest = none_there (is_at m s) (m, a) (slots_from m (a + 1) n) 1 (not_second m s (m, a) other) (rest (omega arith))

-- so many machines, from machine a on, each with its slots
abbrev machines_from : Premises → ℕ → ℕ → List (ℕ × ℕ)
machines_from i a n = flat_map (places_on i) (range_with_len a n)

-- a slot isn't one of the machines behind its own
behind_all : (i : Premises) (m s a n : ℕ) → m < a → count_by (is_at m s) (machines_from i a n) ≡ 0
behind_all i m s a zero less = refl
behind_all i m s a (suc n) less =
    let other : m ≢ a = omega arith in
    let here = elsewhere m s a 0 (jobs_of i a) other in
    let later = behind_all i m s (a + 1) n (omega arith) in
    let sum = counted (is_at m s) (places_on i a) (machines_from i (a + 1) n) in
    omega arith

-- .. and stands once among those of all machines
once_in_all : (i : Premises) (m s a n : ℕ) → a ≤ m → m < a + n → s < jobs_of i m → count_by (is_at m s) (machines_from i a n) ≡ 1
once_in_all i m s a zero from within slot = absurd (omega arith)
once_in_all i m s a (suc n) from within slot = by (eqb_tells m a) (λ later. once_in_all i m s (a + 1) n later (omega arith) slot)
  where
    by : (((m == a) ≡ true) × (m ≡ a)) ⊎ (((m == a) ≡ false) × (m ≢ a)) → (a + 1 ≤ m → count_by (is_at m s) (machines_from i (a + 1) n) ≡ 1) → count_by (is_at m s) (machines_from i a (suc n)) ≡ 1
    by (inl (test, same)) rest =
        let mine : count_by (is_at m s) (places_on i m) ≡ 1 = once m s 0 (jobs_of i m) (omega arith) (omega arith) in
        let here : count_by (is_at m s) (places_on i a) ≡ 1 = subst (λ (k : ℕ). count_by (is_at m s) (places_on i k) ≡ 1) same mine in
        let later = behind_all i m s (a + 1) n (omega arith) in
        let sum = counted (is_at m s) (places_on i a) (machines_from i (a + 1) n) in
        omega arith
    by (inr (test, other)) rest =
        let here = elsewhere m s a 0 (jobs_of i a) other in
        let later = rest (omega arith) in
        let sum = counted (is_at m s) (places_on i a) (machines_from i (a + 1) n) in
        omega arith

both_yes : (a b : Bool) → a ≡ true → b ≡ true → (a && b) ≡ true
both_yes true b h k = k
both_yes false b h k = h

-- the slots of a machine are in the park
slots_within : (i : Premises) (m a n : ℕ) → m < machines_in i → a + n ≤ jobs_of i m → list_all (is_in_park i) (slots_from m a n) ≡ true
slots_within i m a zero machine slots = refl
slots_within i m a (suc n) machine slots =
    let here = both_yes (nat_lt m (machines_in i)) (nat_lt a (jobs_of i m)) (lt-ltb m (machines_in i) machine) (lt-ltb a (jobs_of i m) (omega arith)) in
    both_yes (is_in_park i (m, a)) (list_all (is_in_park i) (slots_from m (a + 1) n)) here (slots_within i m (a + 1) n machine (omega arith))

-- .. and so are those of all machines
all_within : (i : Premises) (a n : ℕ) → a + n ≤ machines_in i → list_all (is_in_park i) (machines_from i a n) ≡ true
all_within i a zero machines = refl
all_within i a (suc n) machines =
    list_all-append (is_in_park i) (places_on i a) (machines_from i (a + 1) n)
    ∙ both_yes (list_all (is_in_park i) (places_on i a)) (list_all (is_in_park i) (machines_from i (a + 1) n)) (slots_within i a 0 (jobs_of i a) (omega arith) (omega arith)) (all_within i (a + 1) n (omega arith))

-- the places of a park are one for each slot
pub all_manned : (i : Premises) (places : List (ℕ × ℕ)) → places ≡ places_of i → AreManned i places
all_manned i places same = subst (λ (ps : List (ℕ × ℕ)). AreManned i ps) (sym same) (record {
  each = λ m machine. record { each = λ s slot. once_in_all i m s 0 (machines_in i) (omega arith) (omega arith) slot };
  within = all_within i 0 (machines_in i) (omega arith);
})
