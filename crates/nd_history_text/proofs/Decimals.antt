-- Decimal numbers: what is written of a number is read as it, and the other way round.
use Rattle.std.proofs.Common.{◌≡◌, ◌==◌, ◌∙◌, ℕ, ◌+◌, ◌-◌, ◌*◌, ◌/◌, ◌%◌, ◌<◌, ◌≤◌, ◌^◌, Bool, true, false, ◌&&◌, List, [], ◌∷◌, ◌++◌, length, get_or, Option, None, Some, refl, sym, ap, arith}
use Rattle.std.proofs.lemmas.Grind.{common_steps}
use Rattle.std.proofs.lemmas.Str.Parse.{IsNumeralModel, numerals_by_fold}
use Rattle.std.proofs.lemmas.Fmt.{decimal_by_steps, decimal_nonempty, decimal_digit, first_decimal, digits_decimal, decimal-digits_value}
use Rattle.std.proofs.Common.{rules}
use Rattle.std.specs.Fmt.{decimal}
use Rattle.std.specs.List.{list_all}
use Rattle.nd_bytes.specs.Decimal.{is_digit, digits, at_most, decimal_of}
use Rattle.nd_history_text.specs.Sound.{greatest}

-- ---- digits

abbrev all_digits : List ℕ → Bool
all_digits [] = true
all_digits (c ∷ cs) = is_digit c && all_digits cs

abbrev read_on : ℕ → List ℕ → ℕ
read_on n [] = n
read_on n (c ∷ cs) = read_on (n * 10 + (c - 48)) cs

own : IsNumeralModel (λ ds. all_digits ds ≡ true) (read_on 0)
own = numerals_by_fold _ (search rules) read_on (search rules)

same_digits : (ds : List ℕ) → all_digits ds ≡ list_all is_digit ds
same_digits [] = refl
same_digits (c ∷ cs) = ap (λ (b : Bool). is_digit c && b) (same_digits cs)

-- what is written of a number are digits
pub decimal_digits : (n : ℕ) → n ≤ greatest → list_all is_digit (decimal n) ≡ true
decimal_digits n small = sym (same_digits (decimal n)) ∙ digits_decimal own n (omega arith)

-- ---- reading what was written

one_digit : (n k : ℕ) → n < 10 → digits k ((48 + n) ∷ []) ≡ Some (k * 10 + n)
one_digit n k small = grind arith

next_digit : (c : ℕ) (cs : List ℕ) (k m n : ℕ) → digits k (c ∷ cs) ≡ Some m → (t : Bool) → is_digit c ≡ t
    → (digits (k * 10 + (c - 48)) cs ≡ Some m → digits (k * 10 + (c - 48)) (cs ++ (48 + n) ∷ []) ≡ Some (m * 10 + n))
    → digits k (c ∷ (cs ++ (48 + n) ∷ [])) ≡ Some (m * 10 + n)
next_digit c cs k m n h true e more = rw e (more (rw e at h))
next_digit c cs k m n h false e more = let none : None ≡ Some m = rw e at h in cc

one_more : (ds : List ℕ) (k m n : ℕ) → n < 10 → digits k ds ≡ Some m → digits k (ds ++ (48 + n) ∷ []) ≡ Some (m * 10 + n)
one_more [] k m n small h = let e : k ≡ m = cc in rw (← e) (one_digit n k small)
one_more (c ∷ cs) k m n small h = next_digit c cs k m n h (is_digit c) refl (one_more cs (k * 10 + (c - 48)) m n small)

written_digits : (n : ℕ) → n < 2 ^ 64 → digits 0 (decimal n) ≡ Some n
written_digits = decimal_by_steps (λ n ds. digits 0 ds ≡ Some n)
    (λ n small. let same : 0 * 10 + n ≡ n = omega arith in one_digit n 0 small ∙ ap Some same)
    (λ n ds large h.
    let same : n / 10 * 10 + n % 10 ≡ n = omega arith in
    let low : n % 10 < 10 = omega arith in one_more ds 0 (n / 10) (n % 10) low h ∙ ap Some same)

some_bytes : (bytes : List ℕ) → 0 < length bytes → (length bytes == 0) ≡ false
some_bytes [] h = absurd (omega arith)
some_bytes (b ∷ bytes) h = grind (arith, common_steps)

fits : (n : ℕ) → n ≤ greatest → at_most greatest (Some n) ≡ Some n
fits n small = grind (arith, common_steps)

pub read_back : (n : ℕ) → n ≤ greatest → decimal_of greatest (decimal n) ≡ Some n
read_back n small =
    rw (some_bytes (decimal n) (decimal_nonempty n (omega arith)), written_digits n (omega arith)) (fits n small)

-- no number is written with a needless zero
pub no_zero : (n b : ℕ) (rest : List ℕ) → n ≤ greatest → decimal n ≡ 48 ∷ b ∷ rest → ⊥
no_zero n b rest small h = zero_or_not (n == 0) refl
  where
    zero_or_not : (t : Bool) → (n == 0) ≡ t → ⊥
    zero_or_not true e = let one : decimal n ≡ (48 + n) ∷ [] = decimal_digit n (grind (arith, common_steps)) in let both : 1 ≡ length (48 ∷ b ∷ rest) = ap length (sym one ∙ h) in omega arith
    zero_or_not false e = let first : 48 < get_or (decimal n) 0 0 = first_decimal n (grind (arith, common_steps)) (omega arith) in let same : get_or (decimal n) 0 0 ≡ 48 = ap (λ (l : List ℕ). get_or l 0 0) h in omega arith

-- ---- writing what was read

value_next : (c : ℕ) (cs : List ℕ) (k n : ℕ) → digits k (c ∷ cs) ≡ Some n → (t : Bool) → is_digit c ≡ t
    → (digits (k * 10 + (c - 48)) cs ≡ Some n → (all_digits cs ≡ true) × (read_on (k * 10 + (c - 48)) cs ≡ n))
    → (all_digits (c ∷ cs) ≡ true) × (read_on k (c ∷ cs) ≡ n)
value_next c cs k n h true e more = let later = more (rw e at h) in (rw e later.0, later.1)
value_next c cs k n h false e more = let none : None ≡ Some n = rw e at h in cc

value_of : (ds : List ℕ) (k n : ℕ) → digits k ds ≡ Some n → (all_digits ds ≡ true) × (read_on k ds ≡ n)
value_of [] k n h = (refl, cc)
value_of (c ∷ cs) k n h = value_next c cs k n h (is_digit c) refl (value_of cs (k * 10 + (c - 48)) n)

not_above : (limit : ℕ) (found : Option ℕ) (n : ℕ) → at_most limit found ≡ Some n → (found ≡ Some n) × (n ≤ limit)
not_above limit None n h = cc
not_above limit (Some m) n h = grind (arith, common_steps)

-- how a number that was read is written: no byte, or a zero before others, is none
pub write_back : (bytes : List ℕ) (n : ℕ) → decimal_of greatest bytes ≡ Some n → (get_or bytes 0 0 ≡ 48 → length bytes ≡ 1)
    → (bytes ≡ decimal n) × (n ≤ greatest)
write_back [] n h plain = cc
write_back (b ∷ bytes) n h plain =
    let read : at_most greatest (digits 0 (b ∷ bytes)) ≡ Some n = rw (some_bytes (b ∷ bytes) (omega arith)) at h in
    let value = not_above greatest (digits 0 (b ∷ bytes)) n read in
    let shown = value_of (b ∷ bytes) 0 n value.0 in
    let small : read_on 0 (b ∷ bytes) < 2 ^ 64 = omega (arith, shown.1, value.1) in
    (sym (decimal-digits_value own (b ∷ bytes) shown.0 (omega arith) plain small) ∙ ap decimal shown.1, value.1)
