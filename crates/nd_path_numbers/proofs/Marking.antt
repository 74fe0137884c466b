-- Flags of the numbers of a list that gets one more.
use Rattle.std.proofs.Common.{◌≡◌, ◌≢◌, ℕ, ◌*◌, ◌/◌, ◌%◌, ◌^◌, ◌<◌, ◌≤◌, Bool, true, false, ◌||◌, ◌==◌, List, [], ◌∷◌, ◌++◌, length, get_or, set, refl, sym, ap, ◌∙◌, arith, inl, inr, bit_or, w64}
use mir.Val.{bits}
use Rattle.std.proofs.lemmas.Bool.{cases_eq, eqb-true, false_from_ne_true}
use Rattle.std.proofs.lemmas.List.{get_or-set_same, get_or-set_other, length-set}
use Rattle.std.proofs.lemmas.List.Elements.{Contains-push}
use Rattle.std.proofs.lemmas.List.Folds.{list_any-append}
use Rattle.std.proofs.lemmas.Nat.Bits.{bit_at_set_same, bit_at_set_other}
use Rattle.nd_path_numbers.specs.Held.{is_among}
use Rattle.nd_path_numbers.specs.Marks.{is_up, AreMarked}
use Rattle.nd_path_numbers.specs.declared.marks.Marks.{Marks}
use Rattle.nd_path_numbers.proofs.Holding.{member_by_test}

pub among_same : (numbers : List ℕ) (n : ℕ) → is_among (numbers ++ n ∷ []) n ≡ true
among_same numbers n = (member_by_test (numbers ++ n ∷ []) n).1 (Contains-push numbers n)

pub among_other : (numbers : List ℕ) (n k : ℕ) → k ≢ n → is_among (numbers ++ n ∷ []) k ≡ is_among numbers k
among_other numbers n k other = list_any-append (λ j. k == j) numbers (n ∷ []) ∙ dropped (is_among numbers k) (k == n) (false_from_ne_true (k == n) (λ same. other (eqb-true k n same)))
  where
    dropped : (a b : Bool) → b ≡ false → (a || (b || false)) ≡ a
    dropped true b h = refl
    dropped false b h = rw h refl

-- the words once a flag was put up in one of them
abbrev pub with_flag : List ℕ → ℕ → List ℕ
with_flag words n = set words (n / 64) (bit_or (get_or words (n / 64) 0) (1 * 2 ^ (n % 64) % 2 ^ bits w64))

pub up_same : (words : List ℕ) (n : ℕ) → n / 64 < length words → is_up (with_flag words n) n ≡ true
up_same words n lt = rw (get_or-set_same words (n / 64) (bit_or (get_or words (n / 64) 0) (1 * 2 ^ (n % 64) % 2 ^ bits w64)) 0 lt, bit_at_set_same w64 (get_or words (n / 64) 0) (n % 64) (omega arith)) refl

pub up_other : (words : List ℕ) (n k : ℕ) → n / 64 < length words → k ≢ n → is_up (with_flag words n) k ≡ is_up words k
up_other words n k lt other = elim (cases_eq (k / 64) (n / 64)) [
  | inl same ↦ (
      let elsewhere : k % 64 ≢ n % 64 = λ e. other (omega (arith, same, e)) in
      rw (same, get_or-set_same words (n / 64) (bit_or (get_or words (n / 64) 0) (1 * 2 ^ (n % 64) % 2 ^ bits w64)) 0 lt, bit_at_set_other w64 (get_or words (n / 64) 0) (n % 64) (omega arith) (k % 64) elsewhere) refl)
  | inr not_same ↦ rw (get_or-set_other words (n / 64) (k / 64) (bit_or (get_or words (n / 64) 0) (1 * 2 ^ (n % 64) % 2 ^ bits w64)) 0 not_same) refl
]

-- the list got a number that has a flag
pub noted : (numbers : List ℕ) (old new : Marks) (n : ℕ) → n / 64 < length old.words.items → new.words.items ≡ with_flag old.words.items n → new.others.keys ≡ old.others.keys
    → AreMarked numbers old → AreMarked (numbers ++ n ∷ []) new
noted numbers old new n lt words keys h = record {
  within = λ k below. elim (cases_eq k n) [
    | inl same ↦ rw (words, same) (up_same old.words.items n lt ∙ sym (among_same numbers n))
    | inr other ↦ rw words (up_other old.words.items n k lt other ∙ h.within k (omega (arith, below, as_long)) ∙ sym (among_other numbers n k other))
  ];
  others = λ k above. among_other numbers n k (λ same. omega (arith, same, above, as_long, lt)) ∙ h.others k (omega (arith, above, as_long)) ∙ ap (λ (ks : List ℕ). is_among ks k) (sym keys);
}
  where
    as_long : length new.words.items ≡ length old.words.items
    as_long = ap (λ (ws : List ℕ). length ws) words ∙ length-set old.words.items (n / 64) (bit_or (get_or old.words.items (n / 64) 0) (1 * 2 ^ (n % 64) % 2 ^ bits w64))

-- the list got a number that has no flag, and the set has it
pub noted_other : (numbers : List ℕ) (old new : Marks) (n : ℕ) → length old.words.items ≤ n / 64 → new.words.items ≡ old.words.items → is_among new.others.keys n ≡ true
    → ((k : ℕ) → k ≢ n → is_among new.others.keys k ≡ is_among old.others.keys k) → AreMarked numbers old → AreMarked (numbers ++ n ∷ []) new
noted_other numbers old new n past words here others h = record {
  within = λ k below. rw words (h.within k (omega (arith, below, as_long)) ∙ sym (among_other numbers n k (λ same. omega (arith, same, below, as_long, past))));
  others = λ k above. elim (cases_eq k n) [
    | inl same ↦ rw same (among_same numbers n ∙ sym here)
    | inr other ↦ among_other numbers n k other ∙ h.others k (omega (arith, above, as_long)) ∙ sym (others k other)
  ];
}
  where
    as_long : length new.words.items ≡ length old.words.items
    as_long = ap (λ (ws : List ℕ). length ws) words

-- marks with the same parts are of the same lists
pub alike : (numbers : List ℕ) (old new : Marks) → new.words.items ≡ old.words.items → new.others.keys ≡ old.others.keys → AreMarked numbers old → AreMarked numbers new
alike numbers old new words keys h = record {
  within = λ k below. rw words (h.within k (omega (arith, below, as_long)));
  others = λ k above. h.others k (omega (arith, above, as_long)) ∙ ap (λ (ks : List ℕ). is_among ks k) (sym keys);
}
  where
    as_long : length new.words.items ≡ length old.words.items
    as_long = ap (λ (ws : List ℕ). length ws) words
