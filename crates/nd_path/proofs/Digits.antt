-- The digits of base 32 as ranges of bytes, and the places that are folded into one.
use Rattle.std.proofs.Common.{◌≡◌, ℕ, ◌+◌, ◌%◌, ◌<◌, ◌≤◌, Bool, true, false, zero, suc, List, [], ◌∷◌, length, map, filter, get_or, refl, ap, subst, ◌∙◌, inl, inr, arith}
use Rattle.std.specs.Prelude.{◌==◌, not, codes, ◌&&◌, nat_lt, nat_eq, fold, slice_index, bit_xor, if◌then◌else◌}
use Rattle.std.specs.Int.Bits.{xor_zero_l}
use Rattle.std.specs.List.{range_with_len}
use Rattle.std.specs.Cmp.{first_so, second_so}
use Rattle.std.specs.Cmp.Lexicographic.{pointwise}
use Rattle.std.proofs.lemmas.Bool.{cases_lt, lt-ltb, le-ltb}
use Rattle.nd_path.specs.StorePath.{is_digest_byte, is_name_byte}
use Rattle.nd_path.specs.SamePaths.{paths_same}
use Rattle.nd_path.specs.Encoding.{folded_byte_of}

-- whether each number below n passes
all_below : (ℕ → Bool) → ℕ → Bool
all_below p zero = true
all_below p (suc n) = p n && all_below p n

below_passes : (p : ℕ → Bool) (n b : ℕ) → all_below p n ≡ true → b < n → p b ≡ true
unfolding all_below
below_passes p zero b h lt = absurd (omega arith)
below_passes p (suc n) b h lt = elim (cases_lt b n) [
  | inl below ↦ below_passes p n b (second_so (p n) (all_below p n) h) below
  | inr not_below ↦ (let same : n ≡ b = omega arith in subst (λ (k : ℕ). p k ≡ true) same (first_so (p n) (all_below p n) h))
]

-- ---- the digits

same_test : Bool → Bool → Bool
same_test true b = b
same_test false true = false
same_test false false = true

same_tests : (a b : Bool) → same_test a b ≡ true → a ≡ b
unfolding same_test
same_tests true true h = refl
same_tests true false h = cc
same_tests false true h = cc
same_tests false false h = refl

-- ---- what each byte is in a store path

-- the table of the reader: 2 for a character of a digest, 1 for one of a name alone, 0 for another
abbrev pub kinds : List ℕ
kinds = codes "0000000000000000000000000000000000000000000101102222222222000101011111111111111111111111111000010222212222222221222211222220000000000000000000000000000000000000000000000000000000000000000000000000000000000000000000000000000000000000000000000000000000000000"

named_kinds : all_below (λ b. same_test (is_name_byte b) (not (get_or kinds b 0 == 48))) 256 ≡ true
unfolding all_below same_test
named_kinds = refl

digit_kinds : all_below (λ b. same_test (is_digest_byte b) (get_or kinds b 0 == 50)) 256 ≡ true
unfolding all_below same_test is_digest_byte
digit_kinds = refl

pub name_kind : (b : ℕ) → b < 256 → is_name_byte b ≡ not (get_or kinds b 0 == 48)
name_kind b lt = same_tests (is_name_byte b) (not (get_or kinds b 0 == 48)) (below_passes (λ b. same_test (is_name_byte b) (not (get_or kinds b 0 == 48))) 256 b named_kinds lt)

pub digit_kind : (b : ℕ) → b < 256 → is_digest_byte b ≡ (get_or kinds b 0 == 50)
digit_kind b lt = same_tests (is_digest_byte b) (get_or kinds b 0 == 50) (below_passes (λ b. same_test (is_digest_byte b) (get_or kinds b 0 == 50)) 256 b digit_kinds lt)

-- ---- the places of 32 that leave j when they are divided by 20

places : ℕ → List ℕ
places j = filter (λ i. i % 20 == j) (range_with_len 0 32)

abbrev one_or_two : ℕ → List ℕ
one_or_two j = if nat_lt j 12 then j ∷ (j + 20) ∷ [] else j ∷ []

counted : all_below (λ j. pointwise nat_eq (places j) (one_or_two j)) 20 ≡ true
unfolding all_below places
counted = refl

are_places : (j : ℕ) → j < 20 → places j ≡ one_or_two j
are_places j lt = paths_same (places j) (one_or_two j) (below_passes (λ j. pointwise nat_eq (places j) (one_or_two j)) 20 j counted lt)

-- the first twelve bytes of a folded digest are each the xor of two, and the others one each
pub folded_two : (digest : List ℕ) (j : ℕ) → length digest ≡ 32 → j < 12 → folded_byte_of digest j ≡ bit_xor (get_or digest j 0) (get_or digest (j + 20) 0)
unfolding folded_byte_of places
folded_two digest j size lt =
    let two : one_or_two j ≡ j ∷ (j + 20) ∷ [] = rw (lt-ltb j 12 lt) refl in
    ap (λ (n : ℕ). fold bit_xor 0 (map (slice_index digest) (filter (λ i. i % 20 == j) (range_with_len 0 n)))) size
    ∙ ap (λ (is : List ℕ). fold bit_xor 0 (map (slice_index digest) is)) (are_places j (omega arith) ∙ two)
    ∙ ap (λ (x : ℕ). bit_xor x (slice_index digest (j + 20))) (xor_zero_l (slice_index digest j))

pub folded_one : (digest : List ℕ) (j : ℕ) → length digest ≡ 32 → 12 ≤ j → j < 20 → folded_byte_of digest j ≡ get_or digest j 0
unfolding folded_byte_of places
folded_one digest j size ge lt =
    let one : one_or_two j ≡ j ∷ [] = rw (le-ltb j 12 ge) refl in
    ap (λ (n : ℕ). fold bit_xor 0 (map (slice_index digest) (filter (λ i. i % 20 == j) (range_with_len 0 n)))) size
    ∙ ap (λ (is : List ℕ). fold bit_xor 0 (map (slice_index digest) is)) (are_places j lt ∙ one)
    ∙ xor_zero_l (slice_index digest j)
