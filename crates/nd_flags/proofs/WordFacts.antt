-- A row of flags in words of 64 bits: what a word says of its flags.
use Rattle.std.proofs.Common.{◌≡◌, ◌≢◌, ◌≤◌, ◌<◌, ◌+◌, ◌-◌, ◌*◌, ◌/◌, ◌%◌, ◌^◌, ℕ, Bool, true, false, List, None, length, replicate, get_or, set, cond, eqb, refl, ap, sym, ◌∙◌, subst, inl, inr, arith, ext_get_or, length-set, get_or-set_same, get_or-set_other, eq-eqb, eqb-true, w64, bit_and, bit_or, shr-shr}
use Rattle.std.proofs.lemmas.List.{get_or_read, length-replicate, get_or-replicate, get_or_past}
use Rattle.std.proofs.lemmas.List.FromFn.{length-map-range_with_len, get_or-map-range_with_len}
use Rattle.std.proofs.lemmas.Bool.{cases_eq, cases_lt, true≢false}
use Rattle.std.proofs.lemmas.Nat.Bits.{bit_at-zero, bit_at_above, bit_at-trailing_zeros, bit_at_set_same, bit_at_set_other, bit_at_clear_same, bit_at_clear_other, shr_and_one}
use Rattle.std.proofs.Math.Nat.{div-le_self}
use Rattle.std.specs.Int.{bit_at, bit_not, trailing_zeros}
use Rattle.nd_flags.specs.Members.{IsMember, IsLeastFrom}
use Rattle.nd_flags.specs.Layers.{IsFirstWithin, IsLeastWithin}
use Rattle.nd_flags.specs.Words.{is_up, flags_of, AreWords, IsWithBit}

pub length_of_flags : (words : List ℕ) (len : ℕ) → length (flags_of words len) ≡ len
unfolding flags_of
length_of_flags words len = length-map-range_with_len (is_up words) 0 len

-- a flag that isn't up behind the end, whatever the words are
down_past : (up : Bool) (i len : ℕ) → (up ≡ true → i < len) → len ≤ i → up ≡ false
down_past true i len within past = absurd (omega (arith, within refl))
down_past false i len within past = refl

pub get_or-flags_of : (words : List ℕ) (len i : ℕ) → AreWords words len → get_or (flags_of words len) i false ≡ is_up words i
unfolding flags_of
get_or-flags_of words len i are =
    elim (cases_lt i len) [
      | inl inside ↦ get_or-map-range_with_len (is_up words) 0 len i i false inside (omega arith)
      | inr past ↦ get_or_past _ i false (omega (arith, length-map-range_with_len (is_up words) 0 len))
          ∙ sym (down_past (is_up words i) i len (are.within i) past)
    ]

-- ---- at a word as a method reads it, in a row whose flags are the words'
-- there is a word for the block of each place up to the length
pub word_within : (words : List ℕ) (len i : ℕ) (flags : List Bool) → AreWords words len → flags_of words len ≡ flags
    → i / 64 ≤ length flags / 64 → i / 64 < length words
word_within words len i flags are is below = omega (arith, are.sized, length_of_flags words len, ap length is)

pub flag_within : (words : List ℕ) (len i : ℕ) (flags : List Bool) → AreWords words len → flags_of words len ≡ flags
    → i < length flags → i / 64 < length words
flag_within words len i flags are is inside = word_within words len i flags are is (omega arith)

-- the word of the place i
pub word_read : (words : List ℕ) (len i word : ℕ) (flags : List Bool) → AreWords words len → flags_of words len ≡ flags
    → i / 64 ≤ length flags / 64 → word ≡ get_or words (i / 64) word → word ≡ get_or words (i / 64) 0
word_read words len i word flags are is below read =
    get_or_read words (i / 64) word (word_within words len i flags are is below) read 0

-- the bit of the word is the flag
pub bit_is : (words : List ℕ) (len i word : ℕ) (flags : List Bool) → AreWords words len → flags_of words len ≡ flags
    → i < length flags → word ≡ get_or words (i / 64) word
    → eqb (bit_and (word / 2 ^ (i % 64)) 1) 1 ≡ get_or flags i false
bit_is words len i word flags are is inside read =
    ap (λ x. eqb x 1) (shr_and_one word (i % 64))
    ∙ ap (λ x. eqb (bit_at x (i % 64)) 1) (word_read words len i word flags are is (omega arith) read)
    ∙ sym (get_or-flags_of words len i are) ∙ ap (λ xs. get_or xs i false) is

-- the number of flags
pub length_is : (words : List ℕ) (len : ℕ) (flags : List Bool) → flags_of words len ≡ flags → len ≡ length flags
length_is words len flags is = sym (length_of_flags words len) ∙ ap length is

-- ---- words of zeros
is_up-zeros : (n i : ℕ) → is_up (replicate n 0) i ≡ false
is_up-zeros n i =
    let word : get_or (replicate n 0) (i / 64) 0 ≡ 0 = elim (cases_lt (i / 64) n) [
      | inl inside ↦ get_or-replicate n (i / 64) 0 0 inside
      | inr past ↦ get_or_past _ (i / 64) 0 (omega (arith, length-replicate {A = ℕ} n 0))
    ] in
    ap (λ x. eqb (bit_at x (i % 64)) 1) word ∙ ap (λ x. eqb x 1) (bit_at-zero (i % 64))

pub AreWords-zeros : (words : List ℕ) (len : ℕ) → words ≡ replicate (len / 64 + 1) 0 → AreWords words len
AreWords-zeros words len is = subst (λ (xs : List ℕ). AreWords xs len) (sym is)
    (record {
      sized = length-replicate (len / 64 + 1) 0;
      within = λ i up. absurd (true≢false (sym up ∙ is_up-zeros (len / 64 + 1) i));
    })

pub flags_of-zeros : (words : List ℕ) (len : ℕ) → words ≡ replicate (len / 64 + 1) 0 → flags_of words len ≡ replicate len false
flags_of-zeros words len is =
    ext_get_or false _ _ (length_of_flags words len ∙ sym (length-replicate len false))
    (λ k h. get_or-flags_of words len k (AreWords-zeros words len is)
    ∙ ap (λ xs. is_up xs k) is ∙ is_up-zeros (len / 64 + 1) k
    ∙ sym (get_or-replicate len k false false (omega (arith, length_of_flags words len))))

-- ---- a flag that is put
pub up_here : (word bit : ℕ) (up : Bool) → bit < 64 → up ≡ true → bit_at (bit_or word (1 * 2 ^ bit % 2 ^ 64)) bit ≡ cond up 1 0
up_here word bit up within is = rw is (bit_at_set_same w64 word bit within)

pub up_others : (word bit i : ℕ) → bit < 64 → i ≢ bit → bit_at (bit_or word (1 * 2 ^ bit % 2 ^ 64)) i ≡ bit_at word i
up_others word bit i within apart = bit_at_set_other w64 word bit within i apart

pub down_here : (word bit : ℕ) (up : Bool) → bit < 64 → up ≡ false
    → bit_at (bit_and word (bit_not w64 (1 * 2 ^ bit % 2 ^ 64))) bit ≡ cond up 1 0
down_here word bit up within is = rw is (bit_at_clear_same w64 word bit within)

pub down_others : (word bit i : ℕ) → bit < 64 → i < 64 → i ≢ bit
    → bit_at (bit_and word (bit_not w64 (1 * 2 ^ bit % 2 ^ 64))) i ≡ bit_at word i
down_others word bit i within below apart = bit_at_clear_other w64 word bit within i below apart

one_is_up : (up : Bool) → eqb (cond up 1 0) 1 ≡ up
one_is_up true = refl
one_is_up false = refl

is_up-set_same : (words : List ℕ) (i word : ℕ) (up : Bool) → i / 64 < length words → IsWithBit (get_or words (i / 64) 0) word (i % 64) up
    → is_up (set words (i / 64) word) i ≡ up
is_up-set_same words i word up inside is =
    ap (λ x. eqb (bit_at x (i % 64)) 1) (get_or-set_same words (i / 64) word 0 inside)
    ∙ ap (λ x. eqb x 1) is.put ∙ one_is_up up

is_up-set_other : (words : List ℕ) (i word k : ℕ) (up : Bool) → i / 64 < length words
    → IsWithBit (get_or words (i / 64) 0) word (i % 64) up → k ≢ i → is_up (set words (i / 64) word) k ≡ is_up words k
is_up-set_other words i word k up inside is apart =
    elim (cases_eq (k / 64) (i / 64)) [
      | inl same ↦
          ap (λ j. eqb (bit_at (get_or (set words (i / 64) word) j 0) (k % 64)) 1) same
          ∙ ap (λ x. eqb (bit_at x (k % 64)) 1) (get_or-set_same words (i / 64) word 0 inside)
          ∙ ap (λ x. eqb x 1) (is.others (k % 64) (omega arith) (λ e. apart (omega arith)))
          ∙ ap (λ j. eqb (bit_at (get_or words j 0) (k % 64)) 1) (sym same)
      | inr other ↦ ap (λ x. eqb (bit_at x (k % 64)) 1) (get_or-set_other words (i / 64) (k / 64) word 0 other)
    ]

pub AreWords-set : (words : List ℕ) (len i word : ℕ) (up : Bool) → AreWords words len → i < len
    → IsWithBit (get_or words (i / 64) 0) word (i % 64) up → AreWords (set words (i / 64) word) len
AreWords-set words len i word up are inside is =
    let there : i / 64 < length words = omega (arith, are.sized) in
    record {
      sized = length-set words (i / 64) word ∙ are.sized;
      within = λ k is_up. elim (cases_eq k i) [
        | inl same ↦ omega arith
        | inr other ↦ are.within k (sym (is_up-set_other words i word k up there is other) ∙ is_up)
      ];
    }

pub flags_of-set : (words : List ℕ) (len i word : ℕ) (up : Bool) → AreWords words len → i < len
    → IsWithBit (get_or words (i / 64) 0) word (i % 64) up → flags_of (set words (i / 64) word) len ≡ set (flags_of words len) i up
flags_of-set words len i word up are inside is =
    let there : i / 64 < length words = omega (arith, are.sized) in
    let flags : List Bool = flags_of words len in
    ext_get_or false _ _ (length_of_flags _ len ∙ sym (length_of_flags words len) ∙ sym (length-set flags i up))
    (λ k h. get_or-flags_of (set words (i / 64) word) len k (AreWords-set words len i word up are inside is)
    ∙ (elim (cases_eq k i) as (λ _. is_up (set words (i / 64) word) k ≡ get_or (set flags i up) k false) [
      | inl same ↦ rw same (is_up-set_same words i word up there is
          ∙ sym (get_or-set_same flags i up false (omega (arith, length_of_flags words len))))
      | inr other ↦ is_up-set_other words i word k up there is other ∙ sym (get_or-flags_of words len k are)
          ∙ sym (get_or-set_other flags i k up false other)
    ]))

-- the flag at i is put in its word, as a method reads that
pub put_is : (words : List ℕ) (len i old word : ℕ) (flags : List Bool) (up : Bool) → AreWords words len → flags_of words len ≡ flags
    → i < length flags → old ≡ get_or words (i / 64) old → IsWithBit old word (i % 64) up
    → flags_of (set words (i / 64) word) len ≡ set flags i up
put_is words len i old word flags up are is inside read put =
    flags_of-set words len i word up are (omega (arith, length_of_flags words len, ap length is))
    (subst (λ (x : ℕ). IsWithBit x word (i % 64) up) (word_read words len i old flags are is (omega arith) read) put)
    ∙ ap (λ xs. set xs i up) is

pub put_keeps : (words : List ℕ) (len i old word : ℕ) (flags : List Bool) (up : Bool) → AreWords words len → flags_of words len ≡ flags
    → i < length flags → old ≡ get_or words (i / 64) old → IsWithBit old word (i % 64) up → AreWords (set words (i / 64) word) len
put_keeps words len i old word flags up are is inside read put =
    AreWords-set words len i word up are (omega (arith, length_of_flags words len, ap length is))
    (subst (λ (x : ℕ). IsWithBit x word (i % 64) up) (word_read words len i old flags are is (omega arith) read) put)

-- ---- what a word says of its block
-- a flag is up exactly where its bit is 1
pub member_from_bit : (words : List ℕ) (len k : ℕ) → AreWords words len → bit_at (get_or words (k / 64) 0) (k % 64) ≡ 1
    → IsMember (flags_of words len) k
member_from_bit words len k are one = get_or-flags_of words len k are ∙ eq-eqb _ 1 one

pub bit_from_member : (words : List ℕ) (len k : ℕ) → AreWords words len → IsMember (flags_of words len) k
    → bit_at (get_or words (k / 64) 0) (k % 64) ≡ 1
bit_from_member words len k are member = eqb-true _ 1 (sym (get_or-flags_of words len k are) ∙ member)

-- a bit of a word that is moved down to `from`
bit_moved : (word from k : ℕ) → from ≤ k → k / 64 ≡ from / 64 → bit_at (word / 2 ^ (from % 64)) (k - from) ≡ bit_at word (k % 64)
bit_moved word from k from_on same =
    let place : from % 64 + (k - from) ≡ k % 64 = omega arith in
    ap (λ x. x % 2) (shr-shr word (from % 64) (k - from)) ∙ ap (bit_at word) place

-- none of a word's flags is up where the bits from `from` on, moved down, are 0
pub none_from_zero : (words : List ℕ) (len from : ℕ) → AreWords words len → get_or words (from / 64) 0 / 2 ^ (from % 64) ≡ 0
    → (k : ℕ) → from ≤ k → k / 64 ≡ from / 64 → IsMember (flags_of words len) k → ⊥
none_from_zero words len from are zero k from_on same member =
    let word : ℕ = get_or words (from / 64) 0 in
    let one : bit_at word (k % 64) ≡ 1 = ap (λ j. bit_at (get_or words j 0) (k % 64)) (sym same) ∙ bit_from_member words len k are member in
    let moved : bit_at (word / 2 ^ (from % 64)) (k - from) ≡ bit_at word (k % 64) = bit_moved word from k from_on same in
    let none : bit_at (word / 2 ^ (from % 64)) (k - from) ≡ 0 = ap (λ x. bit_at x (k - from)) zero ∙ bit_at-zero (k - from) in
    omega arith

-- the lowest of these bits that is 1 is the first flag
pub first_from_lowest : (words : List ℕ) (len from word : ℕ) → AreWords words len → word ≡ get_or words (from / 64) 0 → word < 2 ^ 64
    → 0 < word / 2 ^ (from % 64)
    → IsLeastWithin (flags_of words len) from (from + trailing_zeros w64 (word / 2 ^ (from % 64)))
first_from_lowest words len from word are read fits some =
    let low : ℕ = from % 64 in
    let rest : ℕ = word / 2 ^ low in
    let small : rest < 2 ^ 64 = omega (arith, div-le_self word (2 ^ low)) in
    let lowest = bit_at-trailing_zeros w64 rest some small in
    let t : ℕ = trailing_zeros w64 rest in
    let one : bit_at word (low + t) ≡ 1 = ap (λ x. x % 2) (sym (shr-shr word low t)) ∙ lowest.1 in
    let inside : low + t < 64 = elim (cases_lt (low + t) 64) [
      | inl below ↦ below
      | inr above ↦ absurd (omega (arith, bit_at_above word 64 (low + t) fits above))
    ] in
    let same : (from + t) / 64 ≡ from / 64 = omega arith in
    let place : low + t ≡ (from + t) % 64 = omega arith in
    let first : IsLeastFrom (flags_of words len) from (from + t) = record {
      member = member_from_bit words len (from + t) are
          (ap (λ j. bit_at (get_or words j 0) ((from + t) % 64)) same ∙ ap (λ x. bit_at x ((from + t) % 64)) (sym read)
          ∙ ap (bit_at word) (sym place) ∙ one);
      not_before = omega arith;
      least = λ k from_on before member.
          let block : k / 64 ≡ from / 64 = omega arith in
          let bit : bit_at word (k % 64) ≡ 1 = ap (λ x. bit_at x (k % 64)) (read ∙ ap (λ j. get_or words j 0) (sym block))
          ∙ bit_from_member words len k are member in
          omega (arith, bit_moved word from k from_on block, lowest.2 (k - from) (omega arith));
    } in
    record { same_block = same; first = first }

pub none_within : (words : List ℕ) (len from word : ℕ) (flags : List Bool) → AreWords words len → flags_of words len ≡ flags
    → from / 64 ≤ length flags / 64 → word ≡ get_or words (from / 64) word → word / 2 ^ (from % 64) ≡ 0
    → IsFirstWithin flags from None
none_within words len from word flags are is below read zero =
    subst (λ (xs : List Bool). IsFirstWithin xs from None) is
    (none_from_zero words len from are
    (ap (λ x. x / 2 ^ (from % 64)) (sym (word_read words len from word flags are is below read)) ∙ zero))

pub lowest_within : (words : List ℕ) (len from word : ℕ) (flags : List Bool) → AreWords words len → flags_of words len ≡ flags
    → from / 64 ≤ length flags / 64 → word ≡ get_or words (from / 64) word → word < 2 ^ 64 → word / 2 ^ (from % 64) ≢ 0
    → IsLeastWithin flags from (from + trailing_zeros w64 (word / 2 ^ (from % 64)))
lowest_within words len from word flags are is below read fits some =
    subst (λ (xs : List Bool). IsLeastWithin xs from (from + trailing_zeros w64 (word / 2 ^ (from % 64)))) is
    (first_from_lowest words len from word are (word_read words len from word flags are is below read) fits (omega arith))

-- its place is a number of 64 bits, since it lies in the block of one
pub lowest_fits : (words : List ℕ) (len from word : ℕ) (flags : List Bool) → AreWords words len → flags_of words len ≡ flags
    → from / 64 ≤ length flags / 64 → word ≡ get_or words (from / 64) word → word < 2 ^ 64 → word / 2 ^ (from % 64) ≢ 0
    → from < 2 ^ 64 → from + trailing_zeros w64 (word / 2 ^ (from % 64)) < 2 ^ 64
lowest_fits words len from word flags are is below read fits some small =
    omega (arith, (lowest_within words len from word flags are is below read fits some).same_block)
