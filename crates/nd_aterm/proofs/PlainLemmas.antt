-- Lemmas on the search for the first byte that has an escape.
use Rattle.std.proofs.Common.{◌≡◌, ◌≢◌, ◌⊎◌, ℕ, ◌+◌, ◌-◌, ◌/◌, ◌%◌, ◌^◌, ◌<◌, ◌≤◌, Bool, true, false, cond, eqb, List, Option, None, Some, length, get_or, map, bit_or, inl, inr, ⊎_elim, refl, sym, ap, subst, ◌∙◌, arith, w64}
use Rattle.std.proofs.Math.ListN.{get_or-eq_default}
use Rattle.std.specs.Int.{bit_at}
use Rattle.std.specs.Int.Count.{count_trailing_zeros}
use Rattle.std.proofs.lemmas.Bool.{cases_lt, cond-false, eqb-true, eq-eqb, ne_eqb}
use Rattle.std.proofs.lemmas.Nat.{shr-shr}
use Rattle.std.proofs.lemmas.Nat.Bits.{bit_at_or, bit_at-lt, bit_at-zero, bit_at-trailing_zeros}
use Rattle.std.proofs.lemmas.Option.{none-some}
use Rattle.std.proofs.lemmas.List.{length-map, get_or-map}
use Rattle.std.proofs.lemmas.Simd.{get_or-chunk, bit_mask_l}
use Rattle.std.specs.Simd.Lanes.{chunk, mask_l}
use Rattle.nd_aterm.specs.PlainBytes.{ArePlainTo, ArePlaces, AreEscapes, AreEscapesFrom}
use Rattle.nd_aterm.specs.Spelling.{letter_of}

-- one byte further
pub plain_further : (bytes : List ℕ) (n : ℕ) → ArePlainTo bytes n → letter_of (get_or bytes n 0) ≡ None → ArePlainTo bytes (n + 1)
plain_further bytes n before here = record {
  each = λ k low.
      ⊎_elim (λ early. before.each k early)
      (λ late. let same : n ≡ k = omega arith in subst (λ (j : ℕ). letter_of (get_or bytes j 0) ≡ None) same here)
      (cases_lt k n);
}

-- a byte that is none of the five has no escape
plain_byte : (c : ℕ) → c ≢ 34 → c ≢ 92 → c ≢ 10 → c ≢ 13 → c ≢ 9 → letter_of c ≡ None
plain_byte c quote backslash newline carriage tab =
    cond-false _ _ _ (ne_eqb c 34 quote) ∙ cond-false _ _ _ (ne_eqb c 92 backslash) ∙ cond-false _ _ _ (ne_eqb c 10 newline)
    ∙ cond-false _ _ _ (ne_eqb c 13 carriage) ∙ cond-false _ _ _ (ne_eqb c 9 tab)

-- each of the five has one
lettered : (c byte letter : ℕ) → c ≡ byte → letter_of byte ≡ Some letter → letter_of c ≢ None
lettered c byte letter is has none = none-some letter (sym none ∙ ap letter_of is ∙ has)

bit_of_two : (a b k : ℕ) → bit_at (bit_or a b) k ≡ 1 → (bit_at a k ≡ 1) ⊎ (bit_at b k ≡ 1)
bit_of_two a b k set =
    ⊎_elim (λ clear. inr (omega (arith, bit_at_or a b k, bit_at-lt a k, bit_at-lt b k))) (λ one. inl (omega (arith, bit_at-lt a k))) (cases_lt (bit_at a k) 1)

bits_clear : (a b k : ℕ) → bit_at (bit_or a b) k ≡ 0 → (bit_at a k ≡ 0) × (bit_at b k ≡ 0)
bits_clear a b k clear = (omega (arith, bit_at_or a b k), omega (arith, bit_at_or a b k))

not_at : (byte : ℕ) (block : List ℕ) (bits k : ℕ) → ArePlaces byte block bits → k < 32 → bit_at bits k ≡ 0 → get_or block k 0 ≢ byte
not_at byte block bits k places low clear is = let set = (places.each k).1 (low, is) in omega arith

-- the five together
pub five_places : (block : List ℕ) (q b n r t : ℕ) → ArePlaces 34 block q → ArePlaces 92 block b → ArePlaces 10 block n → ArePlaces 13 block r → ArePlaces 9 block t
    → AreEscapes block (bit_or (bit_or (bit_or (bit_or q b) n) r) t)
five_places block q b n r t quotes backslashes newlines returns tabs = record {
  each = λ k. (
    λ set.
        ⊎_elim (λ set. ⊎_elim (λ set. ⊎_elim (λ set. ⊎_elim
        (λ set. let at = (quotes.each k).0 set in (at.0, lettered _ 34 34 at.1 refl))
        (λ set. let at = (backslashes.each k).0 set in (at.0, lettered _ 92 92 at.1 refl)) (bit_of_two q b k set))
        (λ set. let at = (newlines.each k).0 set in (at.0, lettered _ 10 110 at.1 refl)) (bit_of_two _ n k set))
        (λ set. let at = (returns.each k).0 set in (at.0, lettered _ 13 114 at.1 refl)) (bit_of_two _ r k set))
        (λ set. let at = (tabs.each k).0 set in (at.0, lettered _ 9 116 at.1 refl)) (bit_of_two _ t k set),
    λ at.
        ⊎_elim
        (λ low.
        let clear : bit_at (bit_or (bit_or (bit_or (bit_or q b) n) r) t) k ≡ 0 = omega arith in
        let four = bits_clear _ t k clear in
        let three = bits_clear _ r k four.0 in
        let two = bits_clear _ n k three.0 in
        let one = bits_clear q b k two.0 in
        absurd (at.1 (plain_byte (get_or block k 0) (not_at 34 block q k quotes at.0 one.0) (not_at 92 block b k backslashes at.0 one.1)
        (not_at 10 block n k newlines at.0 two.1) (not_at 13 block r k returns at.0 three.1) (not_at 9 block t k tabs at.0 four.1))))
        (λ high. omega (arith, bit_at-lt (bit_or (bit_or (bit_or (bit_or q b) n) r) t) k))
        (cases_lt (bit_at (bit_or (bit_or (bit_or (bit_or q b) n) r) t) k) 1),
  );
}

-- the same from a place within the 32 bytes on
pub escapes_moved : (bytes : List ℕ) (start place bits : ℕ) → AreEscapes (chunk start 32 bytes) bits → start + 32 ≤ length bytes → start ≤ place
    → AreEscapesFrom bytes place (start + 32) (bits / 2 ^ (place - start))
escapes_moved bytes start place bits escapes inside from = record {
  each = λ k.
      let passed = place - start in
      let moved : bit_at (bits / 2 ^ passed) k ≡ bit_at bits (passed + k) = ap (λ n. n % 2) (shr-shr bits passed k) in
      let same : start + (passed + k) ≡ place + k = omega arith in
      let there = λ (low : passed + k < 32). get_or-chunk start 32 bytes (passed + k) 0 low ∙ ap (λ j. get_or bytes j 0) same in (
        λ is_set. let at = (escapes.each (passed + k)).0 (sym moved ∙ is_set) in (omega (arith, at.0), subst (λ x. letter_of x ≢ None) (there at.0) at.1),
        λ at. let low : passed + k < 32 = omega (arith, at.0) in moved ∙ (escapes.each (passed + k)).1 (low, subst (λ x. letter_of x ≢ None) (sym (there low)) at.1),
      );
}

none_from : (o : Option ℕ) → (o ≢ None → ⊥) → o ≡ None
none_from None h = refl
none_from (Some x) h = absurd (h (λ e. none-some x (sym e)))

-- a search up to `end` that stands at this place
module _ (bytes : List ℕ) (place end bits : ℕ) (escapes : AreEscapesFrom bytes place end bits) (before : ArePlainTo bytes place) where
  plain_at_clear : (k : ℕ) → place + k < end → bit_at bits k ≡ 0 → letter_of (get_or bytes (place + k) 0) ≡ None
  plain_at_clear k low clear =
      none_from _ (λ (escaped : letter_of (get_or bytes (place + k) 0) ≢ None). let is_set = (escapes.each k).1 (low, escaped) in omega arith)

  plain_up_to : (to : ℕ) → to ≤ end → ((k : ℕ) → place + k < to → bit_at bits k ≡ 0) → ArePlainTo bytes to
  plain_up_to to low clear = record {
    each = λ k under.
        ⊎_elim (λ early. before.each k early)
        (λ late.
        let same : place + (k - place) ≡ k = omega arith in
        subst (λ (j : ℕ). letter_of (get_or bytes j 0) ≡ None) same (plain_at_clear (k - place) (omega arith) (clear (k - place) (omega arith))))
        (cases_lt k place);
  }

  -- no bit is set
  pub none_left : bits ≡ 0 → ArePlainTo bytes end
  none_left none = plain_up_to end (omega arith) (λ k low. ap (λ n. bit_at n k) none ∙ bit_at-zero k)

  -- the lowest bit that is set
  module _ (fits : bits < 18446744073709551616) (some : 0 < bits) where
    lowest : (count_trailing_zeros 64 bits < 64) × (bit_at bits (count_trailing_zeros 64 bits) ≡ 1) × ((k : ℕ) → k < count_trailing_zeros 64 bits → bit_at bits k ≡ 0)
    lowest = bit_at-trailing_zeros w64 bits some fits

    pub first_within : place + count_trailing_zeros 64 bits < end
    first_within = ((escapes.each (count_trailing_zeros 64 bits)).0 lowest.1).0

    pub first_plain : ArePlainTo bytes (place + count_trailing_zeros 64 bits)
    first_plain = plain_up_to (place + count_trailing_zeros 64 bits) (omega (arith, first_within)) (λ k low. lowest.2 k (omega arith))

    pub first_escaped : letter_of (get_or bytes (place + count_trailing_zeros 64 bits) 0) ≢ None
    first_escaped = ((escapes.each (count_trailing_zeros 64 bits)).0 lowest.1).1

is_one : (b : Bool) → cond {A = ℕ} b 1 0 ≡ 1 → b ≡ true
is_one true e = refl
is_one false e = absurd (omega arith)

-- the mask of a comparison with one byte
pub places_in_mask : (byte : ℕ) (block : List ℕ) → length block ≡ 32 → ArePlaces byte block (mask_l (map (λ x. eqb x byte) block))
places_in_mask byte block long =
    let same = λ (x : ℕ). eqb x byte in
    let flags = map same block in
    record {
      each = λ k. (
        λ is_set.
            ⊎_elim
            (λ low. (low, eqb-true _ byte (sym (get_or-map same block k 0 false (omega (arith, long))) ∙ is_one _ (sym (bit_mask_l flags k) ∙ is_set))))
            (λ past. absurd (let clear : cond {A = ℕ} (get_or flags k false) 1 0 ≡ 0 = ap (λ b. cond b 1 0) (get_or-eq_default flags false (omega (arith, length-map block same, long))) in omega (arith, bit_mask_l flags k)))
            (cases_lt k 32),
        λ at. bit_mask_l flags k ∙ ap (λ b. cond b 1 0) (get_or-map same block k 0 false (omega (arith, long, at.0)) ∙ eq-eqb _ byte at.1),
      );
    }
