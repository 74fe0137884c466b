-- The places of a park, gathered machine by machine and slot by slot.
use Rattle.std.proofs.Common.{◌≡◌, ℕ, zero, suc, ◌+◌, ◌-◌, ◌<◌, ◌≤◌, List, [], ◌∷◌, ◌++◌, length, map, refl, sym, ap, ◌∙◌, subst, arith, append_assoc, length-append}
use Rattle.std.proofs.lemmas.Grind.{flat_map-append}
use Rattle.std.proofs.lemmas.List.{append-nil}
use Rattle.std.proofs.lemmas.List.FromFn.{map-range_with_len_more, length-map-range_with_len}
use Rattle.std.specs.List.{flat_map, range_with_len}
use Rattle.nd_history.specs.Premises.{Premises}
use Rattle.nd_history.specs.Choices.{machines_in, jobs_of}
use Rattle.nd_run_desk.specs.Abandoned.{places_on, places_of}
use Rattle.nd_cli.specs.declared.fault.CliFault.{CliFault}
use Rattle.nd_cli.specs.declared.fault.CliFault.TheVariants.{Derivation, Drvs, Builders, Info, Script, Stand, History, TooLarge, TooManySlots, Read, Write, Memory, Thread, Receipts}
use Rattle.nd_run_command.specs.Seats.{AreTooMany}

-- these are the places of the first m machines
pub record AreSeated (i : Premises) (m : ℕ) (places : List (ℕ × ℕ)) : Type 0 where
  pub so_far : places ≡ flat_map (places_on i) (range_with_len 0 m)
  pub few : length places ≤ 1024

-- behind others stand the places of the first slots of machine m
pub record AreAdded (m slot : ℕ) (before places : List (ℕ × ℕ)) : Type 0 where
  pub so_far : places ≡ before ++ map (λ s. (m, s)) (range_with_len 0 slot)
  pub few : length places ≤ 1024

pub none_yet : (i : Premises) → AreSeated i 0 []
none_yet i = record { so_far = refl; few = omega arith }

pub none_added : (m : ℕ) (before : List (ℕ × ℕ)) → length before ≤ 1024 → AreAdded m 0 before before
none_added m before few = record { so_far = sym (append-nil before); few = few }

pub one_place : (m slot : ℕ) (before places : List (ℕ × ℕ)) → AreAdded m slot before places → length places < 1024 → AreAdded m (slot + 1) before (places ++ (m, slot) ∷ [])
one_place m slot before places h room = record {
  so_far =
      ap (λ (ps : List (ℕ × ℕ)). ps ++ (m, slot) ∷ []) h.so_far
      ∙ append_assoc before (map (λ s. (m, s)) (range_with_len 0 slot)) ((m, slot) ∷ [])
      ∙ ap (λ (ps : List (ℕ × ℕ)). before ++ ps) (sym (map-range_with_len_more (λ s. (m, s)) 0 slot slot (omega arith)));
  few = omega (arith, length-append places ((m, slot) ∷ []));
}

-- one more place is one too many
pub too_many_there : (i : Premises) (m slot : ℕ) (before places : List (ℕ × ℕ)) → AreAdded m slot before places → 1024 ≤ length places → slot < jobs_of i m → 1024 < length (before ++ places_on i m)
too_many_there i m slot before places h full within =
    omega (
      arith,
      ap length h.so_far,
      length-append before (map (λ s. (m, s)) (range_with_len 0 slot)),
      length-append before (places_on i m),
      length-map-range_with_len {X = ℕ × ℕ} (λ s. (m, s)) 0 slot,
      length-map-range_with_len {X = ℕ × ℕ} (λ s. (m, s)) 0 (jobs_of i m),
    )

flat_map_last : (f : ℕ → List (ℕ × ℕ)) (m : ℕ) → flat_map f (range_with_len 0 (m + 1)) ≡ flat_map f (range_with_len 0 m) ++ f m
flat_map_last f m =
    ap (flat_map f) (range_last m) ∙ flat_map-append f (range_with_len 0 m) (m ∷ []) ∙ ap (λ (ps : List (ℕ × ℕ)). flat_map f (range_with_len 0 m) ++ ps) (append-nil (f m))
  where
    plain : (ks : List ℕ) → map (λ k. k) ks ≡ ks
    plain [] = refl
    plain (k ∷ ks) = ap (λ (rest : List ℕ). k ∷ rest) (plain ks)

    range_last : (n : ℕ) → range_with_len 0 (n + 1) ≡ range_with_len 0 n ++ n ∷ []
    range_last n = sym (plain (range_with_len 0 (n + 1))) ∙ map-range_with_len_more (λ k. k) 0 n n (omega arith) ∙ ap (λ (ks : List ℕ). ks ++ n ∷ []) (plain (range_with_len 0 n))

pub one_machine : (i : Premises) (m : ℕ) (places more : List (ℕ × ℕ)) → AreSeated i m places → more ≡ places ++ places_on i m → length more ≤ 1024 → AreSeated i (m + 1) more
one_machine i m places more h added few = record {
  so_far = added ∙ ap (λ (ps : List (ℕ × ℕ)). ps ++ places_on i m) h.so_far ∙ sym (flat_map_last (places_on i) m);
  few = few;
}

-- the places of some machines are no more than those of all
no_more : (f : ℕ → List (ℕ × ℕ)) (m gap : ℕ) → length (flat_map f (range_with_len 0 m)) ≤ length (flat_map f (range_with_len 0 (m + gap)))
no_more f m zero =
    let same : m ≡ m + 0 = omega arith in
    let here : length (flat_map f (range_with_len 0 m)) ≤ length (flat_map f (range_with_len 0 m)) = omega arith in
    subst (λ (n : ℕ). length (flat_map f (range_with_len 0 m)) ≤ length (flat_map f (range_with_len 0 n))) same here
no_more f m (suc gap) =
    let before = no_more f m gap in
    let last : length (flat_map f (range_with_len 0 (m + gap + 1))) ≡ length (flat_map f (range_with_len 0 (m + gap)) ++ f (m + gap)) = ap length (flat_map_last f (m + gap)) in
    let whole : length (flat_map f (range_with_len 0 m)) ≤ length (flat_map f (range_with_len 0 (m + gap + 1))) =
    omega (arith, before, last, length-append (flat_map f (range_with_len 0 (m + gap))) (f (m + gap))) in
    let next : m + gap + 1 ≡ m + suc gap = omega arith in
    subst (λ (n : ℕ). length (flat_map f (range_with_len 0 m)) ≤ length (flat_map f (range_with_len 0 n))) next whole

-- too many with a machine are too many in all
pub too_many : (i : Premises) (m : ℕ) (places : List (ℕ × ℕ)) (fault : CliFault) → AreSeated i m places → m < machines_in i → AreTooMany (places ++ places_on i m) fault → AreTooMany (places_of i) fault
too_many i m places TooManySlots h within many =
    let here : flat_map (places_on i) (range_with_len 0 (m + 1)) ≡ places ++ places_on i m = flat_map_last (places_on i) m ∙ ap (λ (ps : List (ℕ × ℕ)). ps ++ places_on i m) (sym h.so_far) in
    let full : 1024 < length (flat_map (places_on i) (range_with_len 0 (m + 1))) = omega (arith, many, ap length here) in
    gap_of (machines_in i) within full
  where
    gap_of : (n : ℕ) → m < n → 1024 < length (flat_map (places_on i) (range_with_len 0 (m + 1))) → 1024 < length (flat_map (places_on i) (range_with_len 0 n))
    gap_of n less many =
        let rest : m + 1 + (n - (m + 1)) ≡ n = omega arith in
        let more : 1024 < length (flat_map (places_on i) (range_with_len 0 (m + 1 + (n - (m + 1))))) = omega (arith, many, no_more (places_on i) (m + 1) (n - (m + 1))) in
        subst (λ (k : ℕ). 1024 < length (flat_map (places_on i) (range_with_len 0 k))) rest more
too_many i m places Memory h within many = tt
too_many i m places (Derivation e) h within many = many
too_many i m places (Drvs e) h within many = many
too_many i m places (Builders e) h within many = many
too_many i m places (Info e) h within many = many
too_many i m places (Script e) h within many = many
too_many i m places (Stand e) h within many = many
too_many i m places (History e) h within many = many
too_many i m places (TooLarge place) h within many = many
too_many i m places Read h within many = many
too_many i m places Write h within many = many
too_many i m places Thread h within many = many
too_many i m places Receipts h within many = many

pub all_places : (i : Premises) (m : ℕ) (places : List (ℕ × ℕ)) → AreSeated i m places → m ≡ machines_in i → places ≡ places_of i
all_places i m places h all = h.so_far ∙ ap (λ (n : ℕ). flat_map (places_on i) (range_with_len 0 n)) all
