-- The machine at a place of the list, read and tested, and the places of all that pass.
use Rattle.std.proofs.Common.{◌≡◌, ℕ, ◌+◌, ◌<◌, List, [], ◌∷◌, ◌++◌, length, length-append, get_or, inl, inr, refl, subst, arith}
use Rattle.std.specs.Prelude.{Contains}
use Rattle.std.specs.List.Sorted.{IsStrictlyIncreasing}
use Rattle.std.proofs.lemmas.Bool.{cases_lt}
use Rattle.std.proofs.lemmas.List.Elements.{Contains-append_left, Contains-push, Contains-push_cases, Contains-get_or}
use Rattle.std.proofs.lemmas.List.{get_or_append_left}
use Rattle.std.proofs.Math.Seq.{get_or-append_seam}
use Rattle.std.proofs.lemmas.Option.{slice_get_read, slice_get_cases}
use Rattle.nd_machines.specs.Builders.{Builder}
use Rattle.nd_eligible.specs.declared.need.Need.{Need}
use Rattle.nd_eligible.specs.Eligibility.{Eligible, IsEligibleAt, AreEligible}

-- the machine at a place passes the test
pub eligible_at : (machines : List Builder) (need : Need) (place : ℕ) (machine : Builder) → place < length machines
    → machine ≡ get_or machines place machine → Eligible machine need → IsEligibleAt machines need place
eligible_at machines need place machine within is passes =
    rw (slice_get_read machines (length machines) place machine refl within is) passes

-- it doesn't
pub not_eligible_at : (machines : List Builder) (need : Need) (place : ℕ) (machine : Builder) → place < length machines
    → machine ≡ get_or machines place machine → (Eligible machine need → ⊥) → IsEligibleAt machines need place → ⊥
not_eligible_at machines need place machine within is fails passes =
    fails (rw (slice_get_read machines (length machines) place machine refl within is) at passes)

-- an eligible machine stands in the list
pub eligible_within : (machines : List Builder) (need : Need) (place : ℕ) → IsEligibleAt machines need place → place < length machines
eligible_within machines need place passes = elim ((slice_get_cases machines place).1) [
  | inl stands ↦ stands.1
  | inr past ↦ absurd (rw past.1 at passes)
]

-- the eligible machines at the places below a number, in rising order
pub record AreSoFar (machines : List Builder) (need : Need) (bound : ℕ) (places : List ℕ) : Type 0 where
  pub rising : IsStrictlyIncreasing places
  pub sound : (n : ℕ) → Contains places n → (n < bound) × IsEligibleAt machines need n
  pub complete : (n : ℕ) → n < bound → IsEligibleAt machines need n → Contains places n

pub so_far_none : (machines : List Builder) (need : Need) → AreSoFar machines need 0 []
so_far_none machines need = record {
  rising = λ k h. absurd (omega arith);
  sound = λ n h. absurd (omega (arith, h.1));
  complete = λ n h. absurd (omega arith);
}

-- a number above all that stand there goes on a rising list
pub rising_on : (places : List ℕ) (place : ℕ) → ((n : ℕ) → Contains places n → n < place) → IsStrictlyIncreasing places
    → IsStrictlyIncreasing (places ++ place ∷ [])
rising_on places place above rising k h = elim (cases_lt (k + 1) (length places)) [
  | inl old ↦
      let first : k < length places = omega arith in
      rw (get_or_append_left places (place ∷ []) 0 k first, get_or_append_left places (place ∷ []) 0 (k + 1) old) (rising k old)
  | inr last ↦
      let end : k + 1 ≡ length places = omega (arith, h, length-append places (place ∷ [])) in
      let first : k < length places = omega arith in
      rw (get_or_append_left places (place ∷ []) 0 k first, end, get_or-append_seam places place [] 0)
      (above (get_or places k 0) (Contains-get_or places k 0 first))
]

pub so_far_more : (machines : List Builder) (need : Need) (place : ℕ) (places : List ℕ) (machine : Builder) → place < length machines
    → machine ≡ get_or machines place machine → Eligible machine need
    → AreSoFar machines need place places → AreSoFar machines need (place + 1) (places ++ place ∷ [])
so_far_more machines need place places machine within is passes h = record {
  rising = rising_on places place (λ n found. (h.sound n found).0) h.rising;
  sound = λ n found. elim (Contains-push_cases places place n found) [
    | inl old ↦ (let below = (h.sound n old).0 in omega arith, (h.sound n old).1)
    | inr same ↦ (omega (arith, same), subst (λ (m : ℕ). IsEligibleAt machines need m) same (eligible_at machines need place machine within is passes))
  ];
  complete = λ n below meant. elim (cases_lt n place) [
    | inl old ↦ Contains-append_left places (place ∷ []) n (h.complete n old meant)
    | inr least ↦
        let same : place ≡ n = omega arith in
        subst (λ (m : ℕ). Contains (places ++ place ∷ []) m) same (Contains-push places place)
  ];
}

pub so_far_same : (machines : List Builder) (need : Need) (place : ℕ) (places : List ℕ) (machine : Builder) → place < length machines
    → machine ≡ get_or machines place machine → (Eligible machine need → ⊥)
    → AreSoFar machines need place places → AreSoFar machines need (place + 1) places
so_far_same machines need place places machine within is fails h = record {
  rising = h.rising;
  sound = λ n found. (let below = (h.sound n found).0 in omega arith, (h.sound n found).1);
  complete = λ n below meant. elim (cases_lt n place) [
    | inl old ↦ h.complete n old meant
    | inr least ↦
        let same : n ≡ place = omega arith in
        absurd (not_eligible_at machines need place machine within is fails (subst (λ (m : ℕ). IsEligibleAt machines need m) same meant))
  ];
}

pub so_far_all : (machines : List Builder) (need : Need) (n : ℕ) (places : List ℕ) → n ≡ length machines
    → AreSoFar machines need n places → AreEligible machines need places
so_far_all machines need n places whole h = record {
  rising = h.rising;
  exact = λ place. ((λ found. (h.sound place found).1), (λ meant. h.complete place (let within = eligible_within machines need place meant in omega arith) meant));
}
