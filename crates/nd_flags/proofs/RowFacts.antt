-- A row of flags and the layer above it, where no flag is up. That a flag is put and found needs no lemma here.
use Rattle.std.proofs.Common.{◌≡◌, ◌<◌, ◌+◌, ◌/◌, ℕ, Bool, false, List, length, replicate, ap, sym, ◌∙◌, subst, inl, inr, arith}
use Rattle.std.proofs.lemmas.List.{get_or_past, length-replicate, get_or-replicate}
use Rattle.std.proofs.lemmas.Bool.{cases_lt, false≢true}
use Rattle.nd_flags.specs.Members.{IsMember}
use Rattle.nd_flags.specs.Layers.{AreSummed}

-- a member lies within the row
pub IsMember-within : (row : List Bool) (k : ℕ) → IsMember row k → k < length row
IsMember-within row k member =
    elim (cases_lt k (length row)) [
      | inl within ↦ within
      | inr past ↦ absurd (false≢true (sym (get_or_past row k false past) ∙ member))
    ]

none_of_replicate : (n k : ℕ) → IsMember (replicate n false) k → ⊥
none_of_replicate n k member =
    let within : k < length (replicate n false) = IsMember-within (replicate n false) k member in
    false≢true (sym (get_or-replicate n k false false (omega (arith, length-replicate {A = Bool} n false))) ∙ member)

-- a row with no flag up, and none above
pub AreSummed-none : (row above : List Bool) (len : ℕ) → row ≡ replicate len false → above ≡ replicate (len / 64 + 1) false → AreSummed row above
AreSummed-none row above len is is_above = record {
  sized = ap length is_above ∙ length-replicate (len / 64 + 1) false ∙ ap (λ n. n / 64 + 1) (sym (ap length is ∙ length-replicate len false));
  up = λ k member. absurd (none_of_replicate len k (subst (λ (xs : List Bool). IsMember xs k) is member));
  down = λ j member. absurd (none_of_replicate (len / 64 + 1) j (subst (λ (xs : List Bool). IsMember xs j) is_above member));
}
