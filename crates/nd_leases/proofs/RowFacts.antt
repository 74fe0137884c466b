-- What a row's set of free slots says of its slots.
use Rattle.std.proofs.Common.{◌≡◌, ℕ, zero, suc, ◌+◌, ◌<◌, ◌≤◌, Bool, true, false, List, [], ◌∷◌, ◌++◌, length, get_or, set, replicate, Option, None, Some, refl, sym, ap, ◌∙◌, arith, ◌≢◌, inl, inr, length-set, get_or-set_other, get_or-set_same}
use Rattle.std.proofs.lemmas.List.{length-append}
use Rattle.std.proofs.lemmas.Bool.{cases_eq}
use Rattle.std.proofs.Math.Seq.{get_or-append_seam}
use Rattle.nd_flags.specs.Members.{IsMember}
use Rattle.nd_leases.specs.declared.row.Row.TheInside.{Inside}
use Rattle.nd_leases.specs.RowKept.{is_free, IsNone, IsKept}

-- a slot that is marked as free is one of the row, and free
free_at : (row : List (Option ℕ)) (k : ℕ) → is_free (get_or row k (Some 0)) ≡ true → (k < length row) × (get_or row k None ≡ None)
free_at [] k up = cc
free_at (None ∷ row) zero up = (omega arith, refl)
free_at (Some d ∷ row) zero up = cc
free_at (o ∷ row) (suc k) up = let rest = free_at row k up in (omega (arith, rest.0), rest.1)

-- a free slot of the row is marked so
gap_at : (row : List (Option ℕ)) (k : ℕ) → k < length row → get_or row k None ≡ None → is_free (get_or row k (Some 0)) ≡ true
gap_at [] k lt gap = absurd (omega (arith, lt))
gap_at (None ∷ row) zero lt gap = refl
gap_at (Some d ∷ row) zero lt gap = cc
gap_at (o ∷ row) (suc k) lt gap = gap_at row k (omega (arith, lt)) gap

pub member_is_gap : (r : Inside) (k : ℕ) → IsKept r → IsMember r.free k → (k < length r.slots.items) × (get_or r.slots.items k None ≡ None)
member_is_gap r k kept member = free_at r.slots.items k (sym (kept.free k) ∙ member)

pub gap_is_member : (r : Inside) (k : ℕ) → IsKept r → k < length r.slots.items → get_or r.slots.items k None ≡ None → IsMember r.free k
gap_is_member r k kept lt gap = kept.free k ∙ gap_at r.slots.items k lt gap

-- a row whose least free slot isn't one of it has no free one in its set
pub none_free : (r : Inside) (row : List (Option ℕ)) (n : ℕ) → r.slots.items ≡ row → IsKept r → ((k : ℕ) → k < n → get_or row k None ≡ None → ⊥) → length r.slots.items ≤ n → IsNone r.free
none_free r row n is kept least past = record {
  none = λ k member. let gap = member_is_gap r k kept member in least k (omega (arith, gap.0, past)) (ap (λ xs. get_or xs k None) (sym is) ∙ gap.1);
}

-- a flag that isn't up is down
down : (b : Bool) → (b ≡ true → ⊥) → b ≡ false
down true never = absurd (never refl)
down false never = refl

-- another set without members, with as much room, serves as well
pub kept_anew : (r s : Inside) → s.slots.items ≡ r.slots.items → IsKept r → IsNone r.free → IsNone s.free → length r.free ≤ length s.free → IsKept s
kept_anew r s same kept none anew longer = record {
  room = let e : length s.slots.items ≡ length r.slots.items = ap length same in omega (arith, e, kept.room, longer);
  free = λ k. down (get_or s.free k false) (anew.none k) ∙ sym (down (get_or r.free k false) (none.none k)) ∙ kept.free k ∙ ap (λ xs. is_free (get_or xs k (Some 0))) (sym same);
}

-- what is read of a row with a free slot put behind it
longer_else : (row : List (Option ℕ)) (k : ℕ) → k ≢ length row → get_or (row ++ None ∷ []) k (Some 0) ≡ get_or row k (Some 0)
longer_else [] zero other = absurd (other refl)
longer_else [] (suc k) other = refl
longer_else (o ∷ row) zero other = refl
longer_else (o ∷ row) (suc k) other = longer_else row k (λ e. other (ap suc e))

marked_here : (row : List (Option ℕ)) (set' : List Bool) (k : ℕ) → k ≡ length row → length row < length set' → get_or (set set' (length row) true) k false ≡ is_free (get_or (row ++ None ∷ []) k (Some 0))
marked_here row set' k is room = ap (λ n. get_or (set set' (length row) true) n false) is ∙ get_or-set_same set' (length row) true false room ∙ sym (ap (λ n. is_free (get_or (row ++ None ∷ []) n (Some 0))) is ∙ ap is_free (get_or-append_seam row None [] (Some 0)))

marked_else : (row : List (Option ℕ)) (set' : List Bool) (k : ℕ) → k ≢ length row → get_or set' k false ≡ is_free (get_or row k (Some 0)) → get_or (set set' (length row) true) k false ≡ is_free (get_or (row ++ None ∷ []) k (Some 0))
marked_else row set' k other before = get_or-set_other set' (length row) k true false other ∙ before ∙ sym (ap is_free (longer_else row k other))

-- .. keeps the set, which gets its number
pub kept_longer : (r s : Inside) (set' : List Bool) → s.slots.items ≡ r.slots.items ++ None ∷ [] → s.free ≡ set set' (length r.slots.items) true → IsKept r → IsNone r.free → IsNone set' → length r.slots.items < length set' → IsKept s
kept_longer r s set' slots free kept none anew room = record {
  room =
      let few : length s.slots.items ≡ length r.slots.items + 1 = ap length slots ∙ length-append r.slots.items (None ∷ []) in
      let same : length s.free ≡ length set' = ap length free ∙ length-set set' (length r.slots.items) true in
      omega (arith, few, same, room);
  free = λ k.
      let before = down (get_or set' k false) (anew.none k) ∙ sym (down (get_or r.free k false) (none.none k)) ∙ kept.free k in
      ap (λ xs. get_or xs k false) free
      ∙ elim (cases_eq k (length r.slots.items)) [ inl same ↦ marked_here r.slots.items set' k same room | inr other ↦ marked_else r.slots.items set' k other before ]
      ∙ ap (λ xs. is_free (get_or xs k (Some 0))) (sym slots);
}
