use Rattle.std.proofs.Common.{◌≡◌, ◌+◌, ◌∷◌, [], ◌++◌, ℕ, rules, arith, refl, sym, ap, ◌∙◌, length, length-append, vec_len, Vec, Global}
use Rattle.std.proofs.lemmas.List.{map_push}
use Rattle.nd_receipts.specs.declared.receipt.Receipt.{Receipt}
use Rattle.nd_workers.specs.declared.seat.Seat.{Seat}
use Rattle.nd_workers.specs.declared.threads.Stint.{Stint}
use Rattle.nd_workers.proofs.Zips.{zip_pair, zip_more, sum_last}
use Rattle.nd_workers.proofs.settling.take_apart.Goals as goal

pub parting-preserved : goal.parting-preserved
parting-preserved g c =
    let seat : Stint g.row.T.Denot → Seat g.row.T.Denot = λ x. x.seat in
    let noted : Stint g.row.T.Denot → ℕ = λ x. length x.notes.receipts in
    let kept : Vec Receipt Global → ℕ = λ v. vec_len v in
    let before = sum_last noted c.parting.yielded (c.parting.yielded ++ c.in-Some.stint ∷ []) c.in-Some.stint refl in
    let after = sum_last kept c.parting.receipts.items c.push_reserved-in-parting.new.self.items c.into_parts-mine.result.0 c.push_reserved-in-parting.ensures.items in
    let long : vec_len c.into_parts-mine.result.0 ≡ length c.in-Some.stint.notes.receipts = search rules in
    let one_more : length (c.parting.yielded ++ c.in-Some.stint ∷ []) ≡ length c.parting.yielded + 1 = length-append c.parting.yielded (c.in-Some.stint ∷ []) in
    let pushed : vec_len c.push_reserved-in-parting.new.self ≡ vec_len c.parting.receipts + 1 = search rules in
    let so_far = c.parting.invariant.6 in (
      search rules,
      search rules,
      search rules,
      omega arith,
      rw (c.push_reserved.ensures.items, c.push_reserved-in-parting.ensures.items) (zip_pair _ _ _ _ _ _ _ (search rules) c.parting.invariant.4 (refl, c.into_parts-mine.ensures.receipts)),
      c.push_reserved.ensures.items ∙ ap (λ xs. xs ++ seat c.in-Some.stint ∷ []) c.parting.invariant.5 ∙ sym (map_push seat c.parting.yielded c.in-Some.stint),
      omega arith,
      search rules,
      rw c.push_reserved-in-parting-2.ensures.items (zip_more _ _ _ _ _ c.parting.invariant.8 c.into_parts-mine.ensures.copies),
    )
