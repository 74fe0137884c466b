use Rattle.std.proofs.Common.{rules, ◌≡◌, ℕ, Bool, false, List, length, replicate, refl, sym, subst, ap, ◌∙◌}
use Rattle.std.proofs.lemmas.List.{length-replicate}
use Rattle.std.proofs.lemmas.List.Elements.{All-replicate}
use Rattle.nd_pump.specs.Grouped.{AreSeated, AreFlagged}
use Rattle.nd_pump.proofs.grouped.Grouped.new.Goals as goal

pub invariant_of-result : goal.invariant_of-result
invariant_of-result c =
    let n : ℕ = length c.args.groups.now in
    let groups = c.in_ok-from_slice.ensures.items in
    let ready : c.in_ok-vec.field-0.items ≡ replicate n false = c.in_ok-vec.ensures.items_if_clones_equal (search rules) in
    let sized : length c.in_ok-from_slice.field-0.items ≡ n = ap (λ (xs : List ℕ). length xs) groups in
    record {
      sized = ap (λ (xs : List Bool). length xs) ready ∙ (length-replicate n false ∙ sym sized);
      places = c.in_ok-places.ensures.places ∙ sym sized;
      seated = subst (λ (xs : List ℕ). AreSeated (length xs) xs c.in_ok-places.places.items c.in_ok-places.lists) (sym groups) c.in_ok-places.ensures.seats;
      flagged = subst (λ (xs : List Bool). AreFlagged c.in_ok-places.lists c.in_ok-flags.flags.items xs) (sym ready)
          (c.in_ok-flags.ensures (replicate n false) (All-replicate (λ up. up ≡ false) n false refl));
    }
