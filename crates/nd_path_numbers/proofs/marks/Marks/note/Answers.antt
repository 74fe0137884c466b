use Rattle.std.proofs.Common.{◌≡◌, ◌/◌, ◌*◌, ◌^◌, ◌%◌, ◌<◌, ℕ, length, get_or, set, refl, ap, arith, bit_or, ◌∙◌, w64}
use mir.Val.{bits}
use Rattle.std.proofs.lemmas.Grind.{get_or_default_zero}
use Rattle.nd_path_numbers.proofs.Marking.{noted}
use Rattle.nd_path_numbers.proofs.marks.Marks.note.Goals as goal

pub returns-then-place-len-clause-noted : goal.returns-then-place-len-clause-noted
returns-then-place-len-clause-noted c =
    let lt : c.args.number / 64 < length c.args.self.now.words.items = omega (arith, c.if-place-len.true, c.len.ensures) in
    let word : c.index_mut.result.now ≡ get_or c.args.self.now.words.items (c.args.number / 64) 0 =
    c.index_mut.ensures.value ∙ get_or_default_zero c.args.self.now.words.items (c.args.number / 64) c.index_mut.result.now lt in
    λ numbers h.
    noted numbers c.args.self.now _ c.args.number lt (ap (λ (w : ℕ). set c.args.self.now.words.items (c.args.number / 64) (bit_or w (1 * 2 ^ (c.args.number % 64) % 2 ^ bits w64))) word) refl h
