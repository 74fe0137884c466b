use Rattle.std.proofs.Common.{true, sym, subst, arith, List, ℕ, ◌≡◌}
use Rattle.std.specs.List.{list_all}
use Rattle.nd_path.specs.StorePath.{is_digest_byte}
use Rattle.nd_path.specs.Encoding.{base32_of}
use Rattle.nd_path.proofs.Parts.{base32_from_characters, base32_passes}
use Rattle.nd_path.proofs.encoding.base32.Goals as goal

pub returns-clause-value : goal.returns-clause-value
returns-clause-value c = base32_from_characters _ _ c.loop-i.invariant.size (λ k h. c.loop-i.invariant.written k (omega arith))

pub returns-clause-digits : goal.returns-clause-digits
returns-clause-digits c =
    let text : c.loop-i.text ≡ base32_of c.args.bytes.now =
    base32_from_characters _ _ c.loop-i.invariant.size (λ k h. c.loop-i.invariant.written k (omega arith)) in
    subst (λ (t : List ℕ). list_all is_digest_byte t ≡ true) (sym text) (base32_passes c.args.bytes.now)
