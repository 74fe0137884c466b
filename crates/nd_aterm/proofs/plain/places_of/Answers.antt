use Rattle.std.proofs.Common.{eqb, sym, subst, arith, w8}
use Rattle.std.proofs.lemmas.Simd.{bitmask_splat}
use Rattle.nd_aterm.specs.PlainBytes.{ArePlaces}
use Rattle.nd_aterm.proofs.PlainLemmas.{places_in_mask}
use Rattle.nd_aterm.proofs.plain.places_of.Goals as goal

pub returns : goal.returns
returns c =
    let byte = c.args.byte in
    let block = c.args.block in
    let long = c.fits-block.0 in
    subst (λ bits. ArePlaces byte block bits) (sym (bitmask_splat w8 eqb block 32 byte long (omega arith))) (places_in_mask byte block long)
