use Rattle.std.proofs.Common.{◌<◌, ℕ, [], ◌∷◌, drop, get_or, refl, arith}
use Rattle.nd_path.proofs.Fronts.{eight_and_rest}
use Rattle.nd_path.proofs.store_path.front_number.Goals as goal

pub returns : goal.returns
returns c = let byte : (i : ℕ) → get_or c.args.bytes.now i 0 < 256 = λ i. (c.type_inv.bytes i).fits in record {
  front = get_or c.args.bytes.now 0 0 ∷ get_or c.args.bytes.now 1 0 ∷ get_or c.args.bytes.now 2 0 ∷ get_or c.args.bytes.now 3 0 ∷ get_or c.args.bytes.now 4 0 ∷ get_or c.args.bytes.now 5 0 ∷ get_or c.args.bytes.now 6 0 ∷ get_or c.args.bytes.now 7 0 ∷ [];
  rest = drop 8 c.args.bytes.now;
  text = eight_and_rest c.args.bytes.now c.requires;
  size = refl;
  small = (byte 0, (byte 1, (byte 2, (byte 3, (byte 4, (byte 5, (byte 6, (byte 7, tt))))))));
  value = omega (arith, c.from_be_bytes.ensures);
}
