-- Reading digits one after another.
use Rattle.std.proofs.Common.{◌≡◌, ◌+◌, ◌-◌, ◌*◌, ◌<◌, ◌≤◌, ℕ, suc, List, [], ◌∷◌, length, drop, get_or, None, ap, sym, ◌∙◌, arith}
use Rattle.std.proofs.Math.Seq.{drop-cons}
use Rattle.nd_bytes.specs.Decimal.{digits, at_most}

-- a number that has passed the limit stays above it
pub over : (limit n : ℕ) (bytes : List ℕ) → limit < n → at_most limit (digits n bytes) ≡ None
over limit n [] above = grind arith
over limit n (b ∷ bytes) above = grind (arith, over limit (n * 10 + (b - 48)) bytes)

-- one more digit
more : (n b : ℕ) (bytes : List ℕ) → 48 ≤ b → b ≤ 57 → digits n (b ∷ bytes) ≡ digits (n * 10 + (b - 48)) bytes
more n b bytes low high = grind arith

-- one more digit takes the number past the limit, and the whole is refused
pub refused : (limit n : ℕ) (bytes : List ℕ) (i : ℕ) → i < length bytes → 48 ≤ get_or bytes i 0 → get_or bytes i 0 ≤ 57 → limit < n * 10 + (get_or bytes i 0 - 48) → digits n (drop i bytes) ≡ digits 0 bytes → at_most limit (digits 0 bytes) ≡ None
refused limit n bytes i within low high above same =
    ap (at_most limit) (sym same ∙ ap (digits n) (drop-cons bytes i 0 within) ∙ more n (get_or bytes i 0) (drop (suc i) bytes) low high) ∙ over limit (n * 10 + (get_or bytes i 0 - 48)) (drop (suc i) bytes) above
