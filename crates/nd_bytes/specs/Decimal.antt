-- Decimal numbers as they stand in texts.
-- Public clauses cite this.
use Rattle.std.specs.Prelude.{ℕ, Bool, false, ◌+◌, ◌-◌, ◌*◌, ◌==◌, ◌&&◌, nat_le, List, [], ◌∷◌, length, if◌then◌else◌, Option, None, Some}

-- one of `0` to `9`
abbrev pub is_digit : ℕ → Bool
is_digit b = nat_le 48 b && nat_le b 57

-- the number that the digits go on to from `n`, or none where a byte is no digit
abbrev pub digits : ℕ → List ℕ → Option ℕ
digits n [] = Some n
digits n (b ∷ bytes) = if is_digit b then digits (n * 10 + (b - 48)) bytes else None

-- a number that is at most `limit`
abbrev pub at_most : ℕ → Option ℕ → Option ℕ
at_most limit None = None
at_most limit (Some n) = if nat_le n limit then Some n else None

-- the value of one or more digits, at most `limit`
abbrev pub decimal_of : ℕ → List ℕ → Option ℕ
decimal_of limit bytes = if length bytes == 0 then None else at_most limit (digits 0 bytes)

-- a zero stands before further digits
abbrev pub has_needless_zero : List ℕ → Bool
has_needless_zero [] = false
has_needless_zero (b ∷ []) = false
has_needless_zero (b ∷ (next ∷ bytes)) = b == 48
