-- A row of flags in words of 64 bits.
-- No public clause cites this: it says what a type keeps.
use Rattle.std.specs.Prelude.{◌≡◌, ◌≢◌, cond, ◌<◌, ◌+◌, ◌/◌, ◌%◌, ◌==◌, ℕ, Bool, true, List, length, map, slice_index}
use Rattle.std.specs.List.{range_with_len}
use Rattle.std.specs.Int.{bit_at}

-- whether the flag at i is up
abbrev pub is_up : List ℕ → ℕ → Bool
is_up words i = bit_at (slice_index words (i / 64)) (i % 64) == 1

-- the first `len` flags
unfoldable pub flags_of : List ℕ → ℕ → List Bool
flags_of words len = map (is_up words) (range_with_len 0 len)

-- there is a word for each flag and for the place behind the last, and no bit behind the last flag is up
pub record AreWords (words : List ℕ) (len : ℕ) : Type 0 where
  pub sized : length words ≡ len / 64 + 1
  pub within : (i : ℕ) → is_up words i ≡ true → i < len

-- the word with one of its bits put to 1 or 0
pub record IsWithBit (old new bit : ℕ) (up : Bool) : Type 0 where
  pub put : bit_at new bit ≡ cond up 1 0
  pub others : (i : ℕ) → i < 64 → i ≢ bit → bit_at new i ≡ bit_at old i
