-- Bytes that a string spells as they are, by their places.
-- No public clause cites this: it serves private clauses alone.
use Rattle.std.specs.Prelude.{◌≡◌, ◌≢◌, ◌↔◌, ℕ, ◌+◌, ◌<◌, List, None, slice_index}
use Rattle.std.specs.Int.{bit_at}
use Rattle.nd_aterm.specs.Spelling.{letter_of}

-- none of the first n bytes has an escape
pub record ArePlainTo (bytes : List ℕ) (n : ℕ) : Type 0 where
  pub each : (k : ℕ) → k < n → letter_of (slice_index bytes k) ≡ None

-- bit k is set where byte k of 32 is this one
pub record ArePlaces (byte : ℕ) (block : List ℕ) (bits : ℕ) : Type 0 where
  pub each : (k : ℕ) → (bit_at bits k ≡ 1) ↔ ((k < 32) × (slice_index block k ≡ byte))

-- bit k is set where byte k of 32 has an escape
pub record AreEscapes (block : List ℕ) (bits : ℕ) : Type 0 where
  pub each : (k : ℕ) → (bit_at bits k ≡ 1) ↔ ((k < 32) × (letter_of (slice_index block k) ≢ None))

-- bit k is set where the byte k places on has an escape and stands before `end`
pub record AreEscapesFrom (bytes : List ℕ) (place end bits : ℕ) : Type 0 where
  pub each : (k : ℕ) → (bit_at bits k ≡ 1) ↔ ((place + k < end) × (letter_of (slice_index bytes (place + k)) ≢ None))
