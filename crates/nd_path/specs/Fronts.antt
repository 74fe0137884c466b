-- The first bytes of a list as a number, by which lists are told apart at once.
-- No public clause cites this: it serves the comparison of store paths alone.
use Rattle.std.specs.Prelude.{◌≡◌, ℕ, ◌+◌, ◌*◌, ◌<◌, List, [], ◌∷◌, ◌++◌, length, drop}

-- what stands behind the 11 bytes of the store directory
abbrev pub base_of : List ℕ → List ℕ
base_of path = drop 11 path

-- each is a byte
abbrev pub AreBytes : List ℕ → Type 0
AreBytes [] = Unit {0}
AreBytes (b ∷ bytes) = (b < 256) × AreBytes bytes

-- the number that some bytes spell behind `high`, the first byte the highest
abbrev pub number_behind : ℕ → List ℕ → ℕ
number_behind high [] = high
number_behind high (b ∷ bytes) = number_behind (high * 256 + b) bytes

-- the number is that of the first eight of the bytes
pub record IsFrontOf (bytes : List ℕ) (number : ℕ) : Type 0 where
  pub front : List ℕ
  pub rest : List ℕ
  pub text : bytes ≡ front ++ rest
  pub size : length front ≡ 8
  pub small : AreBytes front
  pub value : number ≡ number_behind 0 front
