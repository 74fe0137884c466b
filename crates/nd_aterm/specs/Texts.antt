-- What the calls on derivation texts answer.
-- Public clauses cite this.
use Rattle.std.specs.Prelude.{◌≡◌, ℕ, ◌<◌, ◌≤◌, List, length, Result, MatchResult}
use Rattle.nd_aterm.specs.declared.records.Parts.{Parts}
use Rattle.nd_aterm.specs.declared.fault.AtermError.{AtermError}
use Rattle.nd_aterm.specs.declared.fault.AtermError.TheVariants.{TooLong, NotDerivation, Order, Memory}
use Rattle.nd_aterm.specs.Derivations.{Loose, Text}

-- the longest text, in bytes: this project's own choice
abbrev pub text_limit : ℕ
text_limit = 16777216

-- When reading a text answers which refusal.
abbrev pub IsRefused : List ℕ → AtermError → Type 0
IsRefused bytes TooLong = text_limit < length bytes
IsRefused bytes NotDerivation = (length bytes ≤ text_limit) × ((p : Parts) → Loose p bytes → ⊥)
IsRefused bytes Order = (length bytes ≤ text_limit) × ((p : Parts) × Loose p bytes) × ((p : Parts) → Text p bytes → ⊥)
IsRefused bytes Memory = Unit {0}

-- When writing a derivation of these parts answers which refusal.
abbrev pub IsUnwritten : Parts → AtermError → Type 0
IsUnwritten p TooLong = (bytes : List ℕ) → Text p bytes → text_limit < length bytes
IsUnwritten p NotDerivation = ⊥
IsUnwritten p Order = ⊥
IsUnwritten p Memory = Unit {0}

-- the answer is so, unless memory runs out
abbrev pub OkUnlessMemory : {A : Type 0} → Result A AtermError → (A → Type 0) → Type 0
OkUnlessMemory answer IsSo = MatchResult answer IsSo (λ e. e ≡ Memory)
