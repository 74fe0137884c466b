-- What the program reads of an input, and whose fault an answer is. Public clauses cite this.
use Rattle.std.specs.Prelude.{◌≡◌, ℕ, ◌≤◌, ◌+◌, Bool, true, false, List, length, Option, Result, Ok, Err, MatchResult}
use Rattle.std.specs.Io.KnownBytes.{Consumes, IsAtEnd}
use Rattle.nd_cli.specs.declared.fault.CliFault.{CliFault}
use Rattle.nd_cli.specs.declared.fault.CliFault.TheVariants.{Read, Write, Memory}

-- the most bytes that an input may have
abbrev pub limit : ℕ
limit = 67108864

-- the bytes were read: the whole input where they are within the limit, and else one byte too many
pub record ReadsWhole (old new : Option (List ℕ)) (bytes : List ℕ) : Type 0 where
  pub read : Consumes old new bytes
  pub most : length bytes ≤ limit + 1
  pub whole : length bytes ≤ limit → IsAtEnd new

-- why an input wasn't read: the device refused and is marked, or memory ran out
abbrev pub IsReadFault : Bool → CliFault → Type 0
IsReadFault marked Read = marked ≡ true
IsReadFault marked Memory = Unit {0}
IsReadFault marked _ = ⊥

-- it is the reader's fault
abbrev pub is_read_fault : CliFault → Bool
is_read_fault Read = true
is_read_fault _ = false

-- it is the writer's fault
abbrev pub is_write_fault : CliFault → Bool
is_write_fault Write = true
is_write_fault _ = false

-- the answer is the reader's fault
abbrev pub is_read_failure : {A : Type 0} → Result A CliFault → Bool
is_read_failure (Ok _) = false
is_read_failure (Err e) = is_read_fault e

-- the answer is the writer's fault
abbrev pub is_write_failure : {A : Type 0} → Result A CliFault → Bool
is_write_failure (Ok _) = false
is_write_failure (Err e) = is_write_fault e

-- the answer is so, unless memory runs out
abbrev pub OkUnlessMemory : {A : Type 0} → Result A CliFault → (A → Type 0) → Type 0
OkUnlessMemory answer IsSo = MatchResult answer IsSo (λ e. e ≡ Memory)
