-- What a journal holds, where that is known, and what an append and a sync do to it. Public clauses cite this. This project's own choice.
use Rattle.std.specs.Prelude.{◌≡◌, ◌≤◌, ℕ, List, ◌++◌, length, Option, Some, None}
use Rattle.nd_journal.specs.WholeLines.{IsBeginning}

-- its bytes, and how many of them, from the first on, are durable
pub record Stored : Type 0 where
  pub bytes : List ℕ
  pub durable : ℕ

-- a journal with these bytes, of which so many are durable
abbrev pub stored_with : List ℕ → ℕ → Stored
stored_with bytes durable = record { bytes = bytes; durable = durable }

-- these bytes stand behind those that it held. A journal that doesn't say what it holds doesn't say it later on
abbrev pub IsAppended : Option Stored → Option Stored → List ℕ → Type 0
IsAppended None new bytes = new ≡ None
IsAppended (Some old) new bytes = new ≡ Some (record { bytes = old.bytes ++ bytes; durable = old.durable })

-- all that it held is durable
abbrev pub IsSynced : Option Stored → Option Stored → Type 0
IsSynced None new = new ≡ None
IsSynced (Some old) new = new ≡ Some (record { bytes = old.bytes; durable = length old.bytes })

-- these bytes, or a beginning of them, stand behind those that it held, and what was durable still is
pub record HasPart (old new : Stored) (bytes : List ℕ) : Type 0 where
  pub part : List ℕ
  pub begins : IsBeginning part bytes
  pub held : new.bytes ≡ old.bytes ++ part
  pub durable : old.durable ≤ new.durable

-- .. as an append leaves it that was refused
abbrev pub HoldsPart : Option Stored → Option Stored → List ℕ → Type 0
HoldsPart None new bytes = new ≡ None
HoldsPart (Some old) None bytes = ⊥
HoldsPart (Some old) (Some new) bytes = HasPart old new bytes

-- it has the bytes that it held, and what was durable still is
pub record HasSame (old new : Stored) : Type 0 where
  pub bytes : new.bytes ≡ old.bytes
  pub durable : old.durable ≤ new.durable

-- .. as a sync leaves it that was refused
abbrev pub IsUnsynced : Option Stored → Option Stored → Type 0
IsUnsynced None new = new ≡ None
IsUnsynced (Some old) None = ⊥
IsUnsynced (Some old) (Some new) = HasSame old new
