-- When a text is refused as a store path, and with which refusal.
-- Public clauses cite this.
use Rattle.std.specs.Prelude.{◌≡◌, ℕ, true, List, ◌∷◌, ◌++◌, length, drop, nat_eq, Option, Some, None, codes, if◌then◌else◌}
use Rattle.std.specs.List.{list_all, starts_with}
use Rattle.nd_path.specs.declared.path_error.PathError.{PathError}
use Rattle.nd_path.specs.declared.path_error.PathError.TheVariants.{Prefix, Digest, Name, Memory}
use Rattle.nd_path.specs.StorePath.{store_directory, is_digest_byte, is_name, has_digest, is_dash_and_name}

-- the first fault of what stands behind the digest
abbrev pub fault_behind_digest : List ℕ → Option PathError
fault_behind_digest bytes = if is_dash_and_name bytes then None else Some Name

-- the first fault of what stands behind the store directory
abbrev pub fault_behind_directory : List ℕ → Option PathError
fault_behind_directory bytes = if has_digest bytes then fault_behind_digest (drop 32 bytes) else Some Digest

-- the first fault of a text, from left to right; a store path has none
abbrev pub fault_of : List ℕ → Option PathError
fault_of bytes = if starts_with nat_eq bytes store_directory then fault_behind_directory (drop 11 bytes) else Some Prefix

-- a store path
abbrev pub IsPath : List ℕ → Type 0
IsPath bytes = fault_of bytes ≡ None

-- a store path, spelled out
pub record IsSpelled (bytes : List ℕ) : Type 0 where
  pub digest : List ℕ
  pub name : List ℕ
  pub text : bytes ≡ store_directory ++ digest ++ 45 ∷ name
  pub size : length digest ≡ 32
  pub digits : list_all is_digest_byte digest ≡ true
  pub named : is_name name ≡ true

-- a text is refused with its first fault, and one that has none, a store path, for want of memory alone
abbrev pub IsRefused : List ℕ → PathError → Type 0
IsRefused bytes Prefix = fault_of bytes ≡ Some Prefix
IsRefused bytes Digest = fault_of bytes ≡ Some Digest
IsRefused bytes Name = fault_of bytes ≡ Some Name
IsRefused bytes Memory = IsPath bytes

-- the plain name of a refusal
abbrev pub refusal_name : PathError → List ℕ
refusal_name Prefix = codes "Prefix"
refusal_name Digest = codes "Digest"
refusal_name Name = codes "Name"
refusal_name Memory = codes "Memory"
