-- How long a store path is at least.
-- No public clause cites this: it serves proofs alone.
use Rattle.std.specs.Prelude.{◌≡◌, ℕ, ◌<◌, ◌≤◌, Bool, true, false, List, [], ◌∷◌, length, drop, nat_eq, Option, Some, None, if◌then◌else◌, refl}
use Rattle.std.proofs.Common.{arith, length-drop}
use Rattle.std.specs.List.{starts_with}
use Rattle.nd_path.specs.declared.path_error.PathError.{PathError}
use Rattle.nd_path.specs.declared.path_error.PathError.TheVariants.{Prefix, Digest, Name}
use Rattle.nd_path.specs.StorePath.{store_directory, has_digest, is_dash_and_name}
use Rattle.nd_path.specs.Refusals.{IsPath, fault_behind_directory, fault_behind_digest}

-- a choice between no fault and one has none only where its test passes
pub no_fault : (b : Bool) (rest : Option PathError) (e : PathError) → (if b then rest else Some e) ≡ None → (b ≡ true) × (rest ≡ None)
no_fault true rest e h = (refl, h)
no_fault false rest e h = cc

not_empty : (bytes : List ℕ) → is_dash_and_name bytes ≡ true → 0 < length bytes
not_empty [] h = cc
not_empty (b ∷ bytes) h = omega arith

long_by : (bytes : List ℕ) → 0 < length (drop 32 (drop 11 bytes)) → 44 ≤ length bytes
long_by bytes some = omega (arith, length-drop 32 (drop 11 bytes), length-drop 11 bytes)

pub path_long : (bytes : List ℕ) → IsPath bytes → 44 ≤ length bytes
path_long bytes h =
    long_by bytes (not_empty (drop 32 (drop 11 bytes))
    (no_fault (is_dash_and_name (drop 32 (drop 11 bytes))) None Name
    (no_fault (has_digest (drop 11 bytes)) (fault_behind_digest (drop 32 (drop 11 bytes))) Digest
    (no_fault (starts_with nat_eq bytes store_directory) (fault_behind_directory (drop 11 bytes)) Prefix h).1).1).0)
