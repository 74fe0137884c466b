-- A store path's parts: base 32 writes digits, and a digest and a name make a store path.
use Rattle.std.proofs.Common.{◌≡◌, ℕ, ◌-◌, ◌*◌, ◌<◌, ◌≤◌, true, zero, suc, List, [], ◌∷◌, ◌++◌, length, map, get_or, take, drop, refl, arith, length-append, Bool, subst}
use Rattle.std.specs.List.{list_all, range_with_len}
use Rattle.std.specs.Cmp.{first_so, second_so}
use Rattle.std.proofs.lemmas.Bool.{le-leb}
use Rattle.std.proofs.Math.Seq.{take-append_seam, drop-append_seam}
use Rattle.std.proofs.lemmas.List.FromFn.{fill_by_all}
use Rattle.nd_path.specs.StorePath.{alphabet, is_digest_byte, is_name, has_digest, store_directory}
use Rattle.nd_path.specs.Refusals.{IsPath}
use Rattle.nd_path.specs.Encoding.{five_bits_of, character_of, base32_of, folded_byte_of, fold_of}

-- an item of a list whose items all pass passes
pub passes_at : (p : ℕ → Bool) (xs : List ℕ) (n : ℕ) → list_all p xs ≡ true → n < length xs → p (get_or xs n 0) ≡ true
passes_at p [] n h lt = absurd (omega arith)
passes_at p (x ∷ xs) zero h lt = first_so (p x) (list_all p xs) h
passes_at p (x ∷ xs) (suc n) h lt = passes_at p xs n (second_so (p x) (list_all p xs) h) (omega arith)

pub passes_map : (p : ℕ → Bool) (f : ℕ → ℕ) → ((k : ℕ) → p (f k) ≡ true) → (xs : List ℕ) → list_all p (map f xs) ≡ true
passes_map p f h [] = refl
passes_map p f h (x ∷ xs) = rw (h x) (passes_map p f h xs)

five_bits_small : (bytes : List ℕ) (n : ℕ) → five_bits_of bytes n < 32
five_bits_small bytes n = omega arith

pub character_passes : (bytes : List ℕ) (k : ℕ) → is_digest_byte (character_of bytes k) ≡ true
unfolding character_of is_digest_byte
character_passes bytes k = passes_at is_digest_byte alphabet (five_bits_of bytes (5 * k)) refl (five_bits_small bytes (5 * k))

-- base 32 writes digits alone
pub base32_passes : (bytes : List ℕ) → list_all is_digest_byte (base32_of bytes) ≡ true
unfolding base32_of
base32_passes bytes = passes_map is_digest_byte (λ i. character_of bytes (31 - i)) (λ i. character_passes bytes (31 - i)) (range_with_len 0 32)

-- 32 digits in front are a digest
front_is_digest : (digest rest : List ℕ) → length digest ≡ 32 → list_all is_digest_byte digest ≡ true → has_digest (digest ++ rest) ≡ true
front_is_digest digest rest size digits =
    let long : 32 ≤ length (digest ++ rest) = simp length-append (omega arith) in
    let front : take 32 (digest ++ rest) ≡ digest = subst (λ (n : ℕ). take n (digest ++ rest) ≡ digest) size (take-append_seam digest rest) in
    rw (le-leb 32 (length (digest ++ rest)) long, front) digits

-- a digest and a name make a store path
pub path_of_parts : (digest name : List ℕ) → length digest ≡ 32 → list_all is_digest_byte digest ≡ true → is_name name ≡ true
    → IsPath (store_directory ++ digest ++ 45 ∷ name)
path_of_parts digest name size digits named =
    let behind : drop 32 (digest ++ 45 ∷ name) ≡ 45 ∷ name = subst (λ (n : ℕ). drop n (digest ++ 45 ∷ name) ≡ 45 ∷ name) size (drop-append_seam digest (45 ∷ name)) in
    rw (front_is_digest digest (45 ∷ name) size digits, behind, named) refl

-- 32 characters that are those of base 32 are its text
pub base32_from_characters : (bytes text : List ℕ) → length text ≡ 32 → ((k : ℕ) → k < 32 → get_or text k 0 ≡ character_of bytes (31 - k)) → text ≡ base32_of bytes
unfolding base32_of
base32_from_characters bytes text size each = fill_by_all (λ i. character_of bytes (31 - i)) text 32 0 size each

-- 20 bytes that are those of a folded digest are it
pub fold_from_bytes : (digest folded : List ℕ) → length folded ≡ 20 → ((k : ℕ) → k < 20 → get_or folded k 0 ≡ folded_byte_of digest k) → folded ≡ fold_of digest
unfolding fold_of
fold_from_bytes digest folded size each = fill_by_all (folded_byte_of digest) folded 20 0 size each
