-- The digest of a store path: a SHA-256 digest folded to 20 bytes and written in Nix's base 32.
-- Source: the Nix Reference Manual, "Store Path Specification", and "Nix32 encoding" there; Dolstra's thesis (2006), section 5.1.
-- Public clauses cite this.
use Rattle.std.specs.Prelude.{ℕ, ◌+◌, ◌-◌, ◌*◌, ◌/◌, ◌%◌, ◌^◌, ◌==◌, List, length, map, filter, fold, slice_index, bit_xor}
use Rattle.std.specs.List.{range_with_len}
use Rattle.nd_path.specs.StorePath.{alphabet}

-- bit n of the bytes: bit 0 is the lowest bit of byte 0
abbrev pub bit_of : List ℕ → ℕ → ℕ
bit_of bytes n = (slice_index bytes (n / 8) / 2 ^ (n % 8)) % 2

-- the number in the five bits that begin at bit n, the lowest first; bits past the end are 0
abbrev pub five_bits_of : List ℕ → ℕ → ℕ
five_bits_of bytes n =
    bit_of bytes n + 2 * bit_of bytes (n + 1) + 4 * bit_of bytes (n + 2) + 8 * bit_of bytes (n + 3) + 16 * bit_of bytes (n + 4)

-- character k counted from the right, from 0: the digit of the five bits that begin at bit 5 k
unfoldable pub character_of : List ℕ → ℕ → ℕ
character_of bytes k = slice_index alphabet (five_bits_of bytes (5 * k))

-- 20 bytes in base 32: 32 characters, the last one (number 0 from the right) at the end
unfoldable pub base32_of : List ℕ → List ℕ
base32_of bytes = map (λ i. character_of bytes (31 - i)) (range_with_len 0 32)

-- place j of a folded digest: the xor of the bytes whose places leave j when they are divided by 20: j, j + 20, and so on
unfoldable pub folded_byte_of : List ℕ → ℕ → ℕ
folded_byte_of digest j = fold bit_xor 0 (map (slice_index digest) (filter (λ i. i % 20 == j) (range_with_len 0 (length digest))))

-- a digest of 32 bytes folded to 20
unfoldable pub fold_of : List ℕ → List ℕ
fold_of digest = map (folded_byte_of digest) (range_with_len 0 20)
