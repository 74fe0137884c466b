-- Store paths, as lists of bytes.
-- Source: the Nix Reference Manual, "Store Path" and "Store Path Specification": the store directory, a digest of
-- 32 characters in Nix's base 32, a dash and a name. That a name may begin with a dot is this project's own choice.
-- Public clauses cite this.
use Rattle.std.specs.Prelude.{◌≡◌, ℕ, Bool, false, ◌&&◌, ◌||◌, ◌==◌, nat_le, nat_eq, List, [], ◌∷◌, ◌++◌, length, take, drop, codes}
use Rattle.std.specs.declared.cmp.Ordering.{Ordering}
use Rattle.std.specs.Ordering.{nat_cmp}
use Rattle.std.specs.Cmp.Lexicographic.{pointwise, slice_cmp}
use Rattle.std.specs.Hash.{HashWrites}
use Rattle.std.specs.List.{list_all, list_any, ends_with}

-- the store directory and its slash
abbrev pub store_directory : List ℕ
store_directory = codes "/nix/store/"

-- the digits of Nix's base 32 by their values: no `e`, `o`, `t` and `u`
abbrev pub alphabet : List ℕ
alphabet = codes "0123456789abcdfghijklmnpqrsvwxyz"

-- one of these digits
unfoldable pub is_digest_byte : ℕ → Bool
is_digest_byte b = list_any (λ digit. digit == b) alphabet

-- the bytes begin with 32 characters of that alphabet
abbrev pub has_digest : List ℕ → Bool
has_digest bytes = nat_le 32 (length bytes) && list_all is_digest_byte (take 32 bytes)

-- an ASCII letter, a digit, or one of `+ - . _ ? =`
abbrev pub is_name_byte : ℕ → Bool
is_name_byte b =
    (nat_le 48 b && nat_le b 57) || (nat_le 65 b && nat_le b 90) || (nat_le 97 b && nat_le b 122)
    || (b == 43) || (b == 45) || (b == 46) || (b == 95) || (b == 63) || (b == 61)

-- 1 to 211 such bytes
abbrev pub is_name : List ℕ → Bool
is_name bytes = nat_le 1 (length bytes) && nat_le (length bytes) 211 && list_all is_name_byte bytes

-- the dash and a name behind it
abbrev pub is_dash_and_name : List ℕ → Bool
is_dash_and_name [] = false
is_dash_and_name (b ∷ bytes) = (b == 45) && is_name bytes

-- a store path with this name: the store directory, a digest of 32 characters, a dash and the name
pub record IsNameOf (path name : List ℕ) : Type 0 where
  pub digest : List ℕ
  pub text : path ≡ store_directory ++ digest ++ 45 ∷ name
  pub size : length digest ≡ 32

-- the same as a function: what stands behind the 11 bytes of the store directory, the 32 of the digest and the dash
abbrev pub name_of : List ℕ → List ℕ
name_of path = drop 44 path

-- whether a name is that of a derivation: it ends in `.drv`
abbrev pub ends_in_drv : List ℕ → Bool
ends_in_drv name = ends_with nat_eq name (codes ".drv")

-- whether a store path is that of a derivation
abbrev pub is_drv_path : List ℕ → Bool
is_drv_path path = ends_in_drv (name_of path)

-- the same bytes
abbrev pub path_eq : List ℕ → List ℕ → Bool
path_eq = pointwise nat_eq

-- byte order: the first byte that differs decides, and a proper prefix comes first
abbrev pub path_cmp : List ℕ → List ℕ → Ordering
path_cmp = slice_cmp nat_cmp

-- what a store path feeds a hasher: all its bytes in one piece
abbrev pub path_input : List ℕ → HashWrites
path_input path = path ∷ []
