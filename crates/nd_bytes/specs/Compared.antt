-- How byte strings compare: byte by byte, a proper prefix first. The laws stand here for the types that compare by them.
-- Public clauses cite this.
use Rattle.std.specs.Prelude.{◌≡◌, ℕ, Bool, true, List, nat_eq}
use Rattle.std.specs.Cmp.Lexicographic.{pointwise, slice_cmp}
use Rattle.std.specs.Ordering.{nat_cmp, eq_by_cmp, as_partial_cmp}
use Rattle.std.specs.declared.cmp.Ordering.{Ordering}
use Rattle.std.specs.Hash.{HashWrites, slice, u8}
use Rattle.std.specs.Cmp.{IsEquivalence, IsPartialEquivalence, IsTotalOrder, IsPartialOrder, partial_equiv_from_equiv}
use Rattle.std.specs.Cmp.Lexicographic.{texts_ties, texts_po}
use Rattle.std.proofs.Common.{ap, refl}
use Rattle.std.proofs.lemmas.Cmp.{nat_list_eq_equiv, nat_list_cmp_total}
use Rattle.std.proofs.lemmas.Slice.Eq.{slice_eq-Decides}
use Rattle.std.proofs.lemmas.Bool.Decides.{Decides-eqb}

-- the same bytes
abbrev pub bytes_eq : List ℕ → List ℕ → Bool
bytes_eq = pointwise nat_eq

-- byte order: the first byte that differs decides, and a proper prefix comes first
abbrev pub bytes_cmp : List ℕ → List ℕ → Ordering
bytes_cmp = slice_cmp nat_cmp

-- what a byte string feeds a hasher
abbrev pub bytes_input : List ℕ → HashWrites
bytes_input = slice u8

pub bytes_equal : IsEquivalence bytes_eq
bytes_equal = nat_list_eq_equiv

pub bytes_partly_equal : IsPartialEquivalence bytes_eq
bytes_partly_equal = partial_equiv_from_equiv nat_list_eq_equiv

pub bytes_ordered : IsTotalOrder bytes_cmp
bytes_ordered = nat_list_cmp_total

pub bytes_partly_ordered : IsPartialOrder bytes_eq (as_partial_cmp bytes_cmp)
bytes_partly_ordered = texts_po

-- equal exactly where neither comes first
pub bytes_ties : (xs ys : List ℕ) → bytes_eq xs ys ≡ eq_by_cmp bytes_cmp xs ys
bytes_ties = texts_ties

-- equal byte strings are one list
pub bytes_same : (xs ys : List ℕ) → bytes_eq xs ys ≡ true → xs ≡ ys
bytes_same xs ys = (slice_eq-Decides Decides-eqb xs ys (bytes_eq xs ys) refl).0

-- equal byte strings hash alike
pub bytes_alike : (xs ys : List ℕ) → bytes_eq xs ys ≡ true → bytes_input xs ≡ bytes_input ys
bytes_alike xs ys same = ap bytes_input (bytes_same xs ys same)
