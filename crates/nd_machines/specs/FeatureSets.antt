-- Sets of byte strings, as strictly rising lists: the systems and the features of a machine
-- (Nix Reference Manual, setting `builders`).
-- Public clauses cite this, but `sets_eq-Decides` and `sets_same` serve proofs alone.
use Rattle.std.specs.Prelude.{◌≡◌, ◌↔◌, ◌==◌, ℕ, Bool, true, not, List, length, filter, Contains}
use Rattle.std.specs.List.{slice_split}
use Rattle.std.specs.Bool.{Decides}
use Rattle.std.specs.Cmp.{IsEquivalence, IsPartialEquivalence, IsTotalOrder, IsPartialOrder, partial_equiv_from_equiv, partial_order_from_agreeing_total}
use Rattle.std.specs.Cmp.Lexicographic.{pointwise, slice_cmp, lists_ties}
use Rattle.std.specs.Ordering.{eq_by_cmp, as_partial_cmp}
use Rattle.std.specs.declared.cmp.Ordering.{Ordering}
use Rattle.std.specs.List.Sorted.{IsStrictlySortedBy}
use Rattle.std.proofs.Common.{refl}
use Rattle.std.proofs.lemmas.Cmp.{lists_equiv, lists_total}
use Rattle.std.proofs.lemmas.Slice.Eq.{slice_eq-Decides, bytes_eq-Decides}
use Rattle.nd_bytes.specs.Compared.{bytes_eq, bytes_cmp, bytes_equal, bytes_ordered, bytes_ties}
use Rattle.nd_machines.specs.Insertion.{inserted, inserted_rises, inserted_same}

-- each item comes before those after it, in byte order
abbrev pub IsRising : List (List ℕ) → Type 0
IsRising = IsStrictlySortedBy bytes_cmp

-- a set of the items of a list: it rises, and has the same members
pub record IsSetOf (items set : List (List ℕ)) : Type 0 where
  pub rising : IsRising set
  pub same : (item : List ℕ) → Contains set item ↔ Contains items item

pub record HasSet (items : List (List ℕ)) : Type 0 where
  pub set : List (List ℕ)
  pub is : IsSetOf items set

-- each list has a set
pub has_set : (items : List (List ℕ)) → HasSet items
has_set items = record { set = inserted items; is = record { rising = inserted_rises items; same = inserted_same items } }

-- the set of the items of a list
unfoldable pub set_of : List (List ℕ) → List (List ℕ)
set_of items = (has_set items).set

-- it is the only one
abbrev pub HasOneSet : Type 0
HasOneSet = (items set : List (List ℕ)) → IsSetOf items set ↔ (set ≡ set_of items)

-- ---- lists as they stand in a text

-- the parts that are not empty
abbrev pub filled : {X : Type 0} → List (List X) → List (List X)
filled parts = filter (λ part. not (length part == 0)) parts

-- the set of a list that is cut at commas (44), without its empty items
abbrev pub listed : List ℕ → List (List ℕ)
listed list = set_of (filled (slice_split (λ b. b == 44) list))

-- ---- how sets compare: item by item, a proper prefix first

-- the same items
abbrev pub sets_eq : List (List ℕ) → List (List ℕ) → Bool
sets_eq = pointwise bytes_eq

-- the first item that differs decides
abbrev pub sets_cmp : List (List ℕ) → List (List ℕ) → Ordering
sets_cmp = slice_cmp bytes_cmp

pub sets_equal : IsEquivalence sets_eq
sets_equal = lists_equiv bytes_equal

pub sets_partly_equal : IsPartialEquivalence sets_eq
sets_partly_equal = partial_equiv_from_equiv sets_equal

pub sets_ordered : IsTotalOrder sets_cmp
sets_ordered = lists_total bytes_ordered

-- equal exactly where neither comes first
pub sets_ties : (xs ys : List (List ℕ)) → sets_eq xs ys ≡ eq_by_cmp sets_cmp xs ys
sets_ties = lists_ties bytes_cmp bytes_ties

pub sets_partly_ordered : IsPartialOrder sets_eq (as_partial_cmp sets_cmp)
sets_partly_ordered = partial_order_from_agreeing_total sets_cmp sets_ordered (λ x y. refl) sets_ties

-- two sets are equal exactly where they are one list
pub sets_eq-Decides : (xs ys : List (List ℕ)) → Decides (sets_eq xs ys) (xs ≡ ys)
sets_eq-Decides xs ys = slice_eq-Decides bytes_eq-Decides xs ys (sets_eq xs ys) refl

pub sets_same : (xs ys : List (List ℕ)) → sets_eq xs ys ≡ true → xs ≡ ys
sets_same xs ys = (sets_eq-Decides xs ys).0
