-- What rows of receipts say of the entries of a run. The laws of this crate cite it. The entries `new` are those since the run
-- began, oldest first, and the first has the number `opening`; `past` are those before, newest first. This project's own choice.
use Rattle.std.specs.Prelude.{◌≡◌, ℕ, ◌+◌, ◌<◌, List, ◌++◌, reverse, take, slice_get, Some}
use Rattle.nd_history.specs.declared.entry.Entry.{Entry}
use Rattle.nd_receipts.specs.declared.receipt.Receipt.{Receipt}
use Rattle.nd_receipts.specs.declared.receipt.Kind.{Kind}
use Rattle.nd_receipts.specs.Dealt.{place_of, made_as, AreApart, AreReceipted}

-- the numbers rise from receipt to receipt
pub record AreRising (row : List Receipt) : Type 0 where
  pub each : (j k : ℕ) (r q : Receipt) → j < k → slice_get row j ≡ Some r → slice_get row k ≡ Some q → r.index < q.index

-- the receipt names an entry of its kind that a worker makes, and whose lease is on place p
pub record Names (p : ℕ × ℕ) (opening : ℕ) (past new : List Entry) (r : Receipt) : Type 0 where
  pub before : ℕ
  pub entry : Entry
  pub drv : ℕ
  pub number : r.index ≡ opening + before
  pub there : slice_get new before ≡ Some entry
  pub made : made_as entry ≡ Some (drv, r.kind)
  pub place : place_of drv (reverse (take before new) ++ past) ≡ Some p

-- one of the rows has a receipt with this number and kind
pub record HasReceipt (rows : List (List Receipt)) (index : ℕ) (kind : Kind) : Type 0 where
  pub worker : ℕ
  pub turn : ℕ
  pub row : List Receipt
  pub receipt : Receipt
  pub row_is : slice_get rows worker ≡ Some row
  pub there : slice_get row turn ≡ Some receipt
  pub index_is : receipt.index ≡ index
  pub kind_is : receipt.kind ≡ kind

-- the numbers rise in each row
abbrev pub RowsRise : Type 0
RowsRise = (places : List (ℕ × ℕ)) (opening : ℕ) (past new : List Entry) (rows : List (List Receipt)) (worker : ℕ) (row : List Receipt) → AreReceipted places opening past new rows → slice_get rows worker ≡ Some row → AreRising row

-- each receipt of a row names an entry of its kind whose lease is on the row's place
abbrev pub ReceiptsName : Type 0
ReceiptsName = (places : List (ℕ × ℕ)) (opening : ℕ) (past new : List Entry) (rows : List (List Receipt)) (worker turn : ℕ) (p : ℕ × ℕ) (row : List Receipt) (r : Receipt) → AreReceipted places opening past new rows → slice_get places worker ≡ Some p → slice_get rows worker ≡ Some row → slice_get row turn ≡ Some r → Names p opening past new r

-- where no two workers are on one place, a number stands in one row alone
abbrev pub NumbersAreOnce : Type 0
NumbersAreOnce = (places : List (ℕ × ℕ)) (opening : ℕ) (past new : List Entry) (rows : List (List Receipt)) (j k m n : ℕ) (row other : List Receipt) (r q : Receipt) → AreApart places → AreReceipted places opening past new rows → slice_get rows j ≡ Some row → slice_get rows k ≡ Some other → slice_get row m ≡ Some r → slice_get other n ≡ Some q → r.index ≡ q.index → (j ≡ k) × (m ≡ n)

-- each entry that a worker makes has a receipt
abbrev pub EntriesHaveReceipts : Type 0
EntriesHaveReceipts = (places : List (ℕ × ℕ)) (opening : ℕ) (past new : List Entry) (rows : List (List Receipt)) (n d : ℕ) (e : Entry) (kind : Kind) → AreReceipted places opening past new rows → slice_get new n ≡ Some e → made_as e ≡ Some (d, kind) → HasReceipt rows (opening + n) kind
