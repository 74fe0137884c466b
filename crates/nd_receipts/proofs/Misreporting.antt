-- Lemmas on the references that are kept as wrong.
use Rattle.std.proofs.Common.{◌≡◌, ◌≢◌, ℕ, false, List, Some, ap, arith}
use Rattle.std.specs.Ordering.{nat_cmp}
use Rattle.std.specs.BTreeMap.{Updates, IsUnchanged, is_at}
use Rattle.std.specs.Map.{lookup}
use Rattle.nd_receipts.specs.declared.judging.Misreports.{Misreports}
use Rattle.nd_receipts.specs.Judged.{HasKept, KeepsSame}

-- another number is no equal key
other_key : (k q : ℕ) → (q ≡ k → ⊥) → is_at (nat_cmp k) q ≡ false
other_key k q apart = let ne : q ≢ k = apart in grind (arith)

pub kept : (old new : Misreports) (index : ℕ) (refs : List (List (List ℕ))) → Updates nat_cmp old.known new.known index (Some refs) → HasKept old new index refs
kept old new index refs h = record {
  here = h.1;
  others = λ other apart. h.2 other (other_key index other apart);
}

pub unkept : (old new : Misreports) → IsUnchanged old.known new.known → KeepsSame old new
unkept old new same = record { each = λ index. ap (λ entries. lookup (is_at (nat_cmp index)) entries) same }
