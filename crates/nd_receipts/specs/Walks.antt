-- What is known while the entries of a run are gone through. No public clause but that of `are_dealt` and of `Tables` cites
-- these definitions; the rest serves proofs.
use Rattle.std.specs.Prelude.{◌≡◌, ℕ, suc, ◌+◌, ◌<◌, ◌≤◌, List, ◌∷◌, Some, drop, length, replicate, reverse, slice_get, slice_set}
use Rattle.nd_history.specs.declared.entry.Entry.{Entry}
use Rattle.nd_history.specs.declared.entry.Entry.TheVariants.{Chosen}
use Rattle.nd_receipts.specs.declared.receipt.Receipt.{Receipt}
use Rattle.nd_receipts.specs.declared.receipt.Kind.{Kind}
use Rattle.nd_receipts.specs.declared.tables.Tables.{Tables}
use Rattle.nd_receipts.specs.Dealt.{place_of, marks_of, marks_on, AreApart, AreReceipted, HasWorker}

-- where the table has a worker for a derivation, it was leased last on that worker's place
pub record Knows (places : List (ℕ × ℕ)) (choices : List ℕ) (past : List Entry) : Type 0 where
  pub each : (d w : ℕ) (p : ℕ × ℕ) → slice_get choices d ≡ Some w → slice_get places w ≡ Some p → place_of d past ≡ Some p

-- one more entry keeps it so
pub record Follows (places : List (ℕ × ℕ)) (choices after : List ℕ) (e : Entry) : Type 0 where
  pub each : (past : List Entry) → Knows places choices past → Knows places after (e ∷ past)

-- none of the derivations was leased yet, which the number behind the last worker says
pub record AreUnknown (workers : ℕ) (choices : List ℕ) : Type 0 where
  pub drvs : ℕ
  pub are : choices ≡ replicate drvs workers

-- the next receipt of a worker names this number and kind, and is met
pub record IsMet (rows : List (List Receipt)) (worker index : ℕ) (kind : Kind) (old new : List ℕ) : Type 0 where
  pub row : List Receipt
  pub count : ℕ
  pub receipt : Receipt
  pub row_is : slice_get rows worker ≡ Some row
  pub count_is : slice_get old worker ≡ Some count
  pub next : slice_get row count ≡ Some receipt
  pub index_is : receipt.index ≡ index
  pub kind_is : receipt.kind ≡ kind
  pub after : new ≡ slice_set old worker (count + 1)

pub record AreAllMet (rows : List (List Receipt)) (met : List ℕ) : Type 0 where
  pub each : (k n : ℕ) (row : List Receipt) → slice_get rows k ≡ Some row → slice_get met k ≡ Some n → length row ≤ n

-- .. of the first n workers
pub record AreMetBelow (m : ℕ) (rows : List (List Receipt)) (met : List ℕ) : Type 0 where
  pub each : (k n : ℕ) (row : List Receipt) → suc k ≤ m → slice_get rows k ≡ Some row → slice_get met k ≡ Some n → length row ≤ n

-- what is left of each worker's receipts is what the entries that are left say, the first of which has number i
pub record AreLeft (places : List (ℕ × ℕ)) (rows : List (List Receipt)) (met : List ℕ) (i : ℕ) (past es : List Entry) : Type 0 where
  pub each : (k n : ℕ) (p : ℕ × ℕ) (row : List Receipt) → slice_get places k ≡ Some p → slice_get rows k ≡ Some row → slice_get met k ≡ Some n → marks_of (drop n row) ≡ marks_on p i past es

-- one more entry was gone over
pub record IsDealt (places : List (ℕ × ℕ)) (rows : List (List Receipt)) (i : ℕ) (e : Entry) (choices after : List ℕ) (met now : List ℕ) : Type 0 where
  pub follows : Follows places choices after e
  pub left : (past es : List Entry) → Knows places choices past → AreLeft places rows now (i + 1) (e ∷ past) es → AreLeft places rows met i past (e ∷ es)
  pub has : (past : List Entry) → Knows places choices past → HasWorker places past e

-- .. between these tables
abbrev pub IsDealtBetween : Tables → Tables → List (ℕ × ℕ) → List (List Receipt) → ℕ → Entry → Type 0
IsDealtBetween old new places rows i e = IsDealt places rows i e old.choices.items new.choices.items old.met.items new.met.items

-- ---- when the walk answers no

-- none of the workers is on this place
pub record IsNoPlace (places : List (ℕ × ℕ)) (m s : ℕ) : Type 0 where
  pub each : (worker : ℕ) → slice_get places worker ≡ Some (m, s) → ⊥

-- .. none of the first n
pub record IsNoPlaceBelow (n : ℕ) (places : List (ℕ × ℕ)) (m s : ℕ) : Type 0 where
  pub each : (worker : ℕ) → worker < n → slice_get places worker ≡ Some (m, s) → ⊥

-- the entry is a lease on the place of none
pub record IsNobodys (places : List (ℕ × ℕ)) (e : Entry) : Type 0 where
  pub drv : ℕ
  pub machine : ℕ
  pub slot : ℕ
  pub is : e ≡ Chosen drv machine slot
  pub nobody : IsNoPlace places machine slot

-- the table has a place for each derivation that these entries lease
pub record AreWithin (drvs : ℕ) (es : List Entry) : Type 0 where
  pub each : (k d m s : ℕ) → slice_get es k ≡ Some (Chosen d m s) → d < drvs

-- the table knows the worker on whose place a derivation was leased last
pub record Tracks (places : List (ℕ × ℕ)) (choices : List ℕ) (past : List Entry) : Type 0 where
  pub each : (d w : ℕ) (p : ℕ × ℕ) → place_of d past ≡ Some p → slice_get places w ≡ Some p → slice_get choices d ≡ Some w

-- one more entry keeps it so
pub record TracksOn (places : List (ℕ × ℕ)) (choices after : List ℕ) (e : Entry) : Type 0 where
  pub long : length after ≡ length choices
  pub each : (past : List Entry) → AreApart places → ((d m s : ℕ) → e ≡ Chosen d m s → d < length choices) → Tracks places choices past → Tracks places after (e ∷ past)

-- the next receipt of a worker doesn't name this number and kind
pub record IsUnmet (rows : List (List Receipt)) (worker index : ℕ) (kind : Kind) (met : List ℕ) : Type 0 where
  pub each : (row : List Receipt) (count : ℕ) (r : Receipt) → slice_get rows worker ≡ Some row → slice_get met worker ≡ Some count → slice_get row count ≡ Some r → r.index ≡ index → r.kind ≡ kind → ⊥

-- what is left of the receipts before an entry that was gone over is left of them behind it
pub record IsDealtOn (places : List (ℕ × ℕ)) (rows : List (List Receipt)) (i : ℕ) (e : Entry) (choices after : List ℕ) (met now : List ℕ) : Type 0 where
  pub long : length now ≡ length met
  pub tracks : TracksOn places choices after e
  pub left : (past es : List Entry) → AreApart places → Tracks places choices past → HasWorker places past e → AreLeft places rows met i past (e ∷ es) → AreLeft places rows now (i + 1) (e ∷ past) es

abbrev pub IsDealtOnBetween : Tables → Tables → List (ℕ × ℕ) → List (List Receipt) → ℕ → Entry → Type 0
IsDealtOnBetween old new places rows i e = IsDealtOn places rows i e old.choices.items new.choices.items old.met.items new.met.items

-- the entry isn't the next of its worker's receipts, or has no worker
pub record IsUndealt (places : List (ℕ × ℕ)) (rows : List (List Receipt)) (i : ℕ) (e : Entry) (choices met : List ℕ) : Type 0 where
  pub each : (past es : List Entry) → length rows ≡ length places → length met ≡ length places → Tracks places choices past → HasWorker places past e → AreLeft places rows met i past (e ∷ es) → ⊥

-- some receipt was not met
pub record AreUnmet (rows : List (List Receipt)) (met : List ℕ) : Type 0 where
  pub each : length met ≡ length rows → AreAllMet rows met → ⊥

-- the receipts of the workers aren't those of the entries behind `old`, where all derivations that these name are among so many
abbrev pub AreUndealt : ℕ → List (ℕ × ℕ) → ℕ → List Entry → List Entry → List (List Receipt) → Type 0
AreUndealt drvs places opening old new rows = AreWithin drvs old → AreWithin drvs new → AreReceipted places opening (reverse old) new rows → ⊥
