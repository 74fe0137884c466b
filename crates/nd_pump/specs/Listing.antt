-- How derivations that are ready on a board are listed in a queue.
-- A public clause cites `IsNewsWithin`; the rest serves private ones.
use Rattle.std.specs.Prelude.{◌≡◌, ◌<◌, ℕ, true, false, List, Contains, length, slice_index_or}
use Rattle.nd_flags.specs.Members.{IsMember}
use Rattle.nd_failure.specs.Progress.{Progress, IsReady}
use Rattle.nd_graph.specs.Walks.{inputs_of}
use Rattle.nd_history.specs.declared.entry.Entry.{Entry}
use Rattle.nd_history.specs.declared.entry.Entry.TheVariants.{Chosen, NoBuilder, Started, Down, Built, Failed, Stop, Drain, Enable}
use Rattle.nd_pump.specs.Queues.{Queued}
use Rattle.nd_pump.specs.Turned.{IsNews}

-- the queue has the board's derivations
pub record IsSized (p : Progress) (q : Queued) : Type 0 where
  pub groups : length q.groups ≡ length p.inputs
  pub ready : length q.ready ≡ length p.inputs

-- what was listed is, and nothing else of the queue changed
pub record ListsMore (old new : Queued) : Type 0 where
  pub groups : new.groups ≡ old.groups
  pub parked : new.parked ≡ old.parked
  pub sized : length new.ready ≡ length old.ready
  pub kept : (d : ℕ) → IsMember old.ready d → IsMember new.ready d

-- .. and derivation d is, where it is ready
pub record ListsAlso (p : Progress) (d : ℕ) (old new : Queued) : Type 0 where
  pub more : ListsMore old new
  pub here : IsReady p d → IsMember new.ready d

-- .. and each of the first n is, where it is ready
pub record ListsTo (p : Progress) (n : ℕ) (old new : Queued) : Type 0 where
  pub more : ListsMore old new
  pub below : (d : ℕ) → d < n → IsReady p d → IsMember new.ready d

-- .. and each of these is, where it is ready
pub record ListsEach (p : Progress) (drvs : List ℕ) (old new : Queued) : Type 0 where
  pub more : ListsMore old new
  pub each : (d : ℕ) → Contains drvs d → IsReady p d → IsMember new.ready d

-- .. and each that has derivation c among its inputs is, where it is ready
pub record ListsAbove (p : Progress) (c : ℕ) (old new : Queued) : Type 0 where
  pub more : ListsMore old new
  pub above : (d : ℕ) → Contains (inputs_of p.inputs d) c → IsReady p d → IsMember new.ready d

-- .. and what the entry makes ready is
pub record ListsNews (p : Progress) (e : Entry) (old new : Queued) : Type 0 where
  pub more : ListsMore old new
  pub news : (d : ℕ) → IsNews p e d → IsReady p d → IsMember new.ready d

-- the derivation of an entry by which others may become ready is one of n
abbrev pub IsNewsWithin : ℕ → Entry → Type 0
IsNewsWithin n (Chosen d m s) = Unit {0}
IsNewsWithin n (NoBuilder d) = Unit {0}
IsNewsWithin n (Started d paths) = Unit {0}
IsNewsWithin n (Down d) = d < n
IsNewsWithin n (Built d refs) = d < n
IsNewsWithin n (Failed d why) = Unit {0}
IsNewsWithin n Stop = Unit {0}
IsNewsWithin n (Drain m) = Unit {0}
IsNewsWithin n (Enable m) = Unit {0}

-- of these groups none is passed over, others only as before, and nothing else of the queue changed
pub record Wakes (groups : List ℕ) (old new : Queued) : Type 0 where
  pub groups_same : new.groups ≡ old.groups
  pub ready_same : new.ready ≡ old.ready
  pub sized : length new.parked ≡ length old.parked
  pub fewer : (n : ℕ) → slice_index_or new.parked n false ≡ true → slice_index_or old.parked n false ≡ true
  pub woken : (n : ℕ) → Contains groups n → slice_index_or new.parked n false ≡ false
