-- A book of entries, as contracts see it.
-- Public clauses cite this.
use Rattle.std.specs.Prelude.{◌≡◌, ℕ, ◌+◌, ◌<◌, ◌^◌, false, List, reverse, slice_index_or}
use Rattle.nd_history.specs.declared.entry.Entry.{Entry}
use Rattle.nd_history.specs.declared.entry.Entry.TheVariants.{Chosen, NoBuilder, Started, Down, Built, Failed, Stop, Drain, Enable}
use Rattle.nd_history.specs.History.{load, is_leased}
use Rattle.nd_history.specs.Legal.{IsLeastFree}

pub record Recorded : Type 0 where
  -- the entries, oldest first
  pub entries : List Entry
  -- how many more can be recorded without memory
  pub room : ℕ
  -- the numbers of derivations, and of machines with the local one
  pub drvs : ℕ
  pub machines : ℕ
  -- for each machine how many slots the tables have
  pub rooms : List ℕ

-- slot s of machine m is the least free one, and derivation d has no live lease
pub record IsSeatFor (book : Recorded) (d m s : ℕ) : Type 0 where
  pub drv : d < book.drvs
  pub machine : m < book.machines
  pub unleased : is_leased d (reverse book.entries) ≡ false
  pub slot : IsLeastFree (reverse book.entries) m s
  pub light : load m (reverse book.entries) + 1 < 2 ^ 32

-- .. and the tables have the slot
pub record HasSeatFor (book : Recorded) (d m s : ℕ) : Type 0 where
  pub seat : IsSeatFor book d m s
  pub room : s < slice_index_or book.rooms m 0

-- the entry can be recorded where the tables have the slots for it
abbrev pub MayRecord : Recorded → Entry → Type 0
MayRecord book (Chosen d m s) = IsSeatFor book d m s
MayRecord book (NoBuilder d) = Unit {0}
MayRecord book (Started d paths) = Unit {0}
MayRecord book (Down d) = Unit {0}
MayRecord book (Built d refs) = Unit {0}
MayRecord book (Failed d why) = Unit {0}
MayRecord book Stop = Unit {0}
MayRecord book (Drain m) = Unit {0}
MayRecord book (Enable m) = Unit {0}

-- the entry can be recorded
abbrev pub CanRecord : Recorded → Entry → Type 0
CanRecord book (Chosen d m s) = HasSeatFor book d m s
CanRecord book (NoBuilder d) = Unit {0}
CanRecord book (Started d paths) = Unit {0}
CanRecord book (Down d) = Unit {0}
CanRecord book (Built d refs) = Unit {0}
CanRecord book (Failed d why) = Unit {0}
CanRecord book Stop = Unit {0}
CanRecord book (Drain m) = Unit {0}
CanRecord book (Enable m) = Unit {0}
