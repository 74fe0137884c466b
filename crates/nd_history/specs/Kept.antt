-- What is kept beside the entries, so that questions about leases and machines are answered without a search of the history.
-- The lists of entries of these definitions stand newest first.
-- No public clause cites this: it says what a type keeps, and serves private clauses.
use Rattle.std.specs.Prelude.{◌≡◌, ℕ, ◌+◌, ◌<◌, ◌^◌, None, Bool, true, false, ◌==◌, ◌&&◌, if◌then◌else◌, List, ◌∷◌, length, slice_set, slice_index_or}
use Rattle.std.specs.List.{list_any}
use Rattle.nd_history.specs.declared.entry.Entry.{Entry}
use Rattle.nd_history.specs.declared.entry.Entry.TheVariants.{Chosen, NoBuilder, Started, Down, Built, Failed, Stop, Drain, Enable}
use Rattle.nd_leases.specs.declared.ticket.Ticket.{Ticket}
use Rattle.nd_leases.specs.Tables.{Tables, holder_at, load_at, room_at, slot_at}
use Rattle.nd_history.specs.History.{is_started, is_up}
use Rattle.nd_leases.specs.Tickets.{without}

-- the live leases, newest first, after one more entry; `serial` is the number of entries before it
abbrev pub leases_after : ℕ → Entry → List Ticket → List Ticket
leases_after serial (Chosen d m s) leases = record { machine = m; slot = s; drv = d; serial = serial } ∷ leases
leases_after serial (Down d) leases = without d leases
leases_after serial (Built d refs) leases = without d leases
leases_after serial (Failed d why) leases = without d leases
leases_after serial (NoBuilder d) leases = leases
leases_after serial (Started d paths) leases = leases
leases_after serial Stop leases = leases
leases_after serial (Drain m) leases = leases
leases_after serial (Enable m) leases = leases

-- the tables have room for one more lease of derivation d, on slot s of machine m
pub record HasRoomIn (tables : Tables) (d m s : ℕ) : Type 0 where
  pub drv : d < length tables.holders
  pub unleased : holder_at tables d ≡ None
  pub room : s < room_at tables m
  pub free : slot_at tables m s ≡ None
  pub light : load_at tables m + 1 < 2 ^ 32
  pub few : tables.len + 1 < 2 ^ 64

-- the tables of leases can follow the entry
abbrev pub CanTable : Tables → Entry → Type 0
CanTable tables (Chosen d m s) = HasRoomIn tables d m s
CanTable tables (NoBuilder d) = Unit {0}
CanTable tables (Started d paths) = Unit {0}
CanTable tables (Down d) = Unit {0}
CanTable tables (Built d refs) = Unit {0}
CanTable tables (Failed d why) = Unit {0}
CanTable tables Stop = Unit {0}
CanTable tables (Drain m) = Unit {0}
CanTable tables (Enable m) = Unit {0}

-- the flags of the derivations that were started since their newest choice, after one more entry
abbrev pub started_after : Entry → List Bool → List Bool
started_after (Chosen d m s) flags = slice_set flags d false
started_after (Started d paths) flags = slice_set flags d true
started_after (NoBuilder d) flags = flags
started_after (Down d) flags = flags
started_after (Built d refs) flags = flags
started_after (Failed d why) flags = flags
started_after Stop flags = flags
started_after (Drain m) flags = flags
started_after (Enable m) flags = flags

-- flag d says whether derivation d was started since its newest choice
pub record AreStarted (past : List Entry) (flags : List Bool) : Type 0 where
  pub said : (d : ℕ) → d < length flags → slice_index_or flags d false ≡ is_started d past

-- flag m says whether machine m is up
pub record AreUp (past : List Entry) (flags : List Bool) : Type 0 where
  pub said : (m : ℕ) → m < length flags → slice_index_or flags m false ≡ is_up m past

-- the flags say the same as the old ones, but for the machines of these leases of derivation d, which are down
pub record AreLowered (d : ℕ) (leases : List Ticket) (old new : List Bool) : Type 0 where
  pub sized : length new ≡ length old
  pub said : (m : ℕ) → m < length old → slice_index_or new m false ≡ (if list_any (λ t. (m == t.machine) && (d == t.drv)) leases then false else slice_index_or old m false)

-- the flags of machines that are up, after one more entry; `leases` are those before it
abbrev pub AreUpsAfter : Entry → List Ticket → List Bool → List Bool → Type 0
AreUpsAfter (Down d) leases old new = AreLowered d leases old new
AreUpsAfter (Drain m) leases old new = new ≡ slice_set old m false
AreUpsAfter (Enable m) leases old new = new ≡ slice_set old m true
AreUpsAfter (Chosen d m s) leases old new = new ≡ old
AreUpsAfter (NoBuilder d) leases old new = new ≡ old
AreUpsAfter (Started d paths) leases old new = new ≡ old
AreUpsAfter (Built d refs) leases old new = new ≡ old
AreUpsAfter (Failed d why) leases old new = new ≡ old
AreUpsAfter Stop leases old new = new ≡ old
