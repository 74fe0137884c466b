-- How one more entry goes into a book, and the board and the turns follow it. The histories of these definitions stand newest first.
-- No public clause cites this: it serves private ones.
use Rattle.std.specs.Prelude.{◌≡◌, ◌+◌, ◌<◌, ◌≤◌, ℕ, Bool, List, [], ◌∷◌, ◌++◌, false, length, reverse, IfSome}
use Rattle.nd_machines.specs.Builders.{Builder}
use Rattle.nd_eligible.specs.Settings.{Settings}
use Rattle.nd_graph.specs.Graphs.{Nodes, rows_of}
use Rattle.nd_failure.specs.Progress.{untouched}
use Rattle.nd_kinds.specs.Kinds.{AreKinds}
use Rattle.nd_history.specs.declared.entry.Entry.{Entry}
use Rattle.nd_history.specs.Books.{Recorded}
use Rattle.nd_history.specs.History.{live}
use Rattle.nd_history.specs.Marks.{board_after}
use Rattle.nd_pump.specs.Turned.{AreListed, HasTurned, IsWhole, is_parked, touched}
use Rattle.nd_pump.specs.Listing.{IsNewsWithin}
use Rattle.nd_pump.specs.Vacancies.{AreAllVacant}
use Rattle.nd_ledger.specs.declared.state.State.{State}

-- nothing has happened yet: no entry, with room for one, and a board and turns of these nodes and machines, of which no kind is passed over
pub record IsFresh (graph : Nodes) (machines : List Builder) (local : Settings) (keep_going : Bool) (s : State) : Type 0 where
  pub entries : s.book.entries ≡ []
  pub room : 1 ≤ s.book.room
  pub drvs : s.book.drvs ≡ length (rows_of graph)
  pub park : s.book.machines ≡ length machines + 1
  pub board : s.board ≡ untouched (rows_of graph) keep_going
  pub whole : IsWhole s.turns
  pub kinds : AreKinds machines local graph.needs s.turns.kinds
  pub listed : AreListed s.board s.turns.queue
  pub parked : (n : ℕ) → is_parked s.turns n ≡ false
  pub vacant : AreAllVacant (length machines) s.turns.vacant

-- the book is as it was, with as much room or more
pub record IsRoomier (old new : Recorded) : Type 0 where
  pub entries : new.entries ≡ old.entries
  pub drvs : new.drvs ≡ old.drvs
  pub machines : new.machines ≡ old.machines
  pub room : old.room ≤ new.room

-- the turns can follow the entry: they are those of the board, and what the entry is about and touches is there
pub record CanTurn (s : State) (e : Entry) : Type 0 where
  pub sized : length s.board.inputs ≡ length s.turns.kinds.numbers
  pub within : IsNewsWithin (length s.board.inputs) e
  pub machine : IfSome (touched e (reverse s.book.entries)) (λ m. m < length s.turns.kinds.users)

-- one more entry in the book, which the board and the turns follow
pub record IsEntered (old new : State) (e : Entry) : Type 0 where
  pub entries : new.book.entries ≡ old.book.entries ++ e ∷ []
  pub room : old.book.room ≤ new.book.room + 1
  pub drvs : new.book.drvs ≡ old.book.drvs
  pub machines : new.book.machines ≡ old.book.machines
  pub board : new.board ≡ board_after old.board e
  pub turned : HasTurned (board_after old.board e) e (touched e (reverse old.book.entries)) old.turns new.turns
  pub whole : IsWhole new.turns

-- .. with room for the end of each lease, that of a choice among them, and for a stop
pub record IsAppended (old new : State) (e : Entry) : Type 0 where
  pub entered : IsEntered old new e
  pub room : length (live (reverse old.book.entries)) + 2 ≤ new.book.room
