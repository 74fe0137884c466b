-- What a history says of each derivation, as the marks of a board, and how a board follows a history entry by entry.
-- The histories of these definitions stand newest first.
-- Public clauses cite `AreMarked`; the rest serves private ones.
use Rattle.std.specs.Prelude.{◌≡◌, ℕ, ◌<◌, true, if◌then◌else◌, List, length, slice_set}
use Rattle.nd_graph.specs.Graphs.{rows_of}
use Rattle.nd_failure.specs.declared.status.Mark.{Mark}
use Rattle.nd_failure.specs.declared.status.Mark.TheVariants as mark
use Rattle.nd_failure.specs.Progress.{Progress, mark_of, IsLeased, IsReady}
use Rattle.nd_history.specs.declared.entry.Entry.{Entry}
use Rattle.nd_history.specs.declared.entry.Entry.TheVariants.{Chosen, NoBuilder, Started, Down, Built, Failed, Stop, Drain, Enable}
use Rattle.nd_history.specs.Premises.{Premises}
use Rattle.nd_history.specs.History.{is_built, is_failed, is_leased, has_stop}
use Rattle.nd_history.specs.Standing.{drvs_in}

-- the mark of derivation d
abbrev pub mark_in : List Entry → ℕ → Mark
mark_in past d = if is_built d past then mark.Built else if is_failed d past then mark.Failed else if is_leased d past then mark.Leased else mark.Free

-- a board says of each derivation what the history says
pub record AreMarked (i : Premises) (past : List Entry) (p : Progress) : Type 0 where
  pub inputs : p.inputs ≡ rows_of i.graph
  pub keep_going : p.keep_going ≡ i.keep_going
  pub stop : p.stop ≡ has_stop past
  pub sized : length p.marks ≡ drvs_in i
  pub marks : (d : ℕ) → d < drvs_in i → mark_of p.marks d ≡ mark_in past d

-- the board after one more entry
abbrev pub board_after : Progress → Entry → Progress
board_after p (Chosen d m s) = record p { marks = slice_set p.marks d mark.Leased }
board_after p (NoBuilder d) = record p { marks = slice_set p.marks d mark.Failed }
board_after p (Started d paths) = p
board_after p (Down d) = record p { marks = slice_set p.marks d mark.Free }
board_after p (Built d refs) = record p { marks = slice_set p.marks d mark.Built }
board_after p (Failed d why) = record p { marks = slice_set p.marks d mark.Failed }
board_after p Stop = record p { stop = true }
board_after p (Drain m) = p
board_after p (Enable m) = p

-- the board can follow the entry: what is leased or given up is ready, and what ends is leased
abbrev pub CanFollow : Progress → Entry → Type 0
CanFollow p (Chosen d m s) = IsReady p d
CanFollow p (NoBuilder d) = IsReady p d
CanFollow p (Started d paths) = Unit {0}
CanFollow p (Down d) = IsLeased p d
CanFollow p (Built d refs) = IsLeased p d
CanFollow p (Failed d why) = IsLeased p d
CanFollow p Stop = Unit {0}
CanFollow p (Drain m) = Unit {0}
CanFollow p (Enable m) = Unit {0}
