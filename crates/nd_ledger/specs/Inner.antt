-- What a dispatch holds: the type's value and its invariant.
use Rattle.std.specs.Prelude.{◌≡◌, ℕ, ◌+◌, ◌≤◌, List, length, reverse, if◌then◌else◌}
use Rattle.nd_graph.specs.Graphs.{IsSound}
use Rattle.nd_ledger.specs.declared.dispatch.Dispatch.TheInside.{Inside}
use Rattle.nd_history.specs.declared.entry.Entry.{Entry}
use Rattle.nd_history.specs.Premises.{premises_of}
use Rattle.nd_ledger.specs.Worlds.{World}
use Rattle.nd_history.specs.History.{live, has_stop}
use Rattle.nd_history.specs.Standing.{drvs_in}
use Rattle.nd_history.specs.Choices.{AreSmall}
use Rattle.nd_history.specs.Legal.{IsLegal}
use Rattle.nd_provision.specs.Stored.{AreStored}
use Rattle.nd_history.specs.Marks.{AreMarked}
use Rattle.nd_pump.specs.Turned.{AreTurns}

abbrev pub seen : Inside → World
seen d = record { inputs = premises_of d.inputs; history = d.state.book.entries }

-- the room that is kept: an entry for the end of each live lease, and one for a stop
abbrev pub room_for : List Entry → ℕ
room_for past = length (live past) + (if has_stop past then 0 else 1)

pub record IsKept (d : Inside) : Type 0 where
  -- the history is legal
  pub legal : IsLegal (premises_of d.inputs) (reverse d.state.book.entries)
  pub room : room_for (reverse d.state.book.entries) ≤ d.state.book.room
  -- the sizes fit
  pub sound : IsSound d.inputs.graph
  pub drvs : d.state.book.drvs ≡ drvs_in (premises_of d.inputs)
  pub park : d.state.book.machines ≡ length d.inputs.machines + 1
  pub few : length d.inputs.machines ≤ 1024
  -- no machine builds more at once than may be asked for
  pub small : AreSmall (premises_of d.inputs)
  -- what is kept of references and holdings follows the history
  pub stores : AreStored (premises_of d.inputs) (reverse d.state.book.entries) d.stores
  -- the board follows the history
  pub marked : AreMarked (premises_of d.inputs) (reverse d.state.book.entries) d.state.board
  -- the turns follow the history and the board, and the builders that may have a free slot, which they keep, the history
  pub turns : AreTurns (premises_of d.inputs) (reverse d.state.book.entries) d.state.board d.state.turns
