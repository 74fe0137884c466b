-- What a writer has of a simulation.
-- The public clauses cite this, but `WritesObeyed` serves the clauses of private functions alone.
use Rattle.std.specs.Prelude.{ℕ, Bool, true, false, List, Option, Result, Ok, Err}
use Rattle.std.specs.Io.KnownBytes.{Appends}
use Rattle.nd_devices.specs.Written.{WritesPart}
use Rattle.nd_history.specs.declared.entry.Entry.{Entry}
use Rattle.nd_history.specs.Premises.{Premises}
use Rattle.nd_ledger.specs.Worlds.{World}
use Rattle.nd_script.specs.declared.command.Command.{Command}
use Rattle.nd_sim.specs.Runs.{IsObeyed, IsPumping, IsPumped, IsTurn, IsRun, IsSimulation}
use Rattle.nd_sim.specs.RunParts.{IsPumpingPart, IsTurnPart, IsSimulationPart}
use Rattle.nd_sim.specs.declared.fault.SimFault.{SimFault}
use Rattle.nd_sim.specs.declared.fault.SimFault.TheVariants.{Write, Memory}

-- the answer is the writer's fault
abbrev pub is_write_failure : {A : Type 0} → Result A SimFault → Bool
is_write_failure (Ok _) = false
is_write_failure (Err Write) = true
is_write_failure (Err Memory) = false

-- what a command came to
pub record WritesObeyed (i : Premises) (old new : List Entry) (command : Command) (before written : Option (List ℕ)) : Type 0 where
  pub text : List ℕ
  pub obeyed : IsObeyed i old new command text
  pub appended : Appends before written text

-- .. between two states of the dispatch
abbrev pub ObeyedBetween : World → World → Command → Option (List ℕ) → Option (List ℕ) → Type 0
ObeyedBetween old new command before written = WritesObeyed old.inputs old.history new.history command before written

-- the lines of pump steps, after which none is left
pub record WritesPumped (i : Premises) (old new : List Entry) (before written : Option (List ℕ)) : Type 0 where
  pub text : List ℕ
  pub pumped : IsPumped i old new text
  pub appended : Appends before written text

-- .. between two states of the dispatch
abbrev pub PumpedBetween : World → World → Option (List ℕ) → Option (List ℕ) → Type 0
PumpedBetween old new before written = WritesPumped old.inputs old.history new.history before written

-- the lines of pump steps, of which more may be due
pub record WritesPumping (i : Premises) (old new : List Entry) (before written : Option (List ℕ)) : Type 0 where
  pub text : List ℕ
  pub pumping : IsPumping i old new text
  pub appended : Appends before written text

-- what is written where the pump ends early: for want of memory, the line of each entry that the history gained
abbrev pub PumpedUntil : World → World → Option (List ℕ) → Option (List ℕ) → SimFault → Type 0
PumpedUntil old new before written Write = Unit {0}
PumpedUntil old new before written Memory = WritesPumping old.inputs old.history new.history before written

-- the lines of some pump steps, or a part of them, from their beginning
pub record WritesPumpedPart (i : Premises) (old : List Entry) (before written : Option (List ℕ)) : Type 0 where
  pub text : List ℕ
  pub pumping : IsPumpingPart i old text
  pub part : WritesPart before written text

-- the lines of a command and of the pump steps behind it
pub record WritesTurn (i : Premises) (old new : List Entry) (command : Command) (before written : Option (List ℕ)) : Type 0 where
  pub text : List ℕ
  pub turn : IsTurn i old new command text
  pub appended : Appends before written text

-- .. between two states of the dispatch
abbrev pub TurnedBetween : World → World → Command → Option (List ℕ) → Option (List ℕ) → Type 0
TurnedBetween old new command before written = WritesTurn old.inputs old.history new.history command before written

-- a part of them, from their beginning
pub record WritesTurnPart (i : Premises) (old : List Entry) (command : Command) (before written : Option (List ℕ)) : Type 0 where
  pub text : List ℕ
  pub turn : IsTurnPart i old command text
  pub part : WritesPart before written text

-- the lines of these commands and of the pump steps before and between
pub record WritesRun (i : Premises) (commands : List Command) (history : List Entry) (before written : Option (List ℕ)) : Type 0 where
  pub text : List ℕ
  pub run : IsRun i commands history text
  pub appended : Appends before written text

-- a whole simulation
pub record WritesSimulation (i : Premises) (commands : List Command) (status : ℕ) (before written : Option (List ℕ)) : Type 0 where
  pub text : List ℕ
  pub simulated : IsSimulation i commands status text
  pub appended : Appends before written text

-- the beginning of one
pub record WritesSimulationPart (i : Premises) (commands : List Command) (before written : Option (List ℕ)) : Type 0 where
  pub text : List ℕ
  pub begun : IsSimulationPart i commands text
  pub part : WritesPart before written text
