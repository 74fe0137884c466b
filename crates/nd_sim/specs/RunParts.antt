-- What a simulation that is cut short leaves: the text of its beginning. Histories stand oldest first.
-- The public clauses cite `IsSimulationPart`, by way of what a writer has of it.
use Rattle.std.specs.Prelude.{◌≡◌, ◌⊎◌, ℕ, ◌≤◌, List, [], ◌∷◌, ◌++◌, reverse}
use Rattle.nd_history.specs.declared.entry.Entry.{Entry}
use Rattle.nd_history.specs.Premises.{Premises}
use Rattle.nd_history.specs.Standing.{drvs_in}
use Rattle.nd_report.specs.Reports.{IsReport}
use Rattle.nd_script.specs.declared.command.Command.{Command}
use Rattle.nd_sim.specs.Runs.{IsPumping, IsObeyed, IsRun}

-- pump steps, of which more may be due
pub record IsPumpingPart (i : Premises) (old : List Entry) (text : List ℕ) : Type 0 where
  pub new : List Entry
  pub pumping : IsPumping i old new text

-- a command, and pump steps, of which more may be due
pub record IsTurnBegun (i : Premises) (old : List Entry) (command : Command) (text : List ℕ) : Type 0 where
  pub middle : List Entry
  pub said : List ℕ
  pub obeyed : IsObeyed i old middle command said
  pub steps : List ℕ
  pub pumping : IsPumpingPart i middle steps
  pub is : text ≡ said ++ steps

-- .. or nothing yet
abbrev pub IsTurnPart : Premises → List Entry → Command → List ℕ → Type 0
IsTurnPart i old command text = (text ≡ []) ⊎ IsTurnBegun i old command text

-- some of the commands, and a part of the turn of the next one
pub record IsRunPart (i : Premises) (commands : List Command) (text : List ℕ) : Type 0 where
  pub done : List Command
  pub command : Command
  pub others : List Command
  pub split : commands ≡ done ++ command ∷ others
  pub history : List Entry
  pub lines : List ℕ
  pub run : IsRun i done history lines
  pub last : List ℕ
  pub part : IsTurnPart i history command last
  pub is : text ≡ lines ++ last

-- all of the commands, and the report as far as some derivation
pub record IsReportPart (i : Premises) (commands : List Command) (text : List ℕ) : Type 0 where
  pub history : List Entry
  pub lines : List ℕ
  pub run : IsRun i commands history lines
  pub n : ℕ
  pub some : n ≤ drvs_in i
  pub report : List ℕ
  pub reported : IsReport i (reverse history) n report
  pub is : text ≡ lines ++ report

-- the text of the beginning of a simulation
pub data IsSimulationPart (i : Premises) (commands : List Command) (text : List ℕ) : Type 0 where
  pumping : IsPumpingPart i [] text → IsSimulationPart i commands text
  running : IsRunPart i commands text → IsSimulationPart i commands text
  reporting : IsReportPart i commands text → IsSimulationPart i commands text
