-- What is read of a history text and of a bundle by two threads.
use Rattle.std.proofs.Common.{◌≡◌, ℕ, false, List, Option, Some, Result, Ok, Err, MatchResult, IfOk, IfErr, Vec, Global, subst}
use Rattle.nd_machines.specs.Builders.{Builder}
use Rattle.nd_graph.specs.Graphs.{Nodes}
use Rattle.nd_devices.specs.Watched.{Watched}
use Rattle.nd_history.specs.declared.entry.Entry.{Entry}
use Rattle.nd_history_text.specs.Sound.{IsHistoryText}
use Rattle.nd_history_text.specs.declared.history_error.HistoryError.{HistoryError}
use Rattle.nd_cli.specs.Asked.{IsAskFault, ReadsPark}
use Rattle.nd_cli.specs.Blocks.{AnswersKnownPark}
use Rattle.nd_cli.specs.Parks.{HasPark, local_of}
use Rattle.nd_cli.specs.Statuses.{exit_status}
use Rattle.nd_cli.specs.declared.fault.CliFault.{CliFault}
use Rattle.nd_cli.specs.declared.options.ParkOptions.{ParkOptions}
use Rattle.nd_cli.specs.declared.park.Park.{Park}
use Rattle.nd_commands.specs.Audited.{HasHistory}
use Rattle.nd_commands.specs.Opened.{IsParkTaken}

-- ---- the history

-- what the reader of a history text answers where it is one
abbrev AnswersExactly : List ℕ → Result (Vec Entry Global) HistoryError → Type 0
AnswersExactly history answer = (entries : List Entry) → IsHistoryText history entries → MatchResult answer (λ h. h.items ≡ entries) (λ e. e ≡ HistoryError.Memory)

pub entries_alone : (history : List ℕ) (answer : Result (Vec Entry Global) HistoryError) (read : Vec Entry Global) → answer ≡ Ok read
    → ((entries : List Entry) → IsHistoryText history entries → MatchResult answer (λ h. h.items ≡ entries) (λ e. e ≡ HistoryError.Memory))
    → (entries : List Entry) → HasHistory history entries → read.items ≡ entries
entries_alone history answer read is exactly entries has = subst (AnswersExactly history) is exactly entries has.text

pub memory_told : (history : List ℕ) (answer : Result (Vec Entry Global) HistoryError) (error : HistoryError) → answer ≡ Err error
    → ((entries : List Entry) → IsHistoryText history entries → MatchResult answer (λ h. h.items ≡ entries) (λ e. e ≡ HistoryError.Memory))
    → (entries : List Entry) → HasHistory history entries → error ≡ HistoryError.Memory
memory_told history answer error is exactly entries has = subst (AnswersExactly history) is exactly entries has.text

-- ---- the park

module _ {R : Type 0} (options : ParkOptions) (remaining : R → Option (List ℕ)) (reader reader_after : Watched R) (answer : Result Park CliFault) where
  pub taken_read : (park : Park) → answer ≡ Ok park → IsParkTaken options remaining reader reader_after answer
      → ReadsPark options (remaining reader.device) (remaining reader_after.device) park.graph park.machines.items park.info.entries
  taken_read park is taken =
      subst (λ (r : Result Park CliFault). IfOk r (λ p. ReadsPark options (remaining reader.device) (remaining reader_after.device) p.graph p.machines.items p.info.entries)) is taken.read

  pub taken_local : (park : Park) → answer ≡ Ok park → IsParkTaken options remaining reader reader_after answer → park.local ≡ local_of options
  taken_local park is taken = subst (λ (r : Result Park CliFault). IfOk r (λ p. p.local ≡ local_of options)) is taken.local

  pub taken_fault : (fault : CliFault) → answer ≡ Err fault → IsParkTaken options remaining reader reader_after answer → IsAskFault options remaining reader reader_after false fault
  taken_fault fault is taken = subst (λ (r : Result Park CliFault). IfErr r (IsAskFault options remaining reader reader_after false)) is taken.fault

  pub taken_known : (fault : CliFault) → answer ≡ Err fault → IsParkTaken options remaining reader reader_after answer → (text : List ℕ) (graph : Nodes) (machines : List Builder)
      (info : List (List ℕ × List (List ℕ))) → remaining reader.device ≡ Some text → HasPark options text graph machines info → exit_status fault ≡ 5
  taken_known fault is taken text graph machines info known has =
      subst (λ (r : Result Park CliFault). AnswersKnownPark options (remaining reader.device) r) is taken.exactly text graph machines info known has
