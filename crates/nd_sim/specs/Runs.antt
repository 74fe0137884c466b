-- What a simulation writes: pump steps until there is none, and then for each command its entry's line, its refusal or the reply,
-- and again pump steps until there is none; the report last. Histories stand oldest first. The form is this project's own.
-- The public clauses cite `IsRun` and `IsSimulation`, by way of what a writer has of them, and the laws cite these and `IsObeyed`.
use Rattle.std.specs.Prelude.{◌≡◌, ℕ, List, [], ◌∷◌, ◌++◌, reverse, codes}
use Rattle.std.specs.List.{flat_map}
use Rattle.nd_machines.specs.Builders.{Builder}
use Rattle.nd_hook.specs.ReplyText.{line, reply_text}
use Rattle.nd_history.specs.declared.entry.Entry.{Entry}
use Rattle.nd_history.specs.Premises.{Premises}
use Rattle.nd_history.specs.Pumping.{ArePumpSteps, AreAtRest}
use Rattle.nd_history.specs.Standing.{drvs_in}
use Rattle.nd_history.specs.Statuses.{IsExitStatus}
use Rattle.nd_ledger.specs.declared.refusal.Refusal.{Refusal}
use Rattle.nd_ledger.specs.Names.{refusal_name}
use Rattle.nd_history_text.specs.HistoryTexts.{line_of}
use Rattle.nd_report.specs.Reports.{IsReport}
use Rattle.nd_script.specs.declared.command.Command.{Command}
use Rattle.nd_sim.specs.Outcomes.{ComesTo}
use Rattle.nd_sim.specs.declared.answer.Answer.{Answer}
use Rattle.nd_sim.specs.declared.answer.Answer.TheVariants.{Added, Refused, Replied}

-- the line of a refused command
unfoldable pub refused_line : Refusal → List ℕ
refused_line refusal = line (codes "refused " ++ refusal_name refusal)

-- the history grew by one entry, and this is that entry's line
pub record IsAddedLine (old new : List Entry) (text : List ℕ) : Type 0 where
  pub entry : Entry
  pub grown : new ≡ old ++ entry ∷ []
  pub is : text ≡ line_of entry

-- what is written of an answer
abbrev pub IsAnswerText : List Builder → List Entry → List Entry → Answer → List ℕ → Type 0
IsAnswerText machines old new Added text = IsAddedLine old new text
IsAnswerText machines old new (Refused refusal) text = text ≡ refused_line refusal
IsAnswerText machines old new (Replied reply) text = text ≡ reply_text machines reply

-- pump steps, and their lines
pub record IsPumping (i : Premises) (old new : List Entry) (text : List ℕ) : Type 0 where
  pub steps : List Entry
  pub grown : new ≡ old ++ steps
  pub each : ArePumpSteps i old steps
  pub lines : text ≡ flat_map line_of steps

-- .. until there is none
pub record IsPumped (i : Premises) (old new : List Entry) (text : List ℕ) : Type 0 where
  pub pumping : IsPumping i old new text
  pub rest : AreAtRest i (reverse new)

-- a command
pub record IsObeyed (i : Premises) (old new : List Entry) (command : Command) (text : List ℕ) : Type 0 where
  pub answer : Answer
  pub comes : ComesTo i old new command answer
  pub says : IsAnswerText i.machines old new answer text

-- a command, and pump steps until there is none
pub record IsTurn (i : Premises) (old new : List Entry) (command : Command) (text : List ℕ) : Type 0 where
  pub middle : List Entry
  pub said : List ℕ
  pub obeyed : IsObeyed i old middle command said
  pub steps : List ℕ
  pub pumped : IsPumped i middle new steps
  pub is : text ≡ said ++ steps

-- pump steps until there is none, and then these commands, one after another
pub data IsRun (i : Premises) : List Command → List Entry → List ℕ → Type 0 where
  begun : (history : List Entry) (text : List ℕ) → IsPumped i [] history text → IsRun i [] history text
  turn : (commands : List Command) (old new : List Entry) (command : Command) (text more : List ℕ)
      → IsRun i commands old text → IsTurn i old new command more → IsRun i (commands ++ command ∷ []) new (text ++ more)

-- a whole simulation over these inputs, with its exit status
pub record IsSimulation (i : Premises) (commands : List Command) (status : ℕ) (text : List ℕ) : Type 0 where
  pub history : List Entry
  pub lines : List ℕ
  pub run : IsRun i commands history lines
  pub report : List ℕ
  pub reported : IsReport i (reverse history) (drvs_in i) report
  pub is : text ≡ lines ++ report
  pub status_is : IsExitStatus i (reverse history) status
