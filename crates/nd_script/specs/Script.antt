-- Scripts: what each line says, and the first bad line. The form is this project's own.
-- Public clauses cite this.
use Rattle.std.specs.Prelude.{◌≡◌, ℕ, List, []}
use Rattle.nd_script.specs.declared.command.Command.{Command}
use Rattle.nd_script.specs.declared.verb.Verb.{Verb}
use Rattle.nd_script.specs.declared.verb.Verb.TheVariants.{Start, StartWith, Built, Fail, Lose, Down, Stop, Drain, Enable, Ask}
use Rattle.nd_bytes.specs.Lines.{lines_of}
use Rattle.nd_script.specs.Words.{Begins, IsSetOf}
use Rattle.nd_script.specs.Verbs.{verb_of}
use Rattle.nd_script.specs.Calls.{IsCallWith, IsStatusCall, IsBuiltCall}
use Rattle.nd_script.specs.Lines.{IsLineOf, AreItems, IsRefusedBy}
use Rattle.nd_script.specs.declared.script_error.ScriptError.{ScriptError}

-- a derivation, and the paths that were copied
pub record IsStartWith (drvs : ℕ) (words : List (List ℕ)) (command : Command) : Type 0 where
  pub drv : ℕ
  pub others : List (List ℕ)
  pub operand : Begins drvs words drv others
  pub paths : List (List ℕ)
  pub set : IsSetOf others paths
  pub is : command ≡ Command.StartWith drv paths

-- a derivation, and a list of references for each output, or none at all
abbrev pub IsBuilt : ℕ → List (List ℕ) → Command → Type 0
IsBuilt drvs words command = IsBuiltCall drvs Command.Built Command.BuiltWith words command

-- a derivation, and a status of 0 to 255
abbrev pub IsFail : ℕ → List (List ℕ) → Command → Type 0
IsFail drvs words command = IsStatusCall drvs Command.Fail words command

-- what the words behind the first one of a line ask for: derivations are numbered below `drvs`, and
-- machines below `machines`
abbrev pub IsSaid : ℕ → ℕ → Verb → List (List ℕ) → Command → Type 0
IsSaid drvs machines Start words command = IsCallWith drvs Command.Start words command
IsSaid drvs machines StartWith words command = IsStartWith drvs words command
IsSaid drvs machines Built words command = IsBuilt drvs words command
IsSaid drvs machines Fail words command = IsFail drvs words command
IsSaid drvs machines Lose words command = IsCallWith drvs Command.Lose words command
IsSaid drvs machines Down words command = IsCallWith drvs Command.Down words command
IsSaid drvs machines Stop words command = (words ≡ []) × (command ≡ Command.Stop)
IsSaid drvs machines Drain words command = IsCallWith machines Command.Drain words command
IsSaid drvs machines Enable words command = IsCallWith machines Command.Enable words command
IsSaid drvs machines Ask words command = IsCallWith drvs Command.Ask words command

-- a line of a script: the first word says what is asked for, and the others with what
abbrev pub IsLine : ℕ → ℕ → List ℕ → Command → Type 0
IsLine drvs machines = IsLineOf verb_of (IsSaid drvs machines)

-- the commands of a script, one for each line
abbrev pub AreCommands : ℕ → ℕ → List (List ℕ) → List Command → Type 0
AreCommands drvs machines lines commands = AreItems (IsLine drvs machines) lines commands

-- a text is the script of these commands
abbrev pub IsScript : ℕ → ℕ → List ℕ → List Command → Type 0
IsScript drvs machines text commands = AreCommands drvs machines (lines_of text) commands

-- a script is refused for its first bad line, and at any point for want of memory
abbrev pub IsRefused : ℕ → ℕ → List ℕ → ScriptError → Type 0
IsRefused drvs machines text e = IsRefusedBy (IsLine drvs machines) text e
