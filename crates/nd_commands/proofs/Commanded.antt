-- The commands of a script name derivations and machines that are there.
use Rattle.std.proofs.Common.{◌≡◌, ℕ, ◌≤◌, List, [], ◌∷◌, length, sym, subst}
use Rattle.std.specs.List.{All, AllZip}
use Rattle.std.proofs.lemmas.List.Elements.{All-nil, All-cons}
use Rattle.nd_bytes.specs.Lines.{lines_of}
use Rattle.nd_history.specs.Premises.{Premises}
use Rattle.nd_history.specs.Choices.{machines_in}
use Rattle.nd_script.specs.declared.command.Command.{Command}
use Rattle.nd_script.specs.declared.script_error.ScriptError.{ScriptError}
use Rattle.nd_script.specs.Script.{IsLine, AreCommands, IsRefused}
use Rattle.nd_sim.specs.Answers.{IsNamed}
use Rattle.nd_sim.proofs.Named.{line_named}
use Rattle.nd_cli.specs.Inputs.{limit}
use Rattle.nd_commands.specs.Scripts.{HasScript}

all_named : (i : Premises) (lines : List (List ℕ)) (commands : List Command) → AllZip (IsLine (length i.graph.paths) (machines_in i)) lines commands → All (IsNamed i) commands
all_named i [] [] each = All-nil (IsNamed i)
all_named i [] (command ∷ commands) each = absurd each
all_named i (line ∷ lines) [] each = absurd each
all_named i (line ∷ lines) (command ∷ commands) each =
    All-cons (IsNamed i) command commands (line_named i line command each.0) (all_named i lines commands each.1)

-- ---- for the numbers of derivations and machines that the reader was given

at_sizes : (i : Premises) (P : ℕ → ℕ → Type 0) (drvs machines : ℕ) → drvs ≡ length i.graph.paths → machines ≡ machines_in i → P drvs machines → P (length i.graph.paths) (machines_in i)
at_sizes i P drvs machines all park holds =
    subst (λ (m : ℕ). P (length i.graph.paths) m) park (subst (λ (d : ℕ). P d machines) all holds)

pub script_read : (i : Premises) (drvs machines : ℕ) (script : List ℕ) (commands : List Command) → drvs ≡ length i.graph.paths → machines ≡ machines_in i → length script ≤ limit
    → AreCommands drvs machines (lines_of script) commands → HasScript i script commands
script_read i drvs machines script commands all park within read = record {
  within = within;
  says = at_sizes i (λ (d m : ℕ). AreCommands d m (lines_of script) commands) drvs machines all park read;
}

pub commands_named : (i : Premises) (drvs machines : ℕ) (script : List ℕ) (commands : List Command) → drvs ≡ length i.graph.paths → machines ≡ machines_in i
    → AreCommands drvs machines (lines_of script) commands → All (IsNamed i) commands
commands_named i drvs machines script commands all park read =
    all_named i (lines_of script) commands (at_sizes i (λ (d m : ℕ). AreCommands d m (lines_of script) commands) drvs machines all park read).each

pub script_refused : (i : Premises) (drvs machines : ℕ) (script : List ℕ) (refusal : ScriptError) → drvs ≡ length i.graph.paths → machines ≡ machines_in i
    → IsRefused drvs machines script refusal → IsRefused (length i.graph.paths) (machines_in i) script refusal
script_refused i drvs machines script refusal all park refused =
    at_sizes i (λ (d m : ℕ). IsRefused d m script refusal) drvs machines all park refused

pub script_wanted : (i : Premises) (drvs machines : ℕ) (script : List ℕ) (commands : List Command) → drvs ≡ length i.graph.paths → machines ≡ machines_in i → HasScript i script commands
    → AreCommands drvs machines (lines_of script) commands
script_wanted i drvs machines script commands all park has =
    subst (λ (m : ℕ). AreCommands drvs m (lines_of script) commands) (sym park)
    (subst (λ (d : ℕ). AreCommands d (machines_in i) (lines_of script) commands) (sym all) has.says)
