-- The script of a simulation, read for the graph and the park at hand. The clauses of `sim_engine` cite this.
use Rattle.std.specs.Prelude.{◌≡◌, ◌≢◌, ℕ, ◌<◌, ◌≤◌, List, length}
use Rattle.nd_bytes.specs.Lines.{lines_of}
use Rattle.nd_history.specs.Premises.{Premises}
use Rattle.nd_history.specs.Choices.{machines_in}
use Rattle.nd_script.specs.declared.command.Command.{Command}
use Rattle.nd_script.specs.declared.script_error.ScriptError.{ScriptError}
use Rattle.nd_script.specs.Script.{AreCommands, IsRefused}
use Rattle.nd_cli.specs.Inputs.{limit}
use Rattle.nd_cli.specs.declared.fault.Place.{Place}
use Rattle.nd_cli.specs.declared.fault.CliFault.{CliFault}
use Rattle.nd_cli.specs.declared.fault.CliFault.TheVariants.{Script, TooLarge, Memory}

-- the script is within the limit, and says these commands
pub record HasScript (i : Premises) (script : List ℕ) (commands : List Command) : Type 0 where
  pub within : length script ≤ limit
  pub says : AreCommands (length i.graph.paths) (machines_in i) (lines_of script) commands

-- Why the script is refused: it is too large, or this is its first bad line. Want of memory is no refusal of it, and is told only of
-- one that isn't too large.
abbrev pub IsScriptFault : Premises → List ℕ → CliFault → Type 0
IsScriptFault i script (TooLarge place) = (place ≡ Place.Script) × (limit < length script)
IsScriptFault i script (Script refusal) = (length script ≤ limit) × IsRefused (length i.graph.paths) (machines_in i) script refusal × (refusal ≢ ScriptError.Memory)
IsScriptFault i script Memory = length script ≤ limit
IsScriptFault i script _ = ⊥
