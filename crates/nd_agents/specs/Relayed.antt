-- What a script's command reports. No public clause cites this.
use Rattle.std.specs.Prelude.{ℕ, List, Option, None, Some}
use Rattle.nd_script.specs.declared.command.Command.{Command}
use Rattle.nd_script.specs.declared.command.Command.TheVariants.{Start, StartWith, Built, BuiltWith, Fail, Lose, Down, Stop, Drain, Enable, Ask}

-- the references that a command reports
abbrev pub refs_in : Command → Option (List (List (List ℕ)))
refs_in (Start drv) = None
refs_in (StartWith drv paths) = None
refs_in (Built drv) = None
refs_in (BuiltWith drv refs) = Some refs
refs_in (Fail drv status) = None
refs_in (Lose drv) = None
refs_in (Down drv) = None
refs_in Stop = None
refs_in (Drain machine) = None
refs_in (Enable machine) = None
refs_in (Ask drv) = None
