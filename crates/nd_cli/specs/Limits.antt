-- Why a park has no text. No public clause cites this.
use Rattle.std.specs.Prelude.{◌<◌, List}
use Rattle.nd_machines.specs.Builders.{Builder}
use Rattle.nd_eligible.specs.Settings.{Settings}
use Rattle.nd_cli.specs.declared.fault.CliFault.{CliFault}
use Rattle.nd_cli.specs.declared.fault.CliFault.TheVariants.{TooManySlots, Memory}
use Rattle.nd_cli.specs.SlotLines.{slots_in}

-- there are more than 1,024 slots, or memory ran out
abbrev pub AreTooMany : Settings → List Builder → CliFault → Type 0
AreTooMany local machines TooManySlots = 1024 < slots_in local machines
AreTooMany local machines Memory = Unit {0}
AreTooMany local machines _ = ⊥
