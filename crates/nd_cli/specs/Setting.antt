-- What the options of a command over a bundle say beside the bundle. The clauses of `read_setting` cite this.
use Rattle.std.specs.Prelude.{◌≡◌, ◌⊎◌, ℕ, List, Result}
use Rattle.nd_machines.specs.Builders.{Builder}
use Rattle.nd_cli.specs.Inputs.{OkUnlessMemory}
use Rattle.nd_cli.specs.Parks.{AreBuildersAccepted, HasBuilders, HasInfo, IsBuildersFault, IsInfoFault}
use Rattle.nd_cli.specs.declared.options.ParkOptions.{ParkOptions}
use Rattle.nd_cli.specs.declared.park.Setting.{Setting}
use Rattle.nd_cli.specs.declared.fault.CliFault.{CliFault}

-- the builders list is refused, or else the info text
abbrev pub IsSettingFault : ParkOptions → CliFault → Type 0
IsSettingFault options e = IsBuildersFault options e ⊎ (AreBuildersAccepted options × IsInfoFault options e)

-- the parts of two settings, of which the second ones are these
pub record AreSameSettings (machines same_machines : List Builder) (info same_info : List (List ℕ × List (List ℕ))) : Type 0 where
  pub builders : machines ≡ same_machines
  pub references : info ≡ same_info

-- where both are accepted, the answer has these parts, unless memory runs out
abbrev pub AnswersAcceptedSetting : ParkOptions → Result Setting CliFault → Type 0
AnswersAcceptedSetting options answer =
    (machines : List Builder) (info : List (List ℕ × List (List ℕ))) → HasBuilders options machines → HasInfo options info
    → OkUnlessMemory answer (λ setting. AreSameSettings setting.machines.items machines setting.info.entries info)
