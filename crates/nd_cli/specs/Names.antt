-- The words of a fault's line. They are this project's own. The outputs of `Display` cite this.
use Rattle.std.specs.Prelude.{ℕ, List, ◌++◌, codes}
use Rattle.std.specs.Fmt.{decimal}
use Rattle.nd_cli.specs.declared.fault.Place.{Place}
use Rattle.nd_cli.specs.declared.fault.DerivationError.{DerivationError}
use Rattle.nd_cli.specs.declared.fault.HistoryTextError.{HistoryTextError}

-- an input
abbrev pub place_name : Place → List ℕ
place_name Place.Derivation = codes "derivation"
place_name Place.Drvs = codes "drvs"
place_name Place.Builders = codes "builders"
place_name Place.Info = codes "info"
place_name Place.Script = codes "script"
place_name Place.Stand = codes "stand"
place_name Place.History = codes "history"

-- why a derivation text has no path
abbrev pub refusal_name : DerivationError → List ℕ
refusal_name DerivationError.BadPath = codes "BadPath"
refusal_name DerivationError.BadDerivation = codes "BadDerivation"

-- why a history text is refused
abbrev pub history_error_text : HistoryTextError → List ℕ
history_error_text HistoryTextError.Version = codes "Version"
history_error_text (HistoryTextError.BadLine number) = codes "BadLine " ++ decimal number
