-- What a line of a session asks for: a command of a script, or one of two questions. The forms are this project's own.
-- Public clauses cite this; `AsksExtra` serves private ones.
use Rattle.std.specs.Prelude.{◌≡◌, ℕ, List, [], ◌∷◌, codes}
use Rattle.nd_closure.specs.Info.{words_of}
use Rattle.nd_script.specs.declared.command.Command.{Command}
use Rattle.nd_script.specs.Script.{IsLine}
use Rattle.nd_script.specs.Words.{Begins}
use Rattle.nd_serve.specs.declared.request.Request.{Request}
use Rattle.nd_serve.specs.declared.request.Request.TheVariants.{Call, Job, Report, Unknown}

-- `job` and a derivation below the bound
pub record IsJobLine (drvs : ℕ) (line : List ℕ) (drv : ℕ) : Type 0 where
  pub others : List (List ℕ)
  pub words : words_of line ≡ codes "job" ∷ others
  pub operand : Begins drvs others drv []

-- .. of no derivation
pub record IsNoJobLine (drvs : ℕ) (line : List ℕ) : Type 0 where
  pub never : (drv : ℕ) → IsJobLine drvs line drv → ⊥

-- `report`
abbrev pub IsReportLine : List ℕ → Type 0
IsReportLine line = line ≡ codes "report"

-- the line is no command of a script
pub record IsNoCommand (drvs machines : ℕ) (line : List ℕ) : Type 0 where
  pub never : (command : Command) → IsLine drvs machines line command → ⊥

-- .. and asks for nothing else
pub record IsNoQuestion (drvs : ℕ) (line : List ℕ) : Type 0 where
  pub job : IsNoJobLine drvs line
  pub report : IsReportLine line → ⊥

-- what a line asks for that is no command of a script
abbrev pub AsksExtra : ℕ → List ℕ → Request → Type 0
AsksExtra drvs line (Call command) = ⊥
AsksExtra drvs line (Job drv) = IsJobLine drvs line drv
AsksExtra drvs line Report = IsReportLine line
AsksExtra drvs line Unknown = IsNoQuestion drvs line

-- what a line asks for: derivations are numbered below `drvs`, and machines below `machines`
abbrev pub Asks : ℕ → ℕ → List ℕ → Request → Type 0
Asks drvs machines line (Call command) = IsLine drvs machines line command
Asks drvs machines line (Job drv) = IsJobLine drvs line drv
Asks drvs machines line Report = IsReportLine line
Asks drvs machines line Unknown = IsNoCommand drvs machines line × IsNoQuestion drvs line
