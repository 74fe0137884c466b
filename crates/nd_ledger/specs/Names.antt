-- What is printed of a refusal of a call. The names are this project's own. The outputs of `Display` cite this.
use Rattle.std.specs.Prelude.{ℕ, List, ◌++◌, codes}
use Rattle.nd_history.specs.Audit.{rule_name}
use Rattle.nd_ledger.specs.declared.refusal.Refusal.{Refusal}
use Rattle.nd_ledger.specs.declared.refusal.Refusal.TheVariants.{NotLive, AlreadyStarted, NotStarted, Uncovered, Extra, BadReferences, AlreadyStopped, Memory}
use Rattle.nd_ledger.specs.declared.refusal.AdmitError.{AdmitError}
use Rattle.nd_ledger.specs.declared.refusal.AdmitError.TheVariants.{Illegal, Memory as NoMemory}

-- why a call was refused
abbrev pub refusal_name : Refusal → List ℕ
refusal_name NotLive = codes "NotLive"
refusal_name AlreadyStarted = codes "AlreadyStarted"
refusal_name NotStarted = codes "NotStarted"
refusal_name Uncovered = codes "Uncovered"
refusal_name Extra = codes "Extra"
refusal_name BadReferences = codes "BadReferences"
refusal_name AlreadyStopped = codes "AlreadyStopped"
refusal_name Memory = codes "Memory"

-- why an entry was not admitted
abbrev pub admit_text : AdmitError → List ℕ
admit_text (Illegal rule) = codes "Illegal " ++ rule_name rule
admit_text NoMemory = codes "Memory"
