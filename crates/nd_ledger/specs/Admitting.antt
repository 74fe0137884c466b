-- When an entry is not admitted. The histories of these definitions stand newest first. The clauses of `admit` cite this, but for
-- `admit_error_for`, which serves a private one.
use Rattle.std.specs.Prelude.{◌≡◌, Bool, true, false, List, length}
use Rattle.nd_history.specs.declared.entry.Entry.{Entry}
use Rattle.nd_history.specs.declared.entry.Entry.TheVariants.{Built}
use Rattle.nd_history.specs.declared.rule.Rule.{Rule}
use Rattle.nd_history.specs.declared.rule.Rule.TheVariants.{Range, Ready, Decision, Best, Slot, Live, Started, Paths, References, Stopped}
use Rattle.nd_history.specs.Premises.{Premises}
use Rattle.nd_history.specs.References.{outputs_of}
use Rattle.nd_history.specs.Audit.{Passes, IsFirstRule}
use Rattle.nd_ledger.specs.declared.refusal.AdmitError.{AdmitError}
use Rattle.nd_ledger.specs.declared.refusal.AdmitError.TheVariants.{Illegal, Memory}
use Rattle.nd_ledger.specs.declared.refusal.Refusal.{Refusal}
use Rattle.nd_ledger.specs.declared.refusal.Refusal.TheVariants.{NotLive, AlreadyStarted, NotStarted, Uncovered, Extra, BadReferences, AlreadyStopped, Memory as NoMemory}

-- the rules for which paths are gone through; the others take no memory
abbrev pub is_over_paths : Rule → Bool
is_over_paths Range = false
is_over_paths Ready = false
is_over_paths Decision = false
is_over_paths Best = false
is_over_paths Slot = false
is_over_paths Live = false
is_over_paths Started = false
is_over_paths Paths = true
is_over_paths References = true
is_over_paths Stopped = false

-- where the entry is the end of a build, it has one list of references for each output
abbrev pub HasAllLists : Premises → Entry → Type 0
HasAllLists i (Built d refs) = length refs ≡ length (outputs_of i d)
HasAllLists i _ = Unit {0}

-- the entry isn't refused by what is found without memory: by no rule that takes none, nor for the number of its lists of references
pub record PassesFreely (i : Premises) (past : List Entry) (e : Entry) : Type 0 where
  pub each : (rule : Rule) → is_over_paths rule ≡ false → Passes i past e rule
  pub listed : HasAllLists i e

-- the rule that is named is the first that refuses the entry; memory is wanting only where nothing refuses it that is found without
abbrev pub IsAdmitRefused : Premises → List Entry → Entry → AdmitError → Type 0
IsAdmitRefused i past e (Illegal rule) = IsFirstRule i past e rule
IsAdmitRefused i past e Memory = PassesFreely i past e

-- the rule that the refusal of a call stands for
abbrev pub admit_error_for : Refusal → AdmitError
admit_error_for NotLive = Illegal Live
admit_error_for AlreadyStarted = Illegal Started
admit_error_for NotStarted = Illegal Started
admit_error_for Uncovered = Illegal Paths
admit_error_for Extra = Illegal Paths
admit_error_for BadReferences = Illegal References
admit_error_for AlreadyStopped = Illegal Stopped
admit_error_for NoMemory = Memory
