-- When words say nothing.
-- Public clauses cite `refusal_text`, `RulesOut` and `IsNoNumber`; the rest serves private clauses alone.
use Rattle.std.specs.Prelude.{ℕ, List, [], ◌++◌, codes}
use Rattle.std.specs.Fmt.{decimal}
use Rattle.nd_path.specs.Refusals.{IsPath}
use Rattle.nd_script.specs.declared.line_error.LineError.{LineError}
use Rattle.nd_script.specs.declared.line_error.LineError.TheVariants.{Bad, Memory}
use Rattle.nd_script.specs.declared.script_error.ScriptError.{ScriptError}
use Rattle.nd_script.specs.declared.script_error.ScriptError.TheVariants.{BadLine, Memory as NoMemory}
use Rattle.nd_script.specs.Words.{Begins, IsStatus}

-- the words don't begin with a number below the bound
pub record NeverBegins (bound : ℕ) (words : List (List ℕ)) : Type 0 where
  pub never : (number : ℕ) (rest : List (List ℕ)) → Begins bound words number rest → ⊥

-- they aren't such a number alone
pub record IsNoNumber (bound : ℕ) (words : List (List ℕ)) : Type 0 where
  pub never : (number : ℕ) → Begins bound words number [] → ⊥

-- they aren't a status
pub record IsNoStatus (words : List (List ℕ)) : Type 0 where
  pub never : (status : ℕ) → IsStatus words status → ⊥

-- a fault other than want of memory says that the word is no store path
abbrev pub IsNoPath : List ℕ → LineError → Type 0
IsNoPath word Bad = IsPath word → ⊥
IsNoPath word Memory = Unit {0}

-- .. that nothing is so
abbrev pub RulesOut : {X : Type 0} → (X → Type 0) → LineError → Type 0
RulesOut {X} P Bad = (x : X) → P x → ⊥
RulesOut {X} P Memory = Unit {0}

-- the refusal of the line with this number
abbrev pub refusal_of : LineError → ℕ → ScriptError
refusal_of Bad number = BadLine number
refusal_of Memory number = NoMemory

-- what is printed of a refusal
abbrev pub refusal_text : ScriptError → List ℕ
refusal_text (BadLine number) = codes "BadLine " ++ decimal number
refusal_text NoMemory = codes "Memory"
