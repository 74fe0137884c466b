-- Stand texts: what each line says of the stand-ins of a run. The form is this project's own.
-- Public clauses cite this.
use Rattle.std.specs.Prelude.{ℕ, List, [], codes, if◌then◌else◌, Option, None, Some}
use Rattle.nd_bytes.specs.Compared.{bytes_eq}
use Rattle.nd_bytes.specs.Lines.{lines_of}
use Rattle.nd_script.specs.declared.rule.Rule.{Rule}
use Rattle.nd_script.specs.declared.topic.Topic.{Topic}
use Rattle.nd_script.specs.declared.topic.Topic.TheVariants.{NoConnect, NoCopy, Fail, Lose, Built}
use Rattle.nd_script.specs.Calls.{IsCallWith, IsStatusCall, IsBuiltCall}
use Rattle.nd_script.specs.Lines.{IsLineOf, AreItems, IsRefusedBy}
use Rattle.nd_script.specs.declared.script_error.ScriptError.{ScriptError}

-- what the first word of a line speaks of
abbrev pub topic_of : List ℕ → Option Topic
topic_of word =
    if bytes_eq word (codes "noconnect") then Some NoConnect else
    if bytes_eq word (codes "nocopy") then Some NoCopy else
    if bytes_eq word (codes "fail") then Some Fail else
    if bytes_eq word (codes "lose") then Some Lose else
    if bytes_eq word (codes "built") then Some Built else None

-- the derivation is built, and no list of references is reported
abbrev pub built_bare : ℕ → Rule
built_bare drv = Rule.Built drv []

-- a derivation, and a list of references for each output, or none at all
abbrev pub IsBuiltRule : ℕ → List (List ℕ) → Rule → Type 0
IsBuiltRule drvs words rule = IsBuiltCall drvs built_bare Rule.Built words rule

-- a derivation, and a status of 0 to 255
abbrev pub IsFailRule : ℕ → List (List ℕ) → Rule → Type 0
IsFailRule drvs words rule = IsStatusCall drvs Rule.Fail words rule

-- what the words behind the first one of a line say: derivations are numbered below `drvs`, and machines below `machines`
abbrev pub IsRuled : ℕ → ℕ → Topic → List (List ℕ) → Rule → Type 0
IsRuled drvs machines NoConnect words rule = IsCallWith machines Rule.NoConnect words rule
IsRuled drvs machines NoCopy words rule = IsCallWith machines Rule.NoCopy words rule
IsRuled drvs machines Fail words rule = IsFailRule drvs words rule
IsRuled drvs machines Lose words rule = IsCallWith drvs Rule.Lose words rule
IsRuled drvs machines Built words rule = IsBuiltRule drvs words rule

-- a line of a stand text: the first word says what the rule speaks of, and the others with what
abbrev pub IsRuleLine : ℕ → ℕ → List ℕ → Rule → Type 0
IsRuleLine drvs machines = IsLineOf topic_of (IsRuled drvs machines)

-- the rules of a stand text, one for each line
abbrev pub AreRules : ℕ → ℕ → List (List ℕ) → List Rule → Type 0
AreRules drvs machines lines rules = AreItems (IsRuleLine drvs machines) lines rules

-- a text is the stand text of these rules
abbrev pub IsStand : ℕ → ℕ → List ℕ → List Rule → Type 0
IsStand drvs machines text rules = AreRules drvs machines (lines_of text) rules

-- a stand text is refused for its first bad line, and at any point for want of memory
abbrev pub IsStandRefused : ℕ → ℕ → List ℕ → ScriptError → Type 0
IsStandRefused drvs machines text e = IsRefusedBy (IsRuleLine drvs machines) text e
