-- When a part of a line is refused, by one refusal with a cause. Want of memory may come at any point, and no other
-- refusal comes. `path_of_text` cites `NotPaths`; the rest serves proofs alone.
use Rattle.std.specs.Prelude.{◌≡◌, ℕ, List, Option, None}
use Rattle.serde_json.specs.Data.{Data, Items}
use Rattle.nd_line.specs.Structured.{IsJson, strings, features_in, preference_in}
use Rattle.nd_line.specs.Wishes.{Says}
use Rattle.nd_line.specs.declared.structured.Wishes.{Wishes}
use Rattle.nd_line.specs.declared.refusal.LineError.{LineError}
use Rattle.nd_line.specs.declared.refusal.LineError.TheVariants.{BadLine, BadPath, BadDerivation, UnknownOutput, BadAttribute, WrongPath, Memory}

-- the fault is `BadAttribute` with this cause, or it is want of memory
abbrev pub Attribute : LineError → Type 0 → Type 0
Attribute BadLine cause = ⊥
Attribute BadPath cause = ⊥
Attribute BadDerivation cause = ⊥
Attribute UnknownOutput cause = ⊥
Attribute BadAttribute cause = cause
Attribute WrongPath cause = ⊥
Attribute Memory cause = Unit {0}

abbrev pub NotJson : List ℕ → LineError → Type 0
NotJson text fault = Attribute fault ((value : Data) → IsJson text value → ⊥)

abbrev pub NotStrings : Items → LineError → Type 0
NotStrings items fault = Attribute fault (strings items ≡ None)

abbrev pub NotFeatures : Option Data → LineError → Type 0
NotFeatures member fault = Attribute fault (features_in member ≡ None)

abbrev pub NotPreference : Option Data → LineError → Type 0
NotPreference member fault = Attribute fault (preference_in member ≡ None)

abbrev pub SaysNothing : List ℕ → LineError → Type 0
SaysNothing text fault = Attribute fault ((wishes : Wishes) → Says text wishes → ⊥)

-- the fault is `BadDerivation` with this cause, or it is want of memory
abbrev pub NotPaths : LineError → Type 0 → Type 0
NotPaths BadLine cause = ⊥
NotPaths BadPath cause = ⊥
NotPaths BadDerivation cause = cause
NotPaths UnknownOutput cause = ⊥
NotPaths BadAttribute cause = ⊥
NotPaths WrongPath cause = ⊥
NotPaths Memory cause = Unit {0}

-- the fault is want of memory
abbrev pub WantsMemory : LineError → Type 0
WantsMemory fault = fault ≡ Memory
