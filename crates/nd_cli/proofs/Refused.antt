-- What an input was refused for, by the readers of a bundle and of a park.
use Rattle.std.proofs.Common.{◌≡◌, ◌⊎◌, ℕ, Bool, true, false, List, Option, Result, Ok, Err, IfErr, MatchResult, refl, sym, ap, inl, inr, true≢false}
use Rattle.nd_devices.specs.Watched.{Watched}
use Rattle.nd_links.specs.declared.fault.GraphError.{GraphError}
use Rattle.nd_closure.specs.declared.info_error.InfoError.{InfoError}
use Rattle.nd_machines.specs.declared.machine_error.MachineError.{MachineError}
use Rattle.nd_cli.specs.Asked.{RefusesPark, IsAskFault}
use Rattle.nd_cli.specs.Inputs.{ReadsWhole, OkUnlessMemory, is_read_fault, is_read_failure}
use Rattle.nd_cli.specs.Parks.{IsAccepted, IsParkFault, IsToldAs}
use Rattle.nd_cli.specs.Setting.{IsSettingFault}
use Rattle.nd_cli.specs.Statuses.{exit_status}
use Rattle.nd_cli.specs.declared.options.ParkOptions.{ParkOptions}
use Rattle.nd_cli.specs.declared.fault.CliFault.{CliFault}
use Rattle.nd_cli.specs.declared.fault.Place.{Place}
use Rattle.nd_cli.specs.declared.fault.CliFault.TheVariants.{Drvs, Builders, Info, TooLarge, Read, Write, Memory}

-- want of memory is told as itself
pub told_memory : (refusal : GraphError) (e : CliFault) → IsToldAs refusal e → refusal ≡ GraphError.Memory → e ≡ Memory
told_memory refusal (Drvs f) told is = absurd (told.1 is)
told_memory refusal Memory told is = refl
told_memory refusal _ told is = absurd told

-- none of the three readers of a park
neither : {A B C X : Type 0} → ⊥ ⊎ ((A × ⊥) ⊎ (B × C × ⊥)) → X
neither (inl a) = absurd a
neither (inr (inl b)) = absurd b.1
neither (inr (inr c)) = absurd c.2

-- a park that is refused isn't the reader's fault
park_unmarked : (options : ParkOptions) (text : List ℕ) (e : CliFault) → IsParkFault options text e → is_read_fault e ≡ false
park_unmarked options text Read fault = neither fault
park_unmarked options text _ fault = refl

pub park_is_read : {A : Type 0} (options : ParkOptions) (text : List ℕ) (answer : Result A CliFault) → IfErr answer (IsParkFault options text) → is_read_failure answer ≡ false
park_is_read options text (Ok park) fault = refl
park_is_read options text (Err e) fault = park_unmarked options text e fault

-- a bundle is accepted, and what the options say beside it is refused
pub setting_refused : (options : ParkOptions) (text : List ℕ) (e : CliFault) → IsAccepted options text → IsSettingFault options e → IsParkFault options text e
setting_refused options text e accepted (inl builders) = inr (inl (accepted, builders))
setting_refused options text e accepted (inr info) = inr (inr (accepted, info.0, info.1))

-- the text that was read is refused
pub park_refused : {R : Type 0} (options : ParkOptions) (remaining : R → Option (List ℕ)) (reader reader_after : Watched R) (writer_marked : Bool) (text : List ℕ) (e : CliFault)
    → ReadsWhole (remaining reader.device) (remaining reader_after.device) text → IsParkFault options text e → IsAskFault options remaining reader reader_after writer_marked e
park_refused options remaining reader reader_after writer_marked text (Drvs f) read fault = record { text = text; read = read; refused = fault }
park_refused options remaining reader reader_after writer_marked text (Builders f) read fault = record { text = text; read = read; refused = fault }
park_refused options remaining reader reader_after writer_marked text (Info f) read fault = record { text = text; read = read; refused = fault }
park_refused options remaining reader reader_after writer_marked text (TooLarge place) read fault = record { text = text; read = read; refused = fault }
park_refused options remaining reader reader_after writer_marked text Memory read fault = tt
park_refused options remaining reader reader_after writer_marked text _ read fault = neither fault

-- what holds of each refusal of a park, of a refused read and of want of memory holds of why there is no park
pub by_park : {R : Type 0} (P : CliFault → Type 0) (options : ParkOptions) (remaining : R → Option (List ℕ)) (reader reader_after : Watched R) (e : CliFault) → IsAskFault options remaining reader reader_after false e
    → ((f : GraphError) → RefusesPark options (remaining reader.device) (remaining reader_after.device) (Drvs f) → P (Drvs f))
    → ((f : MachineError) → RefusesPark options (remaining reader.device) (remaining reader_after.device) (Builders f) → P (Builders f))
    → ((f : InfoError) → RefusesPark options (remaining reader.device) (remaining reader_after.device) (Info f) → P (Info f))
    → ((place : Place) → RefusesPark options (remaining reader.device) (remaining reader_after.device) (TooLarge place) → P (TooLarge place))
    → (reader_after.is_marked ≡ true → P Read) → P Memory → P e
by_park P options remaining reader reader_after (Drvs f) fault drvs builders info large read memory = drvs f fault
by_park P options remaining reader reader_after (Builders f) fault drvs builders info large read memory = builders f fault
by_park P options remaining reader reader_after (Info f) fault drvs builders info large read memory = info f fault
by_park P options remaining reader reader_after (TooLarge place) fault drvs builders info large read memory = large place fault
by_park P options remaining reader reader_after Read fault drvs builders info large read memory = read fault
by_park P options remaining reader reader_after Write fault drvs builders info large read memory = absurd (true≢false (sym fault))
by_park P options remaining reader reader_after Memory fault drvs builders info large read memory = memory
by_park P options remaining reader reader_after _ fault drvs builders info large read memory = absurd fault

-- what is so unless memory runs out is so unless the reader or the memory fails
pub known_answer : {A : Type 0} (answer : Result A CliFault) (IsSo : A → Type 0) → OkUnlessMemory answer IsSo → MatchResult answer IsSo (λ e. exit_status e ≡ 5)
known_answer (Ok x) IsSo so = so
known_answer (Err e) IsSo memory = ap exit_status memory
