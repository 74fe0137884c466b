-- Why there is no dispatch over a bundle that is accepted: the reader failed, or memory ran out.
use Rattle.std.proofs.Common.{◌≡◌, ℕ, false, List, Option, Result, Ok, Err, IfErr, MatchResult, sym, true≢false, arith}
use Rattle.nd_devices.specs.Watched.{Watched}
use Rattle.nd_history.specs.Premises.{Premises}
use Rattle.nd_ledger.specs.Worlds.{World}
use Rattle.nd_cli.specs.Asked.{IsAskFault}
use Rattle.nd_cli.specs.Statuses.{exit_status}
use Rattle.nd_cli.specs.declared.options.ParkOptions.{ParkOptions}
use Rattle.nd_cli.specs.declared.fault.CliFault.{CliFault}
use Rattle.nd_cli.specs.declared.fault.CliFault.TheVariants.{Drvs, Builders, Info, TooLarge, Read, Write, Memory}
use Rattle.nd_serve_command.specs.Sessions.{IsDeviceFault, ReadsUnlessDevice}

not_five : {X : Type 0} → ◌≡◌ {A = ℕ} 3 5 → X
not_five is = absurd (omega (arith, is))

device_fault : {R : Type 0} (options : ParkOptions) (remaining : R → Option (List ℕ)) (reader reader_after : Watched R) (e : CliFault) → IsAskFault options remaining reader reader_after false e → exit_status e ≡ 5 → IsDeviceFault e
device_fault options remaining reader reader_after Read fault is = tt
device_fault options remaining reader reader_after Memory fault is = tt
device_fault options remaining reader reader_after Write fault is = absurd (true≢false (sym fault))
device_fault options remaining reader reader_after (Drvs f) fault is = not_five is
device_fault options remaining reader reader_after (Builders f) fault is = not_five is
device_fault options remaining reader reader_after (Info f) fault is = not_five is
device_fault options remaining reader reader_after (TooLarge place) fault is = not_five is
device_fault options remaining reader reader_after _ fault is = absurd fault

pub reads_unless : {R : Type 0} (options : ParkOptions) (remaining : R → Option (List ℕ)) (reader reader_after : Watched R) (inputs : Premises) (answer : Result World CliFault) → IfErr answer (IsAskFault options remaining reader reader_after false)
    → MatchResult answer (λ dispatch. dispatch.inputs ≡ inputs) (λ e. exit_status e ≡ 5) → ReadsUnlessDevice answer inputs
reads_unless options remaining reader reader_after inputs (Ok dispatch) fault same = same
reads_unless options remaining reader reader_after inputs (Err e) fault is = device_fault options remaining reader reader_after e fault is
