-- Which answers of a whole read say that the device refused it.
-- Public clauses cite this.
use Rattle.std.specs.Prelude.{ℕ, Bool, true, false, List, Result, Ok, Err, codes}
use Rattle.nd_devices.specs.declared.refusals.TakeError.{TakeError}
use Rattle.nd_devices.specs.declared.refusals.TakeError.TheVariants.{Fault, Memory}

-- the answer is the device's fault
abbrev pub is_fault_of : {A : Type 0} → Result A TakeError → Bool
is_fault_of (Ok _) = false
is_fault_of (Err Fault) = true
is_fault_of (Err Memory) = false

-- the plain name of a refusal
abbrev pub take_error_name : TakeError → List ℕ
take_error_name Fault = codes "Fault"
take_error_name Memory = codes "Memory"
