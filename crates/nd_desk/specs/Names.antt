-- What is printed of a session's fault. The names are this project's own. The output of `Display` cites this.
use Rattle.std.specs.Prelude.{ℕ, List, codes}
use Rattle.nd_desk.specs.declared.fault.SessionFault.{SessionFault}
use Rattle.nd_desk.specs.declared.fault.SessionFault.TheVariants.{Read, Journal, Write, Memory}

abbrev pub fault_name : SessionFault → List ℕ
fault_name Read = codes "Read"
fault_name Journal = codes "Journal"
fault_name Write = codes "Write"
fault_name Memory = codes "Memory"
