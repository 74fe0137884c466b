-- What is printed of a refusal of a builders list. The names are this project's own.
-- Public clauses cite this.
use Rattle.std.specs.Prelude.{ℕ, List, ◌++◌, codes}
use Rattle.std.specs.Fmt.{decimal}
use Rattle.nd_machines.specs.declared.machine_error.MachineError.{MachineError}
use Rattle.nd_machines.specs.declared.machine_error.MachineError.TheVariants.{Uri, Jobs, Speed, Include, TooMany, Memory}

abbrev pub refusal_text : MachineError → List ℕ
refusal_text (Uri entry) = codes "Uri " ++ decimal entry
refusal_text (Jobs entry) = codes "Jobs " ++ decimal entry
refusal_text (Speed entry) = codes "Speed " ++ decimal entry
refusal_text (Include entry) = codes "Include " ++ decimal entry
refusal_text (TooMany entry) = codes "TooMany " ++ decimal entry
refusal_text Memory = codes "Memory"
