-- The status that the program ends with where a command gave no answer (this project's own choice). Public clauses cite this.
use Rattle.std.specs.Prelude.{◌≡◌, ℕ, Result, IfErr}
use Rattle.nd_cli.specs.declared.fault.CliFault.{CliFault}
use Rattle.nd_cli.specs.declared.fault.CliFault.TheVariants.{Derivation, Drvs, Builders, Info, Script, Stand, History, TooLarge, TooManySlots, Read, Write, Memory, Thread, Receipts}

-- 3 where an input is refused, 5 where a device or the memory failed, or a run
abbrev pub exit_status : CliFault → ℕ
exit_status (Derivation refusal) = 3
exit_status (Drvs e) = 3
exit_status (Builders e) = 3
exit_status (Info e) = 3
exit_status (Script e) = 3
exit_status (Stand e) = 3
exit_status (History e) = 3
exit_status (TooLarge place) = 3
exit_status TooManySlots = 3
exit_status Read = 5
exit_status Write = 5
exit_status Memory = 5
exit_status Thread = 5
exit_status Receipts = 5

-- no input is refused: where there is no answer, a device, the memory or a run failed
abbrev pub RefusesNoInput : {A : Type 0} → Result A CliFault → Type 0
RefusesNoInput answer = IfErr answer (λ e. exit_status e ≡ 5)
