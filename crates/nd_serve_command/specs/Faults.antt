-- What `serve` ends with: this project's own choice. Public clauses cite this, but for `fault_of` and `fault_of_journal`, which serve private
-- ones.
use Rattle.std.specs.Prelude.{ℕ}
use Rattle.nd_cli.specs.Statuses.{exit_status}
use Rattle.nd_cli.specs.declared.fault.CliFault.TheVariants.{Read as NoRead, Write as NoWrite, Memory as NoMemory}
use Rattle.nd_desk.specs.declared.fault.SessionFault.{SessionFault}
use Rattle.nd_desk.specs.declared.fault.SessionFault.TheVariants.{Read, Journal as NoJournal, Write, Memory}
use Rattle.nd_serve_command.specs.declared.resume_error.ResumeError.{ResumeError}
use Rattle.nd_serve_command.specs.declared.resume_error.ResumeError.TheVariants.{BadLine, Illegal, Memory as NoRoom}
use Rattle.nd_serve_command.specs.declared.fault.ServeFault.{ServeFault}
use Rattle.nd_serve_command.specs.declared.fault.ServeFault.TheVariants.{Cli, NotEmpty, InUse, Journal, JournalFailed}

-- 3 where an input or the journal is refused, 5 where a device or the memory failed
abbrev pub fault_status : ServeFault → ℕ
fault_status (Cli fault) = exit_status fault
fault_status NotEmpty = 3
fault_status InUse = 3
fault_status (Journal refusal) = 3
fault_status JournalFailed = 5

-- of a session
abbrev pub fault_of : SessionFault → ServeFault
fault_of Read = Cli NoRead
fault_of NoJournal = JournalFailed
fault_of Write = Cli NoWrite
fault_of Memory = Cli NoMemory

-- of a journal that is gone on from
abbrev pub fault_of_journal : ResumeError → ServeFault
fault_of_journal (BadLine number) = Journal (BadLine number)
fault_of_journal (Illegal index rule) = Journal (Illegal index rule)
fault_of_journal NoRoom = Cli NoMemory
