-- What the program makes of what an engine answered: the exit status is the engine's, or that of the fault that it ended with. Clauses of the
-- program's functions cite this. This project's own choice.
use Rattle.std.specs.Prelude.{ℕ, Option, None, Some, Result, Ok, Err, codes, List}
use Rattle.clap.specs.Matches.{found_of, first_value}
use Rattle.clap.specs.declared.parser.matches.ArgMatches.{ArgMatches}
use Rattle.nd_explain.specs.declared.failures.Failure.{Failure}
use Rattle.nd_serve_command.specs.Faults.{fault_status}
use Rattle.nd_serve_command.specs.declared.fault.ServeFault.{ServeFault}
use Rattle.nd_serve_command.specs.declared.fault.ServeFault.TheVariants.{Cli}
use Rattle.nix_dispatch.specs.declared.endings.Ending.{Ending}
use Rattle.nix_dispatch.specs.declared.endings.Ending.TheVariants.{Common, Journal}

-- the answer of a command that has no journal
abbrev pub as_ending : Result ℕ Failure → Result ℕ Ending
as_ending (Ok status) = Ok status
as_ending (Err failure) = Err (Common failure)

-- the fault that a command ended with
abbrev pub fault_in : Ending → ServeFault
fault_in (Common failure) = Cli failure.fault
fault_in (Journal failure) = failure.fault

-- the exit status where the command line isn't understood
abbrev pub usage : ℕ
usage = 2

-- the exit status of a command that answered so, or where none was named
abbrev pub exit_of : Option (Result ℕ Ending) → ℕ
exit_of (Some (Ok status)) = status
exit_of (Some (Err ending)) = fault_status (fault_in ending)
exit_of None = usage

-- the journal that the command line names
abbrev pub journal_name : ArgMatches → Option (List ℕ)
journal_name m = first_value (found_of m) (codes "journal")
