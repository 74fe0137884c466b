-- What a command is told where it gave no answer.
use Rattle.nd_cli.specs.declared.fault.CliFault.{CliFault}
use Rattle.nd_cli.specs.declared.fault.CliFault.TheVariants.{Read, Memory}
use Rattle.nd_explain.specs.declared.failures.Failure.{Failure}

-- a file wasn't read: it can't be opened or a read of it was refused, or there was no memory for its bytes
abbrev pub IsUnreadBy : CliFault → Type 0
IsUnreadBy Read = Unit {0}
IsUnreadBy Memory = Unit {0}
IsUnreadBy _ = ⊥

-- .. as a command tells it
abbrev pub IsUnread : Failure → Type 0
IsUnread failure = IsUnreadBy failure.fault
