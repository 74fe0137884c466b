-- What is said of a fault of a journal, and which part of the journal is shown. The words are this project's own: they are those of the table
-- of docs/REFUSALS.md. Public clauses cite `advice_words` and `part_named`; the others serve private ones.
use Rattle.std.specs.Prelude.{ℕ, ◌+◌, ◌^◌, List, Option, Some, None, codes, nat_lt, if◌then◌else◌}
use Rattle.nd_explain.specs.AdviceWords.{advice_words as words_on}
use Rattle.nd_explain.specs.declared.parts.Part.{Part}
use Rattle.nd_explain.specs.declared.parts.Part.TheVariants.{Nowhere, Line}
use Rattle.nd_serve_command.specs.declared.resume_error.ResumeError.{ResumeError}
use Rattle.nd_serve_command.specs.declared.resume_error.ResumeError.TheVariants.{BadLine, Illegal, Memory}
use Rattle.nd_serve_command.specs.declared.fault.ServeFault.{ServeFault}
use Rattle.nd_serve_command.specs.declared.fault.ServeFault.TheVariants.{Cli, NotEmpty, InUse, Journal, JournalFailed}

abbrev pub advice_words_of_journal : ResumeError → List ℕ × List ℕ
advice_words_of_journal (BadLine number) = (
  codes "the line isn't one of a journal: nix-dispatch-history 2, then a line for each entry, and perhaps the beginning of one more",
  codes "take the journal as it was written",
)
advice_words_of_journal (Illegal index rule) = (
  codes "the entry isn't allowed after those before it, by the rule that is named",
  codes "give the bundle and the options that the journal was begun with",
)
advice_words_of_journal Memory = (
  codes "there was no memory",
  codes "give the program more memory, or less to do",
)

-- the cause and the cure
abbrev pub advice_words : ServeFault → List ℕ × List ℕ
advice_words (Cli fault) = words_on fault
advice_words NotEmpty = (
  codes "the journal holds something already, and --resume isn't given",
  codes "give --resume to go on from it, or name another file",
)
advice_words InUse = (
  codes "another program has a lock on the journal, or has made it meanwhile",
  codes "wait until that program has ended, or name another file",
)
advice_words (Journal refusal) = advice_words_of_journal refusal
advice_words JournalFailed = (
  codes "the journal can't be opened, or the system refused to read, cut or write it or to make it durable, or the thread of a run that writes it found no memory or wasn't started",
  codes "look at what the system says of it; where it says nothing, give the program more memory or allow it more threads",
)

-- the line of the journal that a fault is about: its first line is no entry's, and a place beyond the numbers of 64 bits isn't told
abbrev pub line_of_journal : ResumeError → Option ℕ
line_of_journal (BadLine number) = Some number
line_of_journal (Illegal index rule) = if nat_lt (index + 2) (2 ^ 64) then Some (index + 2) else None
line_of_journal Memory = None

abbrev pub line_named : ServeFault → Option ℕ
line_named (Cli fault) = None
line_named NotEmpty = None
line_named InUse = None
line_named (Journal refusal) = line_of_journal refusal
line_named JournalFailed = None

-- the part of the journal that is shown: that line, where there is one
abbrev pub part_of_line : Option ℕ → Part
part_of_line (Some number) = Line number
part_of_line None = Nowhere

abbrev pub part_named : ServeFault → Part
part_named fault = part_of_line (line_named fault)
