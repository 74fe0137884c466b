-- What a journal holds after a crash. Each law is the contract of a function of `laws`. Histories stand oldest first.
use Rattle.std.specs.Prelude.{◌==◌, ℕ, Bool, List, ◌++◌, length, reverse}
use Rattle.std.specs.List.{All}
use Rattle.nd_desk.specs.declared.event.Event.{Event}
use Rattle.nd_desk.specs.declared.fault.SessionFault.{SessionFault}
use Rattle.nd_history.specs.declared.entry.Entry.{Entry}
use Rattle.nd_history.specs.Premises.{Premises}
use Rattle.nd_history.specs.Legal.{IsLegal}
use Rattle.nd_history.specs.Sameness.{BeginsWith}
use Rattle.nd_history_text.specs.Sound.{IsSound}
use Rattle.nd_journal.specs.WholeLines.{whole_lines}
use Rattle.nd_serve_command.specs.Resumes.{IsResumable}
use Rattle.nd_serve.specs.Sessions.{Opening, IsSession, IsSessionPart, IsWhole, first_of}
use Rattle.nd_serve.specs.Turns.{Turn}
use Rattle.nd_serve_command.specs.Crashes.{IsBegunWith, SurvivesCrashes, IsRunLeft, KeepsRun}

-- a session that came to the end of its input
abbrev pub SessionsSurvive : Type 0
SessionsSurvive =
    (i : Premises) (start : List Entry) (fresh : Bool) (base : List ℕ) (opening : Opening) (turns : List Turn) (history : List Entry)
    (events last : List Event) → IsBegunWith i fresh base start → IsSession i start (first_of fresh) opening turns history events
    → IsWhole turns last → SurvivesCrashes i start fresh base (events ++ last)

-- .. and one that ended early
abbrev pub PartsSurvive : Type 0
PartsSurvive =
    (i : Premises) (start : List Entry) (fresh : Bool) (base : List ℕ) (fault : SessionFault) (events : List Event)
    → IsBegunWith i fresh base start → IsSessionPart i start (first_of fresh) fault events → SurvivesCrashes i start fresh base events

-- a journal that can be gone on from, cut to its whole lines, is one to begin a session with, which is fresh where there are none
abbrev pub JournalsBegin : Type 0
JournalsBegin =
    (i : Premises) (bytes : List ℕ) (start : List Entry) → IsResumable i bytes start
    → IsBegunWith i (length (whole_lines bytes) == 0) (whole_lines bytes) start

-- a run, at a moment when these entries are durable and these were handed to the journal
abbrev pub RunsSurvive : Type 0
RunsSurvive =
    (i : Premises) (durable handed : List Entry) (file : List ℕ) → BeginsWith handed durable → All IsSound handed → IsLegal i (reverse handed)
    → IsRunLeft durable handed file → KeepsRun i durable handed file
