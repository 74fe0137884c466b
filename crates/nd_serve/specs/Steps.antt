-- What the parts of a turn come to, before they are put together. No public clause cites this: it serves private clauses alone.
use Rattle.std.specs.Prelude.{◌≡◌, ℕ, ◌<◌, Bool, true, false, List, [], ◌∷◌, ◌++◌, drop, length, Option, None}
use Rattle.std.specs.List.{All, flat_map}
use Rattle.std.specs.Io.KnownBytes.{Appends}
use Rattle.nd_desk.specs.declared.event.Event.{Event}
use Rattle.nd_desk.specs.declared.event.Event.TheVariants.{Ended}
use Rattle.nd_desk.specs.declared.fault.SessionFault.{SessionFault}
use Rattle.nd_desk.specs.Handing.{handed}
use Rattle.nd_desk.specs.Hearing.{AreHeard, HearsNext, HearsNothing, HearsSoFar}
use Rattle.nd_desk.specs.Notes.{Seen, Notes}
use Rattle.nd_history.specs.declared.entry.Entry.{Entry}
use Rattle.nd_history.specs.Premises.{Premises}
use Rattle.nd_history_text.specs.HistoryTexts.{line_of}
use Rattle.nd_history_text.specs.Sound.{IsSound}
use Rattle.nd_ledger.specs.Worlds.{World}
use Rattle.nd_sim.specs.Answers.{IsNamed}
use Rattle.nd_sim.specs.Runs.{IsPumped}
use Rattle.nd_path.specs.PathSets.{IsRising}
use Rattle.nd_leases.specs.declared.ticket.Ticket.{Ticket}
use Rattle.nd_provision.specs.Stored.{IsMissing}
use Rattle.nd_serve.specs.Turns.{Turn, IsTaken, IsReply, IsJobText, job_row, kept_text, answer_text, ready_line}
use Rattle.nd_serve.specs.Sessions.{Opening, IsOpening, IsOpeningPart, IsTurnPart, IsCut, first_text, opening_events, turn_events}
use Rattle.nd_serve.specs.declared.request.Request.{Request}
use Rattle.nd_serve.specs.declared.request.Request.TheVariants.{Call, Job, Report, Unknown}

-- what a request names is there
abbrev pub IsRequestNamed : Premises → Request → Type 0
IsRequestNamed i (Call command) = IsNamed i command
IsRequestNamed i (Job d) = d < length i.graph.paths
IsRequestNamed i Report = Unit {0}
IsRequestNamed i Unknown = Unit {0}

-- a writer has the reply to a request
pub record WritesReply (i : Premises) (old new : List Entry) (request : Request) (before written : Option (List ℕ)) : Type 0 where
  pub text : List ℕ
  pub reply : IsReply i old new request text
  pub appended : Appends before written text

-- .. of two dispatches
abbrev pub RepliesBetween : World → World → Request → Option (List ℕ) → Option (List ℕ) → Type 0
RepliesBetween old new request before written = WritesReply old.inputs old.history new.history request before written

pub record WritesJob (i : Premises) (past : List Entry) (d : ℕ) (before written : Option (List ℕ)) : Type 0 where
  pub text : List ℕ
  pub is : IsJobText i past d text
  pub appended : Appends before written text

-- .. of a live lease
pub record WritesJobOf (i : Premises) (past : List Entry) (ticket : Ticket) (before written : Option (List ℕ)) : Type 0 where
  pub paths : List (List ℕ)
  pub missing : IsMissing i past ticket.drv ticket.machine paths
  pub rising : IsRising paths
  pub appended : Appends before written (job_row i ticket paths)

-- these bytes, and the lines of the entries from the n-th on, each of which reads back from its line
pub record AreLinesSince (n : ℕ) (history : List Entry) (first lines : List ℕ) : Type 0 where
  pub text : lines ≡ first ++ flat_map line_of (drop n history)
  pub sound : All IsSound (drop n history)

-- a reply, and the line that ends it
pub record IsAnswer (i : Premises) (old new : List Entry) (request : Request) (answer : List ℕ) : Type 0 where
  pub text : List ℕ
  pub reply : IsReply i old new request text
  pub is : answer ≡ text ++ ready_line

pub record IsOpeningAnswer (i : Premises) (old new : List Entry) (answer : List ℕ) : Type 0 where
  pub text : List ℕ
  pub pumped : IsPumped i old new text
  pub is : answer ≡ text ++ ready_line

-- a turn of this line, with its answer and its lines
pub record IsPrepared (i : Premises) (old new : List Entry) (line answer lines : List ℕ) : Type 0 where
  pub turn : Turn
  pub taken : IsTaken i old new turn
  pub heard : turn.line ≡ line
  pub says : answer ≡ answer_text turn
  pub keeps : lines ≡ kept_text turn

-- .. of the opening
pub record IsOpeningPrepared (i : Premises) (old new : List Entry) (first answer lines : List ℕ) : Type 0 where
  pub opening : Opening
  pub opens : IsOpening i old new opening
  pub says : answer ≡ opening.text ++ ready_line
  pub keeps : lines ≡ first_text first opening

-- .. of two dispatches
abbrev pub PreparesOpening : World → World → List ℕ → List ℕ → List ℕ → Type 0
PreparesOpening old new first answer lines = IsOpeningPrepared old.inputs old.history new.history first answer lines

-- what a desk has of the opening
pub record Opens (i : Premises) (old new : List Entry) (first : List ℕ) (before after : Seen) : Type 0 where
  pub opening : Opening
  pub opens : IsOpening i old new opening
  pub noted : Notes before after (opening_events first opening)
  pub unread : HearsNothing before after

pub record OpensPart (i : Premises) (old : List Entry) (first : List ℕ) (before after : Seen) (fault : SessionFault) : Type 0 where
  pub events : List Event
  pub part : IsOpeningPart i old first fault events
  pub noted : Notes before after events

-- .. of a turn, behind its line
pub record Takes (i : Premises) (old new : List Entry) (line : List ℕ) (before after : Seen) : Type 0 where
  pub turn : Turn
  pub taken : IsTaken i old new turn
  pub heard : turn.line ≡ line
  pub noted : Notes before after (handed (kept_text turn) (answer_text turn))
  pub unread : HearsNothing before after

pub record TakesPart (i : Premises) (old : List Entry) (line : List ℕ) (before after : Seen) (fault : SessionFault) : Type 0 where
  pub events : List Event
  pub part : IsTurnPart i old line fault events
  pub noted : Notes before after events

-- .. with its line
pub record TakesTurn (i : Premises) (old new : List Entry) (before after : Seen) : Type 0 where
  pub turn : Turn
  pub taken : IsTaken i old new turn
  pub noted : Notes before after (turn_events turn)
  pub read : HearsSoFar before.left after.left (turn_events turn)

-- the input ended
pub record Ends (old new : List Entry) (before after : Seen) : Type 0 where
  pub kept : new ≡ old
  pub noted : Notes before after (Ended ∷ [])
  pub none : HearsNext before after None

-- whether there was a line, and its turn
abbrev pub GoesOn : Premises → List Entry → List Entry → Seen → Seen → Bool → Type 0
GoesOn i old new before after true = TakesTurn i old new before after
GoesOn i old new before after false = Ends old new before after

pub record CutsTurn (i : Premises) (old : List Entry) (before after : Seen) (fault : SessionFault) : Type 0 where
  pub events : List Event
  pub cut : IsCut i old fault events
  pub noted : Notes before after events
  pub heard : AreHeard before.left events
