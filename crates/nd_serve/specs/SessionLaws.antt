-- What a session is: the simulation of its commands, with a line behind the text of each. Each law is the contract of a function of `laws`.
use Rattle.std.specs.Prelude.{◌≡◌, ℕ, List, [], ◌∷◌, ◌++◌, reverse}
use Rattle.std.specs.List.{flat_map}
use Rattle.nd_desk.specs.declared.event.Event.{Event}
use Rattle.nd_desk.specs.Notes.{answered}
use Rattle.nd_history.specs.declared.entry.Entry.{Entry}
use Rattle.nd_history.specs.Premises.{Premises}
use Rattle.nd_history.specs.Legal.{IsLegal}
use Rattle.nd_script.specs.declared.command.Command.{Command}
use Rattle.nd_sim.specs.Runs.{IsRun}
use Rattle.nd_serve.specs.declared.request.Request.{Request}
use Rattle.nd_serve.specs.declared.request.Request.TheVariants.{Call, Job, Report, Unknown}
use Rattle.nd_serve.specs.Turns.{Turn, answer_text, ready_line}
use Rattle.nd_serve.specs.Sessions.{Opening, IsSession}

-- the command that a line asks for, if it is one of a script
abbrev pub command_of : Request → List Command
command_of (Call command) = command ∷ []
command_of (Job d) = []
command_of Report = []
command_of Unknown = []

abbrev pub commands_of : List Turn → List Command
commands_of turns = flat_map (λ turn. command_of turn.request) turns

-- what a simulation writes of it
abbrev pub simulated_of : Request → List ℕ → List ℕ
simulated_of (Call command) text = text
simulated_of (Job d) text = []
simulated_of Report text = []
simulated_of Unknown text = []

abbrev pub simulated_text : Opening → List Turn → List ℕ
simulated_text opening turns = opening.text ++ flat_map (λ turn. simulated_of turn.request turn.text) turns

-- what is answered of a session: behind the text of the opening, and behind that of each turn, the line that says so
abbrev pub session_text : Opening → List Turn → List ℕ
session_text opening turns = (opening.text ++ ready_line) ++ flat_map answer_text turns

-- The commands of a session that began with the empty history are a run of the simulation, with its text and its history: at each line
-- `ready`, and so behind each turn, what was answered is the text of the commands so far, with a `ready` behind the opening's and behind each
-- turn's, and with the answers to questions.
pub record IsSimulated (i : Premises) (opening : Opening) (turns : List Turn) (history : List Entry) (events : List Event) : Type 0 where
  pub run : IsRun i (commands_of turns) history (simulated_text opening turns)
  pub says : answered events ≡ session_text opening turns

abbrev pub SessionsAreRuns : Type 0
SessionsAreRuns =
    (i : Premises) (first : List ℕ) (opening : Opening) (turns : List Turn) (history : List Entry) (events : List Event)
    → IsSession i [] first opening turns history events → IsSimulated i opening turns history events

-- a session that began with a legal history has a legal one, which begins with it
abbrev pub SessionsAreLegal : Type 0
SessionsAreLegal =
    (i : Premises) (start : List Entry) (first : List ℕ) (opening : Opening) (turns : List Turn) (history : List Entry) (events : List Event)
    → IsLegal i (reverse start) → IsSession i start first opening turns history events → IsLegal i (reverse history)
