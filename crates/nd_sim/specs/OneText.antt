-- One script over one set of inputs has one text and one status: each law is the contract of a function of `laws`.
use Rattle.std.specs.Prelude.{◌≡◌, ℕ, List, reverse}
use Rattle.nd_history.specs.declared.entry.Entry.{Entry}
use Rattle.nd_history.specs.Premises.{Premises}
use Rattle.nd_history.specs.Legal.{IsLegal}
use Rattle.nd_script.specs.declared.command.Command.{Command}
use Rattle.nd_sim.specs.Runs.{IsObeyed, IsRun, IsSimulation}

-- after one history, one command leads to one history and one text: an entry, a refusal and a reply exclude one another, and there
-- is one of them
abbrev pub OneOutcome : Type 0
OneOutcome =
    (i : Premises) (old new other : List Entry) (command : Command) (text said : List ℕ) → IsObeyed i old new command text → IsObeyed i old other command said
    → (new ≡ other) × (text ≡ said)

-- one list of commands leads to one history and one text
abbrev pub OneRun : Type 0
OneRun =
    (i : Premises) (commands : List Command) (new other : List Entry) (text said : List ℕ) → IsRun i commands new text → IsRun i commands other said
    → (new ≡ other) × (text ≡ said)

-- .. and the history is legal
abbrev pub RunsAreLegal : Type 0
RunsAreLegal = (i : Premises) (commands : List Command) (history : List Entry) (text : List ℕ) → IsRun i commands history text → IsLegal i (reverse history)

-- two simulations of one script over the same inputs have one text and one status
abbrev pub OneSimulation : Type 0
OneSimulation =
    (i : Premises) (commands : List Command) (status other : ℕ) (text said : List ℕ) → IsSimulation i commands status text → IsSimulation i commands other said
    → (status ≡ other) × (text ≡ said)
