-- A turn of a session: a line, and what is written and kept of it. Histories called `past` stand newest first, the others oldest first.
-- The forms are this project's own.
-- Public clauses cite this.
use Rattle.std.specs.Prelude.{◌≡◌, ◌⊎◌, ℕ, List, [], ◌∷◌, ◌++◌, length, reverse, slice_index_or, Some, codes}
use Rattle.std.specs.Fmt.{decimal}
use Rattle.std.specs.List.{All, flat_map}
use Rattle.nd_path.specs.PathSets.{IsRising}
use Rattle.nd_hook.specs.ReplyText.{line}
use Rattle.nd_history.specs.declared.entry.Entry.{Entry}
use Rattle.nd_history.specs.Premises.{Premises}
use Rattle.nd_history.specs.History.{lease_of}
use Rattle.nd_history.specs.Choices.{machines_in}
use Rattle.nd_history.specs.Standing.{drvs_in}
use Rattle.nd_leases.specs.declared.ticket.Ticket.{Ticket}
use Rattle.nd_provision.specs.Stored.{IsMissing}
use Rattle.nd_ledger.specs.declared.refusal.Refusal.{Refusal}
use Rattle.nd_history_text.specs.HistoryTexts.{line_of}
use Rattle.nd_history_text.specs.Rows.{row}
use Rattle.nd_history_text.specs.Sound.{IsSound}
use Rattle.nd_report.specs.Reports.{IsReport}
use Rattle.nd_sim.specs.Answers.{HasNoLease}
use Rattle.nd_sim.specs.Runs.{IsTurn, refused_line}
use Rattle.nd_serve.specs.Asked.{Asks}
use Rattle.nd_serve.specs.declared.request.Request.{Request}
use Rattle.nd_serve.specs.declared.request.Request.TheVariants.{Call, Job, Report, Unknown}

-- the line that ends each answer
unfoldable pub ready_line : List ℕ
ready_line = line (codes "ready")

-- the answer to a line that asks for nothing that is known
unfoldable pub unknown_line : List ℕ
unknown_line = line (codes "refused BadLine")

-- the words of a job's line behind `job`: the derivation, the lease's machine and slot, the derivation's path and the paths to copy
abbrev pub job_words : Ticket → List ℕ → List (List ℕ) → List (List ℕ)
job_words ticket path paths = decimal ticket.drv ∷ decimal ticket.machine ∷ decimal ticket.slot ∷ path ∷ paths

-- .. of a lease over these inputs
abbrev pub job_row : Premises → Ticket → List (List ℕ) → List ℕ
job_row i ticket paths = row (codes "job") (job_words ticket (slice_index_or i.graph.paths ticket.drv []) paths)

-- derivation d has a lease, and this is its job: the paths are those that the machine lacks
pub record IsJobOf (i : Premises) (past : List Entry) (d : ℕ) (text : List ℕ) : Type 0 where
  pub ticket : Ticket
  pub lease : lease_of d past ≡ Some ticket
  pub own : ticket.drv ≡ d
  pub paths : List (List ℕ)
  pub missing : IsMissing i past d ticket.machine paths
  pub rising : IsRising paths
  pub is : text ≡ job_row i ticket paths

-- .. or it has none, which is said
pub record IsNoJob (past : List Entry) (d : ℕ) (text : List ℕ) : Type 0 where
  pub refusal : Refusal
  pub none : HasNoLease past d refusal
  pub is : text ≡ refused_line refusal

-- what is answered about derivation d
abbrev pub IsJobText : Premises → List Entry → ℕ → List ℕ → Type 0
IsJobText i past d text = IsJobOf i past d text ⊎ IsNoJob past d text

-- a question leaves the history as it was
pub record IsToldOnly (old new : List Entry) (Text : List ℕ → Type 0) (text : List ℕ) : Type 0 where
  pub kept : new ≡ old
  pub is : Text text

-- what is written of a request, and the history behind it
abbrev pub IsReply : Premises → List Entry → List Entry → Request → List ℕ → Type 0
IsReply i old new (Call command) text = IsTurn i old new command text
IsReply i old new (Job d) text = IsToldOnly old new (IsJobText i (reverse old) d) text
IsReply i old new Report text = IsToldOnly old new (IsReport i (reverse old) (drvs_in i)) text
IsReply i old new Unknown text = IsToldOnly old new (λ t. t ≡ unknown_line) text

-- a line, what it asks for, the entries that it added with the steps of the pump behind it, and what is written of it
pub record Turn : Type 0 where
  pub line : List ℕ
  pub request : Request
  pub added : List Entry
  pub text : List ℕ

-- .. between two histories; each entry reads back from its line
pub record IsTaken (i : Premises) (old new : List Entry) (turn : Turn) : Type 0 where
  pub asks : Asks (length i.graph.paths) (machines_in i) turn.line turn.request
  pub replies : IsReply i old new turn.request turn.text
  pub grown : new ≡ old ++ turn.added
  pub sound : All IsSound turn.added

-- what the journal gets of a turn: a line for each entry
abbrev pub kept_text : Turn → List ℕ
kept_text turn = flat_map line_of turn.added

-- what is answered: the turn's text, and that the next line may come
abbrev pub answer_text : Turn → List ℕ
answer_text turn = turn.text ++ ready_line
