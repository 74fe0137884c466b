-- When calls are refused. The histories of these definitions stand newest first. Public clauses cite this, but for `IsTicketOf`, which
-- serves a private one.
use Rattle.std.specs.Prelude.{◌≡◌, ℕ, true, List, Option, Some, MatchOption}
use Rattle.nd_ledger.specs.declared.refusal.Refusal.{Refusal}
use Rattle.nd_ledger.specs.declared.refusal.Refusal.TheVariants.{NotLive, AlreadyStarted, NotStarted, Uncovered, Extra, BadReferences, AlreadyStopped, Memory}
use Rattle.nd_history.specs.declared.entry.Entry.{Entry}
use Rattle.nd_leases.specs.declared.ticket.Ticket.{Ticket}
use Rattle.nd_history.specs.History.{lease_of, is_leased, is_started, has_stop}

-- the ticket is a live lease's
abbrev pub IsLive : List Entry → Ticket → Type 0
IsLive past t = lease_of t.drv past ≡ Some t

-- what is answered of derivation d's lease: its ticket, which is a live lease's, or none where it isn't leased
abbrev pub IsTicketOf : List Entry → ℕ → Option Ticket → Type 0
IsTicketOf past d answer = MatchOption answer (is_leased d past ≡ true → ⊥) (λ t. (t.drv ≡ d) × IsLive past t)

-- `failed` is refused where the ticket isn't a live lease's, and nowhere else
abbrev pub IsFailRefused : List Entry → Ticket → Refusal → Type 0
IsFailRefused past t NotLive = IsLive past t → ⊥
IsFailRefused past t AlreadyStarted = ⊥
IsFailRefused past t NotStarted = ⊥
IsFailRefused past t Uncovered = ⊥
IsFailRefused past t Extra = ⊥
IsFailRefused past t BadReferences = ⊥
IsFailRefused past t AlreadyStopped = ⊥
IsFailRefused past t Memory = ⊥

-- `down` is refused where the ticket isn't a live lease's, and then where the lease was started
abbrev pub IsDownRefused : List Entry → Ticket → Refusal → Type 0
IsDownRefused past t NotLive = IsLive past t → ⊥
IsDownRefused past t AlreadyStarted = IsLive past t × (is_started t.drv past ≡ true)
IsDownRefused past t NotStarted = ⊥
IsDownRefused past t Uncovered = ⊥
IsDownRefused past t Extra = ⊥
IsDownRefused past t BadReferences = ⊥
IsDownRefused past t AlreadyStopped = ⊥
IsDownRefused past t Memory = ⊥

-- `stop` is refused where a stop was asked for before
abbrev pub IsStopRefused : List Entry → Refusal → Type 0
IsStopRefused past NotLive = ⊥
IsStopRefused past AlreadyStarted = ⊥
IsStopRefused past NotStarted = ⊥
IsStopRefused past Uncovered = ⊥
IsStopRefused past Extra = ⊥
IsStopRefused past BadReferences = ⊥
IsStopRefused past AlreadyStopped = has_stop past ≡ true
IsStopRefused past Memory = ⊥
