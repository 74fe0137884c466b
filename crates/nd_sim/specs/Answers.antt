-- What the commands of a script do to a dispatch. Histories called `past` stand newest first, the others oldest first.
-- The commands are this project's own.
-- The public clauses cite `IsNamed` and `HasNoLease`, and the rest by way of `ComesTo` and of what a simulation writes.
use Rattle.std.specs.Prelude.{◌≡◌, ◌⊎◌, ℕ, ◌<◌, List, [], ◌∷◌, ◌++◌, length, reverse, replicate, Some, None}
use Rattle.nd_path.specs.PathSets.{IsRising}
use Rattle.nd_history.specs.declared.entry.Entry.{Entry}
use Rattle.nd_history.specs.declared.entry.Why.{Why}
use Rattle.nd_leases.specs.declared.ticket.Ticket.{Ticket}
use Rattle.nd_history.specs.Premises.{Premises}
use Rattle.nd_history.specs.History.{lease_of}
use Rattle.nd_history.specs.Choices.{machines_in}
use Rattle.nd_history.specs.Legal.{IsAllowed}
use Rattle.nd_history.specs.References.{outputs_of}
use Rattle.nd_provision.specs.Stored.{IsMissing}
use Rattle.nd_ledger.specs.declared.refusal.Refusal.{Refusal}
use Rattle.nd_ledger.specs.Refusals.{IsFailRefused, IsDownRefused, IsStopRefused}
use Rattle.nd_ledger.specs.Moves.{IsStartRefused, IsEndRefused}
use Rattle.nd_script.specs.declared.command.Command.{Command}
use Rattle.nd_script.specs.declared.command.Command.TheVariants.{Start, StartWith, Built, BuiltWith, Fail, Lose, Down, Stop, Drain, Enable, Ask}

-- the derivation or the machine that a command names is there
abbrev pub IsNamed : Premises → Command → Type 0
IsNamed i (Start d) = d < length i.graph.paths
IsNamed i (StartWith d paths) = d < length i.graph.paths
IsNamed i (Built d) = d < length i.graph.paths
IsNamed i (BuiltWith d refs) = d < length i.graph.paths
IsNamed i (Fail d c) = d < length i.graph.paths
IsNamed i (Lose d) = d < length i.graph.paths
IsNamed i (Down d) = d < length i.graph.paths
IsNamed i Stop = Unit {0}
IsNamed i (Drain m) = m < machines_in i
IsNamed i (Enable m) = m < machines_in i
IsNamed i (Ask d) = d < length i.graph.paths

-- ---- what is added

-- the start of derivation d's lease, with all that its machine lacks
pub record IsStartInFull (i : Premises) (past : List Entry) (d : ℕ) (e : Entry) : Type 0 where
  pub ticket : Ticket
  pub lease : lease_of d past ≡ Some ticket
  pub paths : List (List ℕ)
  pub missing : IsMissing i past d ticket.machine paths
  pub rising : IsRising paths
  pub is : e ≡ Entry.Started d paths

-- no references for any output of derivation d
abbrev pub no_references : Premises → ℕ → List (List (List ℕ))
no_references i d = replicate (length (outputs_of i d)) []

-- the entry that a command adds
abbrev pub Adds : Premises → List Entry → Command → Entry → Type 0
Adds i past (Start d) e = IsStartInFull i past d e
Adds i past (StartWith d paths) e = e ≡ Entry.Started d paths
Adds i past (Built d) e = e ≡ Entry.Built d (no_references i d)
Adds i past (BuiltWith d refs) e = e ≡ Entry.Built d refs
Adds i past (Fail d c) e = e ≡ Entry.Failed d (Why.Status c)
Adds i past (Lose d) e = e ≡ Entry.Failed d Why.Lost
Adds i past (Down d) e = e ≡ Entry.Down d
Adds i past Stop e = e ≡ Entry.Stop
Adds i past (Drain m) e = e ≡ Entry.Drain m
Adds i past (Enable m) e = e ≡ Entry.Enable m
Adds i past (Ask d) e = ⊥

-- the command's entry was added, which is allowed there, and nothing else
pub record HasAdded (i : Premises) (old new : List Entry) (command : Command) : Type 0 where
  pub entry : Entry
  pub adds : Adds i (reverse old) command entry
  pub allowed : IsAllowed i entry (reverse old)
  pub grown : new ≡ old ++ entry ∷ []

-- ---- what is refused

-- derivation d has no live lease, so there is no ticket for the call
pub record HasNoLease (past : List Entry) (d : ℕ) (refusal : Refusal) : Type 0 where
  pub none : lease_of d past ≡ None
  pub is : refusal ≡ Refusal.NotLive

-- the start with all that the machine lacks is refused
pub record IsFullStartRefused (i : Premises) (past : List Entry) (d : ℕ) (ticket : Ticket) (refusal : Refusal) : Type 0 where
  pub paths : List (List ℕ)
  pub missing : IsMissing i past d ticket.machine paths
  pub refused : IsStartRefused i past ticket paths refusal

-- why the call with the live lease's ticket is refused
abbrev pub IsRefusedWith : Premises → List Entry → Command → Ticket → Refusal → Type 0
IsRefusedWith i past (Start d) t e = IsFullStartRefused i past d t e
IsRefusedWith i past (StartWith d paths) t e = IsStartRefused i past t paths e
IsRefusedWith i past (Built d) t e = IsEndRefused i past t (no_references i d) e
IsRefusedWith i past (BuiltWith d refs) t e = IsEndRefused i past t refs e
IsRefusedWith i past (Fail d c) t e = IsFailRefused past t e
IsRefusedWith i past (Lose d) t e = IsFailRefused past t e
IsRefusedWith i past (Down d) t e = IsDownRefused past t e
IsRefusedWith i past Stop t e = ⊥
IsRefusedWith i past (Drain m) t e = ⊥
IsRefusedWith i past (Enable m) t e = ⊥
IsRefusedWith i past (Ask d) t e = ⊥

-- the call with the ticket of derivation d's live lease is refused
pub record IsLeaseRefused (i : Premises) (past : List Entry) (d : ℕ) (command : Command) (refusal : Refusal) : Type 0 where
  pub ticket : Ticket
  pub lease : lease_of d past ≡ Some ticket
  pub refused : IsRefusedWith i past command ticket refusal

-- there is no ticket, or the call with it is refused
abbrev pub IsTicketRefused : Premises → List Entry → ℕ → Command → Refusal → Type 0
IsTicketRefused i past d command e = HasNoLease past d e ⊎ IsLeaseRefused i past d command e

-- why a command is refused, want of memory aside
abbrev pub IsCommandRefused : Premises → List Entry → Command → Refusal → Type 0
IsCommandRefused i past (Start d) e = IsTicketRefused i past d (Start d) e
IsCommandRefused i past (StartWith d paths) e = IsTicketRefused i past d (StartWith d paths) e
IsCommandRefused i past (Built d) e = IsTicketRefused i past d (Built d) e
IsCommandRefused i past (BuiltWith d refs) e = IsTicketRefused i past d (BuiltWith d refs) e
IsCommandRefused i past (Fail d c) e = IsTicketRefused i past d (Fail d c) e
IsCommandRefused i past (Lose d) e = IsTicketRefused i past d (Lose d) e
IsCommandRefused i past (Down d) e = IsTicketRefused i past d (Down d) e
IsCommandRefused i past Stop e = IsStopRefused past e
IsCommandRefused i past (Drain m) e = ⊥
IsCommandRefused i past (Enable m) e = ⊥
IsCommandRefused i past (Ask d) e = ⊥
