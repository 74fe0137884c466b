-- What is durable of a run's history, and leave to call a transport. The public clauses of a run cite `IsFrontOf`; the others serve the
-- clauses between a worker's wait and its transport. The histories of these definitions stand oldest first. This project's own choice.
use Rattle.std.specs.Prelude.{◌≡◌, ◌<◌, ℕ, Bool, true, List, length, take, Some, slice_get}
use Rattle.logbook.specs.Pages.{Book}
use Rattle.nd_history.specs.declared.entry.Entry.{Entry}
use Rattle.nd_history.specs.declared.entry.Entry.TheVariants.{Chosen, Started}
use Rattle.nd_keeping.specs.Listing.{Listed}
use Rattle.nd_keeping.specs.Scribing.{Scribing}
use Rattle.nd_leases.specs.declared.ticket.Ticket.{Ticket}
use Rattle.nd_run_desk.specs.declared.keeping.Step.{Step}
use Rattle.nd_run_desk.specs.declared.keeping.Step.TheVariants.{Call, Build}

-- which book the entries of a run are listed in, and whether the run keeps them in a journal
pub record Keeping : Type 0 where
  pub book : Book
  pub keeps : Bool

-- the entries are the first ones of a history
pub record IsFrontOf (front history : List Entry) : Type 0 where
  pub is : take (length front) history ≡ front

-- the whole history is handed to this scribe, and known to be
pub record HasHandedOver (scribe : Scribing) (handed : Listed) (history : List Entry) : Type 0 where
  pub known : handed ≡ scribe.handed
  pub whole : handed.entries ≡ history

-- where entries are kept, this one is at that place among those that are durable
pub record IsDurableAt (keeps : Bool) (durable : List Entry) (place : ℕ) (e : Entry) : Type 0 where
  pub there : keeps ≡ true → slice_get durable place ≡ Some e

-- .. the choice of this very lease
pub record IsChoiceDurableAt (keeps : Bool) (durable : List Entry) (place : ℕ) (t : Ticket) : Type 0 where
  pub own : keeps ≡ true → place ≡ t.serial
  pub choice : IsDurableAt keeps durable place (Chosen t.drv t.machine t.slot)

-- .. a start of the lease's derivation, behind its choice
pub record IsStartDurableAt (keeps : Bool) (durable : List Entry) (place : ℕ) (t : Ticket) : Type 0 where
  pub behind : keeps ≡ true → t.serial < place
  pub paths : List (List ℕ)
  pub start : IsDurableAt keeps durable place (Started t.drv paths)

-- the entry is a start of derivation d
pub record IsStartOf (d : ℕ) (e : Entry) : Type 0 where
  pub paths : List (List ℕ)
  pub is : e ≡ Started d paths

-- what stands at the place allows the worker of a lease its next step: its own choice to call the machine and copy, and its start to build
abbrev pub Allows : Bool → List Entry → ℕ → Step → Ticket → Type 0
Allows keeps durable place Call t = IsChoiceDurableAt keeps durable place t
Allows keeps durable place Build t = IsStartDurableAt keeps durable place t
