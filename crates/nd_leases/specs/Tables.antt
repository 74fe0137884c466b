-- Leases in tables, as contracts see them.
-- Public clauses cite this.
use Rattle.std.specs.Prelude.{◌≡◌, ℕ, ◌<◌, Bool, List, [], length, Option, None, Some, slice_index_or}
use Rattle.nd_leases.specs.declared.ticket.Ticket.{Ticket}
use Rattle.nd_leases.specs.Tickets.{ticket_of, ticket_on, tickets_on, AreApart}

pub record Tables : Type 0 where
  -- for each derivation its ticket, if it has one
  pub holders : List (Option Ticket)
  -- for each derivation whether it is marked as started
  pub started : List Bool
  -- for each machine how many tickets are on it
  pub loads : List ℕ
  -- for each machine its slots, as far as they were needed, with the derivation on each
  pub rows : List (List (Option ℕ))
  -- how many tickets there are
  pub len : ℕ

-- the ticket that the tables have for derivation d
abbrev pub holder_at : Tables → ℕ → Option Ticket
holder_at tables d = slice_index_or tables.holders d None

-- the load that they have for machine m
abbrev pub load_at : Tables → ℕ → ℕ
load_at tables m = slice_index_or tables.loads m 0

-- the slots that they have of machine m
abbrev pub row_at : Tables → ℕ → List (Option ℕ)
row_at tables m = slice_index_or tables.rows m []

-- the derivation that they have on slot s of machine m
abbrev pub slot_at : Tables → ℕ → ℕ → Option ℕ
slot_at tables m s = slice_index_or (row_at tables m) s None

-- how many slots they have of machine m
abbrev pub room_at : Tables → ℕ → ℕ
room_at tables m = length (row_at tables m)

-- the derivation of a ticket, if there is one
abbrev pub drv_of : Option Ticket → Option ℕ
drv_of None = None
drv_of (Some t) = Some t.drv

-- the tables hold these tickets, which are apart: what they have for each derivation, machine and slot is what the list says
pub record AreTabled (tables : Tables) (tickets : List Ticket) : Type 0 where
  pub apart : AreApart tickets
  pub holders : (d : ℕ) → holder_at tables d ≡ ticket_of d tickets
  pub loads : (m : ℕ) → load_at tables m ≡ tickets_on m tickets
  pub slots : (m s : ℕ) → slot_at tables m s ≡ drv_of (ticket_on m s tickets)
  pub count : tables.len ≡ length tickets

-- the answer is what f says of the tickets that the tables hold
abbrev pub Answers : {X : Type 0} → Tables → (List Ticket → X) → X → Type 0
Answers tables f answer = (tickets : List Ticket) → AreTabled tables tickets → answer ≡ f tickets

-- the tickets that the tables hold become what f makes of them
abbrev pub Become : Tables → Tables → (List Ticket → List Ticket) → Type 0
Become old new f = (tickets : List Ticket) → AreTabled old tickets → AreTabled new (f tickets)

-- the tables have a slot of machine m that no ticket is on
pub record HasFreeSlot (tables : Tables) (m : ℕ) : Type 0 where
  pub slot : ℕ
  pub within : slot < room_at tables m
  pub free : slot_at tables m slot ≡ None

-- s is the least slot of machine m that no ticket is on
pub record IsLeastFreeSlot (m s : ℕ) (tickets : List Ticket) : Type 0 where
  pub free : ticket_on m s tickets ≡ None
  pub least : (k : ℕ) → k < s → ticket_on m k tickets ≡ None → ⊥
