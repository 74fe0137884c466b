-- What a `Leases` keeps.
-- Public clauses cite this no further than as the value and the invariant of the type.
use Rattle.std.specs.Prelude.{◌≡◌, List, length}
use Rattle.nd_leases.specs.declared.leases.Leases.TheInside.{Inside}
use Rattle.nd_leases.specs.declared.ticket.Ticket.{Ticket}
use Rattle.nd_leases.specs.Tables.{Tables, AreTabled}

abbrev pub tables_of : Inside → Tables
tables_of l = record {
  holders = l.holders.items;
  started = l.started.items;
  loads = l.loads.items;
  rows = l.rows.items;
  len = l.len;
}

-- the tables are those of some tickets, and their lengths fit
pub record AreWhole (l : Inside) : Type 0 where
  pub tickets : List Ticket
  pub tabled : AreTabled (tables_of l) tickets
  pub marks : length l.started.items ≡ length l.holders.items
  pub rows : length l.rows.items ≡ length l.loads.items
