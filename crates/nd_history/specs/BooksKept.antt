-- What a book holds, and what its tables say.
-- Public clauses cite this, but `AreFollowed` says what a type keeps.
use Rattle.std.specs.Prelude.{◌≡◌, ◌-◌, length, map, reverse, vec_len, vec_capacity}
use Rattle.nd_leases.specs.Tables.{AreTabled}
use Rattle.nd_history.specs.declared.book.Book.TheInside.{Inside}
use Rattle.nd_history.specs.Books.{Recorded}
use Rattle.nd_history.specs.History.{live}
use Rattle.nd_history.specs.Kept.{AreStarted, AreUp}

abbrev pub recorded : Inside → Recorded
recorded b = record {
  entries = b.entries.items;
  room = vec_capacity b.entries - vec_len b.entries;
  drvs = length b.leases.holders;
  machines = length b.ups.items;
  rooms = map length b.leases.rows;
}

-- the tables follow the entries
pub record AreFollowed (b : Inside) : Type 0 where
  pub leases : AreTabled b.leases (live (reverse b.entries.items))
  pub started : AreStarted (reverse b.entries.items) b.leases.started
  pub ups : AreUp (reverse b.entries.items) b.ups.items
  pub marks : length b.leases.started ≡ length b.leases.holders
  pub park : length b.leases.loads ≡ length b.ups.items
