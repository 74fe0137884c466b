-- What is known of the entries that a run's journal was handed, or of those of them that are durable: a beginning of one list that only grows.
-- Histories stand oldest first.
-- Public clauses cite this.
use Rattle.std.specs.Prelude.{◌<◌, List, ◌++◌, length}
use Rattle.logbook.specs.Pages.{Book}
use Rattle.nd_history.specs.declared.entry.Entry.{Entry}
use Rattle.nd_history.specs.Sameness.{BeginsWith}

-- which book of entries it is of, and the entries
pub record Listed : Type 0 where
  pub book : Book
  pub entries : List Entry

abbrev pub listed : Book → List Entry → Listed
listed book entries = record { book = book; entries = entries }

-- these entries stand behind those that were there
abbrev pub with_more : Listed → List Entry → Listed
with_more old added = listed old.book (old.entries ++ added)

-- the entries begin with these, and go on
pub record GoesBeyond (entries first : List Entry) : Type 0 where
  pub begins : BeginsWith entries first
  pub longer : length first < length entries
