-- What is known of a journal behind a run. The public clauses of `run_kept` cite this. This project's own choice.
use Rattle.std.specs.Prelude.{◌≡◌, ◌<◌, Bool, true, false, List, length}
use Rattle.nd_history.specs.declared.entry.Entry.{Entry}
use Rattle.nd_keeping.specs.Scribing.{Scribing}
use Rattle.nd_run_desk.specs.Leaves.{IsFrontOf}

-- the journal has refused nothing, and what it holds, durable, is the line of each entry of the history
pub record IsWrittenWhole (scribe : Scribing) (history : List Entry) : Type 0 where
  pub willing : scribe.refused ≡ false
  pub whole : scribe.kept.entries ≡ history

-- it isn't so: the journal refused a call, or its durable entries aren't the history. (Where neither is so, the run handed it fewer
-- entries than the history has, and it got the others from elsewhere.)
pub record IsUnwritten (scribe : Scribing) (handed history : List Entry) : Type 0 where
  pub lacks : scribe.refused ≡ false → scribe.kept.entries ≡ history → length handed < length history

-- a run that keeps its history says that it is kept exactly where it is so; one that keeps none says so too. What it handed to the scribe are
-- the first entries of the history.
pub record IsWritten (keeps kept : Bool) (scribe : Scribing) (handed history : List Entry) : Type 0 where
  pub front : IsFrontOf handed history
  pub written : keeps ≡ true → kept ≡ true → IsWrittenWhole scribe history
  pub unwritten : kept ≡ false → (keeps ≡ true) × IsUnwritten scribe handed history
  pub unasked : keeps ≡ false → kept ≡ true
