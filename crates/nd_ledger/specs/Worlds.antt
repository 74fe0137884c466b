-- A dispatch, as contracts see it. Public clauses cite this.
use Rattle.std.specs.Prelude.{◌≡◌, List}
use Rattle.nd_history.specs.declared.entry.Entry.{Entry}
use Rattle.nd_history.specs.Premises.{Premises}
use Rattle.nd_history.specs.Sameness.{BeginsWith}

pub record World : Type 0 where
  -- what it was made of
  pub inputs : Premises
  -- the entries so far, oldest first
  pub history : List Entry

-- a dispatch goes on from an earlier one: it has the same inputs, and its history begins with the earlier one's
pub record GoesOnFrom (later earlier : World) : Type 0 where
  pub inputs : later.inputs ≡ earlier.inputs
  pub history : BeginsWith later.history earlier.history
