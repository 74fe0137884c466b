-- The inputs and the book of a dispatch fit together.
-- Public clauses cite this.
use Rattle.std.specs.Prelude.{◌≡◌, ◌+◌, ◌≤◌, length, reverse}
use Rattle.nd_graph.specs.Graphs.{IsSound}
use Rattle.nd_history.specs.Books.{Recorded}
use Rattle.nd_history.specs.Premises.{Premises}
use Rattle.nd_history.specs.Standing.{drvs_in}
use Rattle.nd_history.specs.Choices.{AreSmall}
use Rattle.nd_history.specs.Legal.{IsLegal}

pub record FitTogether (i : Premises) (book : Recorded) : Type 0 where
  pub legal : IsLegal i (reverse book.entries)
  pub sound : IsSound i.graph
  pub drvs : book.drvs ≡ drvs_in i
  pub park : book.machines ≡ length i.machines + 1
  pub few : length i.machines ≤ 1024
  pub small : AreSmall i
