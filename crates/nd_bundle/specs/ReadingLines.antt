-- What contracts see of a reader to which the lines of a bundle come in parts. Serves private clauses.
use Rattle.std.specs.Prelude.{ℕ, List}
use Rattle.nd_bundle.specs.declared.manner.Manner.{Manner}

pub record ReadingLines : Type 0 where
  -- how lines are read
  pub manner : Manner
  -- the text so far
  pub text : List ℕ
