-- What contracts see of a reader to which a bundle's text comes in parts. Cited by the clauses of `BundleReader`.
use Rattle.std.specs.Prelude.{ℕ, Bool, List}

pub record Reading : Type 0 where
  -- whether each line's path has to be the one that its derivation has
  pub check : Bool
  -- the text so far
  pub text : List ℕ
