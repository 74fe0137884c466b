-- Numbers of all outputs, derivation by derivation.
-- Private clauses alone cite this.
use Rattle.std.specs.Prelude.{ℕ, ◌<◌, List, [], length}
use Rattle.std.specs.List.{slice_index_or}
use Rattle.nd_path_numbers.specs.Numbers.{row_in, AreNumbersOf}

-- each of these rows has the numbers of a derivation's outputs
pub record AreOutputRows (outputs : List (List (List ℕ))) (known rows : List (List ℕ)) : Type 0 where
  pub each : (d : ℕ) → d < length rows → AreNumbersOf known (slice_index_or outputs d []) (row_in rows d)
