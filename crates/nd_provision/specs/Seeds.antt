-- Numbers of paths that are put behind others.
-- No public clause cites this.
use Rattle.std.specs.Prelude.{ℕ, List, [], ◌++◌, map}
use Rattle.std.specs.List.{slice_index_or}
use Rattle.nd_path_numbers.specs.Numbers.{AreNumbersOf}

-- the outputs at these places
abbrev pub paths_at : List (List ℕ) → List ℕ → List (List ℕ)
paths_at outputs places = map (λ k. slice_index_or outputs k []) places

-- the numbers of these paths were put behind those of others, while more paths became known
pub record GoesOn (old new : List (List ℕ)) (before after : List ℕ) (paths : List (List ℕ)) : Type 0 where
  pub tells : (others : List (List ℕ)) → AreNumbersOf old others before → AreNumbersOf new (others ++ paths) after
