-- Store paths that compare equal are the same bytes.
-- Public clauses cite this.
use Rattle.std.specs.Prelude.{◌≡◌, ℕ, true, List, refl}
use Rattle.std.proofs.Common.{ap}
use Rattle.std.proofs.lemmas.Slice.Eq.{slice_eq-Decides}
use Rattle.std.proofs.lemmas.Bool.Decides.{Decides-eqb}
use Rattle.nd_path.specs.StorePath.{path_eq, path_input}

pub paths_same : (xs ys : List ℕ) → path_eq xs ys ≡ true → xs ≡ ys
paths_same xs ys = (slice_eq-Decides Decides-eqb xs ys (path_eq xs ys) refl).0

pub paths_alike : (xs ys : List ℕ) → path_eq xs ys ≡ true → path_input xs ≡ path_input ys
paths_alike xs ys same = ap path_input (paths_same xs ys same)
