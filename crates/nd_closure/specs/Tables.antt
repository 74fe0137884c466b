-- Tables of references: paths with the references listed for them.
-- Public clauses cite this.
use Rattle.std.specs.Prelude.{ℕ, Bool, List, [], ◌∷◌, if◌then◌else◌}
use Rattle.std.specs.List.{list_any}
use Rattle.nd_path.specs.StorePath.{path_eq}

-- what a contract sees of a table: its entries in the order in which they were added, each a path with its references, and how
-- many more can be added without taking memory
pub record Table : Type 0 where
  pub entries : List (List ℕ × List (List ℕ))
  pub spare : ℕ

-- whether an entry names the path
abbrev pub is_listed : List (List ℕ × List (List ℕ)) → List ℕ → Bool
is_listed entries path = list_any (λ e. path_eq path e.0) entries

-- the references that the first entry with the path lists for it; an unlisted path has none
abbrev pub refs_of : List (List ℕ × List (List ℕ)) → List ℕ → List (List ℕ)
refs_of [] path = []
refs_of (e ∷ entries) path = if path_eq path e.0 then e.1 else refs_of entries path
