-- The lines by which an agent is called. The form is this project's own.
-- Public clauses cite this.
use Rattle.std.specs.Prelude.{ℕ, List, [], ◌∷◌, ◌++◌, codes}
use Rattle.std.specs.List.{flat_map}

-- these bytes, and a newline
abbrev pub line_with : List ℕ → List ℕ
line_with bytes = bytes ++ 10 ∷ []

-- each path behind a space
abbrev pub spaced : List (List ℕ) → List ℕ
spaced paths = flat_map (λ path. 32 ∷ path) paths

-- the machine is to be called
abbrev pub connect_line : List ℕ
connect_line = line_with (codes "connect")

-- these paths are to be copied to the machine
abbrev pub copy_line : List (List ℕ) → List ℕ
copy_line paths = line_with (codes "copy" ++ spaced paths)

-- the derivation with this path is to be built, whose outputs have these paths, in the order of the outputs' names
abbrev pub build_line : List ℕ → List (List ℕ) → List ℕ
build_line path outputs = line_with (codes "build " ++ path ++ spaced outputs)
