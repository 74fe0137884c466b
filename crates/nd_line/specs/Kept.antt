-- The variables of an environment that are kept while a line is read: those that say what a derivation needs.
-- Serves private clauses and proofs alone.
use Rattle.std.specs.Prelude.{ℕ, Bool, ◌||◌, List, codes}
use Rattle.nd_bytes.specs.Compared.{bytes_eq}

-- the name of a variable that says what a derivation needs
abbrev pub is_attribute : List ℕ → Bool
is_attribute name =
    bytes_eq name (codes "__json")
    || bytes_eq name (codes "requiredSystemFeatures")
    || bytes_eq name (codes "preferLocalBuild")
