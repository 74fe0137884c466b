-- The derivation of a text, and the path that a derivation's text has.
-- Source: Nix Reference Manual, "Store Path Specification" (kind `text`) and 'Derivation "ATerm" file format'.
-- Cited by the clauses of the readers, of `path_of_text` and of `drv_path`, through what they say.
use Rattle.std.specs.Prelude.{◌≡◌, ℕ, ◌≤◌, true, List, length}
use Rattle.nd_aterm.specs.declared.records.Parts.{Parts}
use Rattle.nd_aterm.specs.Derivations.{Text}
use Rattle.nd_aterm.specs.Texts.{text_limit}
use Rattle.nd_path.specs.PathSets.{IsRising, HasSameMembers}
use Rattle.nd_path.specs.TextPaths.{text_path_of}
use Rattle.nd_line.specs.Kinds.{has_paths, references}

-- the text is that of a derivation with these parts, and is not too long
pub record Spells (text : List ℕ) (parts : Parts) : Type 0 where
  pub short : length text ≤ text_limit
  pub spelled : Text parts text

-- and its paths are of their kinds
pub record Derives (text : List ℕ) (parts : Parts) : Type 0 where
  pub spells : Spells text parts
  pub paths : has_paths parts ≡ true

-- The path of a derivation with this name, this text and these references: the text path over the references, each
-- once, in rising byte order.
pub record IsOwnPath (name text : List ℕ) (references : List (List ℕ)) (path : List ℕ) : Type 0 where
  pub refs : List (List ℕ)
  pub rising : IsRising refs
  pub members : HasSameMembers references refs
  pub is : path ≡ text_path_of name refs text

-- The path of the derivation with this name and this text.
pub record IsPathOfText (name text path : List ℕ) : Type 0 where
  pub parts : Parts
  pub derives : Derives text parts
  pub own : IsOwnPath name text (references parts) path
