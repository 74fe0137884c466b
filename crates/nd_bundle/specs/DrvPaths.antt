-- The store path of a derivation with a given name and text. Cited by the clauses of `drv_path`.
-- Source: Nix Reference Manual, "Store Path Specification": a derivation is a text whose name ends in `.drv`.
use Rattle.std.specs.Prelude.{◌≡◌, ℕ, Bool, true, false, ◌&&◌, List}
use Rattle.nd_aterm.specs.declared.records.Parts.{Parts}
use Rattle.nd_path.specs.StorePath.{is_name, ends_in_drv}
use Rattle.nd_line.specs.Derived.{Derives, IsOwnPath}
use Rattle.nd_line.specs.Kinds.{references}
use Rattle.nd_links.specs.declared.fault.GraphError.{GraphError}
use Rattle.nd_links.specs.declared.fault.GraphError.TheVariants.{BadLine, BadPath, BadDerivation, UnknownOutput, BadAttribute, WrongPath, Duplicate, MissingInput, MissingOutput, Cycle, TooMany, Memory}

-- a store path's name that ends in `.drv`
abbrev pub is_drv_name : List ℕ → Bool
is_drv_name name = is_name name && ends_in_drv name

-- the path of the derivation with this name and this text
pub record IsDrvPath (name text path : List ℕ) : Type 0 where
  pub parts : Parts
  pub named : is_drv_name name ≡ true
  pub derives : Derives text parts
  pub own : IsOwnPath name text (references parts) path

-- When there is none: the name is none of a derivation, or else the text is none. There is no line: its number is 0.
abbrev pub HasNoDrvPath : List ℕ → List ℕ → GraphError → Type 0
HasNoDrvPath name text (BadLine line) = ⊥
HasNoDrvPath name text (BadPath line) = (line ≡ 0) × (is_drv_name name ≡ false)
HasNoDrvPath name text (BadDerivation line) = (line ≡ 0) × (is_drv_name name ≡ true) × ((parts : Parts) → Derives text parts → ⊥)
HasNoDrvPath name text (UnknownOutput line) = ⊥
HasNoDrvPath name text (BadAttribute line) = ⊥
HasNoDrvPath name text (WrongPath line) = ⊥
HasNoDrvPath name text (Duplicate line) = ⊥
HasNoDrvPath name text (MissingInput line) = ⊥
HasNoDrvPath name text (MissingOutput line) = ⊥
HasNoDrvPath name text Cycle = ⊥
HasNoDrvPath name text TooMany = ⊥
HasNoDrvPath name text Memory = Unit {0}
