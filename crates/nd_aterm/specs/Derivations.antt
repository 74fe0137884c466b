-- Derivation texts: the spelling of a derivation, and the orders in which its lists stand. The form is
-- the ATerm format of store derivations (Nix Reference Manual, 'Derivation "ATerm" file format'; Dolstra
-- 2006, section 5.4). That no other order is taken is this project's own choice: Nix writes this one.
-- Public clauses cite this.
use Rattle.std.specs.Prelude.{◌≡◌, ℕ, ◌++◌, ◌&&◌, Bool, true, List, [], ◌∷◌, codes}
use Rattle.std.specs.List.{list_all}
use Rattle.std.specs.Ordering.{is_lt}
use Rattle.nd_bytes.specs.Compared.{bytes_cmp}
use Rattle.nd_aterm.specs.declared.records.Output.{Output}
use Rattle.nd_aterm.specs.declared.records.InputDrv.{InputDrv}
use Rattle.nd_aterm.specs.declared.records.EnvEntry.{EnvEntry}
use Rattle.nd_aterm.specs.declared.records.Parts.{Parts}
use Rattle.nd_aterm.specs.Spelling.{comma, left_parenthesis, right_parenthesis, string, list}

-- `(name,path,hashAlgo,hash)`
unfoldable pub output : Output → List ℕ → List ℕ
output o rest =
    left_parenthesis ∷ string o.name (comma ∷ string o.path (comma ∷ string o.hash_algo (comma ∷ string o.hash (right_parenthesis ∷ rest))))

-- `(path,[outputNames])`
unfoldable pub input_drv : InputDrv → List ℕ → List ℕ
input_drv d rest = left_parenthesis ∷ string d.path (comma ∷ list string d.outputs (right_parenthesis ∷ rest))

-- `(key,value)`
unfoldable pub env_entry : EnvEntry → List ℕ → List ℕ
env_entry v rest = left_parenthesis ∷ string v.key (comma ∷ string v.value (right_parenthesis ∷ rest))

-- `Derive([outputs],[inputDrvs],[inputSrcs],platform,builder,[args],[env])`
unfoldable pub derivation : Parts → List ℕ → List ℕ
derivation p rest =
    codes "Derive(" ++ list output p.outputs (comma ∷ list input_drv p.input_drvs (comma ∷ list string p.input_srcs (comma ∷ string p.platform (comma ∷ string p.builder (comma ∷ list string p.args (comma ∷ list env_entry p.env (right_parenthesis ∷ rest)))))))

-- byte order: the first byte that differs decides, and a proper prefix comes first
abbrev pub is_below : List ℕ → List ℕ → Bool
is_below a b = is_lt (bytes_cmp a b)

-- each thing's key is below that of the next
abbrev pub rises : {X : Type 0} → (X → List ℕ) → List X → Bool
rises key [] = true
rises key (x ∷ []) = true
rises key (x ∷ y ∷ ys) = is_below (key x) (key y) && rises key (y ∷ ys)

-- the five kinds of list that strictly rise
abbrev pub in_order : Parts → Bool
in_order p =
    rises (λ o. o.name) p.outputs
    && rises (λ d. d.path) p.input_drvs
    && list_all (λ d. rises (λ name. name) d.outputs) p.input_drvs
    && rises (λ src. src) p.input_srcs
    && rises (λ v. v.key) p.env

-- the bytes spell these parts, in whatever order their lists stand
abbrev pub Loose : Parts → List ℕ → Type 0
Loose p bytes = bytes ≡ derivation p []

-- the bytes are the derivation text of these parts
abbrev pub Text : Parts → List ℕ → Type 0
Text p bytes = Loose p bytes × (in_order p ≡ true)

-- No spelling is a proper prefix of another, and each spells one value: where one begins another, nothing
-- follows it, and both spell the same parts.
abbrev pub NoPrefix : Type 0
NoPrefix = (p q : Parts) (front whole rest : List ℕ) → Loose p front → Loose q whole → whole ≡ front ++ rest → (rest ≡ []) × (p ≡ q)
