-- What words ask for that begin with a number: a call with it, and perhaps with what stands behind it. The forms are this
-- project's own.
-- Public clauses cite this.
use Rattle.std.specs.Prelude.{◌≡◌, ◌⊎◌, ℕ, List, []}
use Rattle.nd_script.specs.Words.{Begins, IsStatus, AreLists}

-- the words are a number below the bound, and the item is this call with it
pub record IsCallWith {X : Type 0} (bound : ℕ) (call : ℕ → X) (words : List (List ℕ)) (item : X) : Type 0 where
  pub number : ℕ
  pub operand : Begins bound words number []
  pub is : item ≡ call number

-- the words are such a number and a status of 0 to 255
pub record IsStatusCall {X : Type 0} (bound : ℕ) (call : ℕ → ℕ → X) (words : List (List ℕ)) (item : X) : Type 0 where
  pub number : ℕ
  pub others : List (List ℕ)
  pub operand : Begins bound words number others
  pub status : ℕ
  pub reads : IsStatus others status
  pub is : item ≡ call number status

-- the words are such a number and lists of references
pub record IsListsCall {X : Type 0} (bound : ℕ) (call : ℕ → List (List (List ℕ)) → X) (words : List (List ℕ)) (item : X) : Type 0 where
  pub number : ℕ
  pub others : List (List ℕ)
  pub operand : Begins bound words number others
  pub refs : List (List (List ℕ))
  pub lists : AreLists others refs
  pub is : item ≡ call number refs

-- the words are such a number alone, or with lists of references
abbrev pub IsBuiltCall : {X : Type 0} → ℕ → (ℕ → X) → (ℕ → List (List (List ℕ)) → X) → List (List ℕ) → X → Type 0
IsBuiltCall bound bare listed words item = IsCallWith bound bare words item ⊎ IsListsCall bound listed words item
