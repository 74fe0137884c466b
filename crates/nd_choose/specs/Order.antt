-- The order by which a machine is chosen, over loads and speeds alone. A load is the number of
-- taken slots. Loads per speed are compared by cross products, so no quotient is rounded. Nix's
-- build-remote takes the least load per speed factor; the exact comparison and the rule for equal
-- ones are this project's own choice.
-- Public clauses cite this.
use Rattle.std.specs.Prelude.{◌≡◌, ◌⊎◌, ℕ, ◌*◌, ◌<◌}

-- `load` slots taken at `speed` are less work per speed than `other_load` at `other_speed`
abbrev pub IsLighter : ℕ → ℕ → ℕ → ℕ → Type 0
IsLighter load speed other_load other_speed = load * other_speed < other_load * speed

-- both are the same work per speed
abbrev pub IsAsLight : ℕ → ℕ → ℕ → ℕ → Type 0
IsAsLight load speed other_load other_speed = load * other_speed ≡ other_load * speed

-- the least load per speed comes first, and of equal ones the greater speed
abbrev pub Beats : ℕ → ℕ → ℕ → ℕ → Type 0
Beats load speed other_load other_speed =
    IsLighter load speed other_load other_speed
    ⊎ (IsAsLight load speed other_load other_speed × (other_speed < speed))
