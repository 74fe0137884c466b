-- A builders list read entry by entry: what its reader goes by.
-- Public clauses cite this, but `add_all` serves private clauses alone.
use Rattle.std.specs.Prelude.{◌≡◌, ℕ, ◌+◌, ◌==◌, List, [], ◌∷◌, ◌++◌, length, Result, Ok, Err, if◌then◌else◌}
use Rattle.nd_machines.specs.declared.machine_error.MachineError.{MachineError}
use Rattle.nd_machines.specs.declared.machine_error.MachineError.TheVariants.{Uri, Jobs, Speed, Include, TooMany, Memory}
use Rattle.nd_machines.specs.Builders.{Builder}
use Rattle.nd_machines.specs.BuildersList.{machine, and_then}

-- what is refused where the definition gives `read`: just what that refuses, except that memory may run out at any point
abbrev pub Refuses : {A : Type 0} → Result A MachineError → MachineError → Type 0
Refuses read Memory = Unit {0}
Refuses read (Uri n) = read ≡ Err (Uri n)
Refuses read (Jobs n) = read ≡ Err (Jobs n)
Refuses read (Speed n) = read ≡ Err (Speed n)
Refuses read (Include n) = read ≡ Err (Include n)
Refuses read (TooMany n) = read ≡ Err (TooMany n)

-- the machines so far, with those of further entries behind them, or the first refusal
unfoldable pub add_all : List ℕ → List Builder → List (List (List ℕ)) → Result (List Builder) MachineError
add_all this_system ms [] = Ok ms
add_all this_system ms (e ∷ es) =
    if length e == 0 then add_all this_system ms es
    else and_then (λ m. add_all this_system (ms ++ m ∷ []) es) (machine this_system (length ms + 1) e)
