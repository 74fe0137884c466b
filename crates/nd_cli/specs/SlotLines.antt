-- The slots of a park, a line for each. The form is this project's own.
-- Public clauses cite this.
use Rattle.std.specs.Prelude.{ℕ, ◌+◌, List, [], ◌∷◌, ◌++◌, codes, Option, None, Some, sum_by}
use Rattle.std.specs.Fmt.{decimal}
use Rattle.std.specs.List.{flat_map, range_with_len}
use Rattle.nd_machines.specs.Builders.{Builder}
use Rattle.nd_eligible.specs.Settings.{Settings}

-- what a machine's lines end with: how it is reached
abbrev pub reached_by : List ℕ → List ℕ → List ℕ → List ℕ
reached_by uri key host_key = 32 ∷ uri ++ 32 ∷ key ++ 32 ∷ host_key ++ 10 ∷ []

-- a word, or `-` for what isn't given
abbrev pub or_dash : Option (List ℕ) → List ℕ
or_dash None = codes "-"
or_dash (Some word) = word

abbrev pub local_end : List ℕ
local_end = reached_by (codes "local") (codes "-") (codes "-")

abbrev pub builder_end : Builder → List ℕ
builder_end b = reached_by b.uri (or_dash b.key) (or_dash b.host_key)

-- a slot of the machine with this number
abbrev pub slot_line : ℕ → List ℕ → ℕ → List ℕ
slot_line machine end slot = (decimal machine ++ 32 ∷ decimal slot) ++ end

-- each slot of a machine with so many jobs
abbrev pub machine_lines : ℕ → List ℕ → ℕ → List ℕ
machine_lines machine end jobs = flat_map (slot_line machine end) (range_with_len 0 jobs)

-- the slots of the builders, which are numbered from this number on
abbrev pub builder_lines : ℕ → List Builder → List ℕ
builder_lines machine [] = []
builder_lines machine (b ∷ builders) = machine_lines machine (builder_end b) b.jobs ++ builder_lines (machine + 1) builders

-- the slots of the local machine, number 0, and then those of the builders
abbrev pub park_lines : Settings → List Builder → List ℕ
park_lines local builders = machine_lines 0 local_end local.jobs ++ builder_lines 1 builders

-- how many slots the machines have together
abbrev pub slots_in : Settings → List Builder → ℕ
slots_in local builders = local.jobs + sum_by (λ b. b.jobs) builders
