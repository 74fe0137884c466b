-- A builders list as a function of its whole text (Nix Reference Manual, setting `builders`): the machines, or the first refusal.
-- That comments are cut off before entries are, the numbers of entries, the refusals and their order are this project's own choice.
-- Public clauses cite this.
use Rattle.std.specs.Prelude.{ℕ, ◌==◌, nat_lt, List, [], ◌∷◌, map, Option, None, Some, Result, Ok, Err, if◌then◌else◌}
use Rattle.std.specs.List.{slice_split, flat_map, enumerate_from}
use Rattle.nd_bytes.specs.Cut.{until}
use Rattle.nd_bytes.specs.Lines.{lines_of}
use Rattle.nd_machines.specs.declared.machine_error.MachineError.{MachineError}
use Rattle.nd_machines.specs.declared.machine_error.MachineError.TheVariants.{Uri, Jobs, Speed, Include, TooMany}
use Rattle.nd_machines.specs.Builders.{Builder}
use Rattle.nd_machines.specs.FeatureSets.{filled}
use Rattle.nd_machines.specs.Fields.{fields, field, is_include, is_dash, uri_of, systems_of, features_of, name_of, jobs_of, speed_of}

-- ---- the entries of a text

-- a line's entries stand between `;` (59), once what begins at a `#` (35) is dropped
abbrev pub line_entries : List ℕ → List (List (List ℕ))
line_entries line = map fields (slice_split (λ b. b == 59) (until (λ b. b == 35) line))

-- the entries of all lines, each as its fields
abbrev pub entries : List ℕ → List (List (List ℕ))
entries text = flat_map line_entries (lines_of text)

-- ---- one entry

-- the machine that fields describe, where jobs and speed could be read
abbrev pub described : List ℕ → ℕ → List (List ℕ) → Option ℕ → Option ℕ → Result Builder MachineError
described this_system number fs None speed = Err (Jobs number)
described this_system number fs (Some jobs) None = Err (Speed number)
described this_system number fs (Some jobs) (Some speed) = Ok (record {
  uri = uri_of (field 0 fs);
  systems = systems_of this_system (field 1 fs);
  key = name_of (field 2 fs);
  jobs = jobs;
  speed = speed;
  supported = features_of (field 5 fs);
  mandatory = features_of (field 6 fs);
  host_key = name_of (field 7 fs);
})

-- the machine of the entry with this number, or its first refusal
unfoldable pub machine : List ℕ → ℕ → List (List ℕ) → Result Builder MachineError
machine this_system number fs =
    if nat_lt 1024 number then Err (TooMany number)
    else if is_include (field 0 fs) then Err (Include number)
    else if is_dash (field 0 fs) then Err (Uri number)
    else described this_system number fs (jobs_of (field 3 fs)) (speed_of (field 4 fs))

-- ---- the whole text

-- a further step with the value, unless it was refused
abbrev pub and_then : {A B : Type 0} → (A → Result B MachineError) → Result A MachineError → Result B MachineError
and_then f (Ok x) = f x
and_then f (Err e) = Err e

-- the value of each, or the first refusal
abbrev pub all_or_first : List (Result Builder MachineError) → Result (List Builder) MachineError
all_or_first [] = Ok []
all_or_first (r ∷ rs) = and_then (λ m. and_then (λ ms. Ok (m ∷ ms)) (all_or_first rs)) r

-- the entries that have a field are numbered from 1, and each is read
unfoldable pub builders : List ℕ → List ℕ → Result (List Builder) MachineError
builders this_system text = all_or_first (map (λ e. machine this_system e.0 e.1) (enumerate_from 1 (filled (entries text))))
