-- The kinds of path that the parts of a derivation have.
-- Source: Nix Reference Manual, "Store Path" and "Derivation": a derivation's own store path ends in `.drv`; an
-- output path that isn't known before the build is the empty string in the derivation text.
-- Cited by the clauses of the readers and of `drv_path`, through what they say.
use Rattle.std.specs.Prelude.{ℕ, Bool, ◌&&◌, ◌||◌, ◌==◌, List, map, ◌++◌, length, is_none, not}
use Rattle.std.specs.List.{list_all}
use Rattle.nd_aterm.specs.declared.records.InputDrv.{InputDrv}
use Rattle.nd_aterm.specs.declared.records.Output.{Output}
use Rattle.nd_aterm.specs.declared.records.Parts.{Parts}
use Rattle.nd_path.specs.Refusals.{fault_of}
use Rattle.nd_path.specs.StorePath.{is_drv_path}

-- a store path
abbrev pub is_path : List ℕ → Bool
is_path bytes = is_none (fault_of bytes)

-- the store path of a derivation
abbrev pub is_drv : List ℕ → Bool
is_drv bytes = is_path bytes && is_drv_path bytes

-- the output's path is known before the build
abbrev pub is_known : Output → Bool
is_known output = not (length output.path == 0)

-- a store path, or the empty path of an output that isn't known
abbrev pub is_output : Output → Bool
is_output output = not (is_known output) || is_path output.path

-- each input derivation is the path of a derivation
abbrev pub are_drvs : List InputDrv → Bool
are_drvs inputs = list_all (λ input. is_drv input.path) inputs

-- each source is a store path
abbrev pub are_paths : List (List ℕ) → Bool
are_paths sources = list_all is_path sources

-- each output path is a store path or empty
abbrev pub are_outputs : List Output → Bool
are_outputs outputs = list_all is_output outputs

-- each path of the derivation is of its kind
abbrev pub has_paths : Parts → Bool
has_paths parts = are_drvs parts.input_drvs && are_paths parts.input_srcs && are_outputs parts.outputs

-- each output path is known before the build
abbrev pub knows_outputs : Parts → Bool
knows_outputs parts = list_all is_known parts.outputs

-- what the derivation refers to: its sources and its input derivations
abbrev pub references : Parts → List (List ℕ)
references parts = parts.input_srcs ++ map (λ (input : InputDrv). input.path) parts.input_drvs
