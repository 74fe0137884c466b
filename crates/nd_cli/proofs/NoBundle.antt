-- The park over no bundle is that over a text of no bytes, which is the bundle of no derivations.
use Rattle.std.proofs.Common.{◌≡◌, ◌<◌, ◌≤◌, ℕ, Bool, List, [], Result, Ok, Err, IfOk, OnOk, refl, sym, subst, inl, inr, lit≤, arith}
use Rattle.std.specs.List.{AllZip}
use Rattle.nd_bytes.proofs.TextLines.{no_lines}
use Rattle.nd_machines.specs.Builders.{Builder}
use Rattle.nd_eligible.specs.Settings.{Settings}
use Rattle.nd_line.specs.Reads.{IsLine}
use Rattle.nd_links.specs.Whole.{IsGraphOf}
use Rattle.nd_graph.specs.Graphs.{Nodes, nodes_with, rows_of, IsSound}
use Rattle.nd_graph.specs.Walks.{IsAcyclic}
use Rattle.nd_bundle.specs.Bundles.{IsBundle}
use Rattle.nd_cli.specs.Limits.{AreTooMany}
use Rattle.nd_cli.specs.Listed.{IsParkText, IsUnlisted}
use Rattle.nd_cli.specs.Parks.{HasBuilders, HasInfo, HasPark, IsAccepted, local_of}
use Rattle.nd_cli.specs.Setting.{IsSettingFault}
use Rattle.nd_cli.specs.SlotLines.{park_lines, slots_in}
use Rattle.nd_cli.specs.declared.options.ParkOptions.{ParkOptions}
use Rattle.nd_cli.specs.declared.fault.CliFault.{CliFault}
use Rattle.nd_cli.specs.declared.fault.CliFault.TheVariants.{TooManySlots, Memory}
use Rattle.nd_cli.proofs.Refused.{setting_refused}

-- the graph of no derivations
abbrev pub no_nodes : Nodes
no_nodes = nodes_with [] [] [] [] []

no_place : {X : Type 0} (place : ℕ) → place < 0 → X
no_place place within = absurd (omega arith)

is_sound : IsSound no_nodes
is_sound = record {
  needs_sized = refl;
  inputs_sized = refl;
  sources_sized = refl;
  outputs_sized = refl;
  few = lit≤ tt;
  distinct = record { apart = λ j k d before within same. no_place k within };
  ranged = record { ranged = λ d c needs. no_place needs.0 needs.1 };
  names = record { named = λ d input place needs named. no_place needs.0 needs.1 };
}

is_acyclic : IsAcyclic (rows_of no_nodes)
is_acyclic = record { apart = λ d below. no_place below.walk.1.0 below.walk.1.1 }

is_graph_of_none : IsGraphOf [] no_nodes
is_graph_of_none = record { paths = refl; needs = refl; inputs = record { each = tt }; sources = refl; outputs = refl }

-- a text of no bytes is the bundle of no derivations
no_bundle : (check : Bool) → IsBundle check [] no_nodes
no_bundle check =
    let Says : List (List ℕ) → Type 0 = λ lines. AllZip (IsLine check) lines [] in
    record { nodes = []; says = subst Says (sym no_lines) tt; of = is_graph_of_none; sound = is_sound; acyclic = is_acyclic }

-- what the options say beside a bundle is a park over no derivations
park_of : (options : ParkOptions) (machines : List Builder) (info : List (List ℕ × List (List ℕ))) → HasBuilders options machines → HasInfo options info → HasPark options [] no_nodes machines info
park_of options machines info builders references = record {
  bundle = record { within = lit≤ tt; bundle = no_bundle options.check_paths };
  builders = builders;
  references = references;
}

accepted : (options : ParkOptions) → IsAccepted options []
accepted options = record { graph = no_nodes; has = record { within = lit≤ tt; bundle = no_bundle options.check_paths } }

-- the lines of this park are its text
is_listed : (options : ParkOptions) (machines : List Builder) (local : Settings) (info : List (List ℕ × List (List ℕ))) (text : List ℕ) → HasBuilders options machines → HasInfo options info → local ≡ local_of options
    → text ≡ park_lines local machines → slots_in local machines ≤ 1024 → IsParkText options text
is_listed options machines local info text builders references here is few = record {
  graph = no_nodes;
  machines = machines;
  info = info;
  park = park_of options machines info builders references;
  few = subst (λ (l : Settings). slots_in l machines ≤ 1024) here few;
  is = subst (λ (l : Settings). text ≡ park_lines l machines) here is;
}

pub are_listed : {A : Type 0} (answer : Result A CliFault) (items : A → List ℕ) (options : ParkOptions) (machines : List Builder) (local : Settings) (info : List (List ℕ × List (List ℕ))) → HasBuilders options machines → HasInfo options info
    → local ≡ local_of options → IfOk answer (λ text. items text ≡ park_lines local machines) → OnOk answer (slots_in local machines ≤ 1024) → IfOk answer (λ text. IsParkText options (items text))
are_listed (Ok text) items options machines local info builders references here is few = is_listed options machines local info (items text) builders references here is few
are_listed (Err e) items options machines local info builders references here is few = tt

-- the park has no text
pub is_unlisted : (options : ParkOptions) (machines : List Builder) (local : Settings) (info : List (List ℕ × List (List ℕ))) (e : CliFault) → HasBuilders options machines → HasInfo options info → local ≡ local_of options
    → AreTooMany local machines e → IsUnlisted options e
is_unlisted options machines local info TooManySlots builders references here many = record {
  graph = no_nodes;
  machines = machines;
  info = info;
  park = park_of options machines info builders references;
  many = subst (λ (l : Settings). 1024 < slots_in l machines) here many;
}
is_unlisted options machines local info Memory builders references here many = tt
is_unlisted options machines local info _ builders references here many = absurd many

-- what the options say is refused
pub is_refused : (options : ParkOptions) (e : CliFault) → IsSettingFault options e → IsUnlisted options e
is_refused options TooManySlots (inl builders) = absurd builders
is_refused options TooManySlots (inr info) = absurd info.1
is_refused options Memory fault = tt
is_refused options e fault = setting_refused options [] e (accepted options) fault
