-- What the options and the bundle describe: the graph, the park with its local machine and its builders, and the references
-- of paths. The clauses of `take_park` and of each engine cite this.
use Rattle.std.specs.Prelude.{◌≡◌, ◌≢◌, ◌⊎◌, ℕ, ◌<◌, ◌≤◌, List, length, Result, Ok, Err}
use Rattle.nd_machines.specs.Builders.{Builder}
use Rattle.nd_machines.specs.BuildersList.{builders}
use Rattle.nd_machines.specs.FeatureSets.{listed}
use Rattle.nd_eligible.specs.Settings.{Settings}
use Rattle.nd_graph.specs.Graphs.{Nodes}
use Rattle.nd_bundle.specs.Bundles.{IsBundle, IsFirstFault}
use Rattle.nd_links.specs.declared.fault.GraphError.{GraphError}
use Rattle.nd_bytes.specs.Lines.{lines_of}
use Rattle.nd_closure.specs.Info.{AreListed, IsRefused}
use Rattle.nd_closure.specs.declared.info_error.InfoError.{InfoError}
use Rattle.nd_cli.specs.Inputs.{limit, OkUnlessMemory}
use Rattle.nd_cli.specs.declared.options.ParkOptions.{ParkOptions}
use Rattle.nd_cli.specs.declared.park.Park.{Park}
use Rattle.nd_cli.specs.declared.fault.Place.{Place}
use Rattle.nd_cli.specs.declared.fault.CliFault.{CliFault}
use Rattle.nd_cli.specs.declared.fault.CliFault.TheVariants.{Drvs, Builders, Info, TooLarge, Memory}

-- the text is within the limit, and is the bundle of this graph
pub record HasGraph (options : ParkOptions) (text : List ℕ) (graph : Nodes) : Type 0 where
  pub within : length text ≤ limit
  pub bundle : IsBundle options.check_paths text graph

-- the text is a bundle
pub record IsAccepted (options : ParkOptions) (text : List ℕ) : Type 0 where
  pub graph : Nodes
  pub has : HasGraph options text graph

-- Why the bundle is refused: it is too large, or this is its first refusal. Want of memory is no refusal of a bundle, and is told
-- only of one that isn't too large.
abbrev pub IsBundleFault : ParkOptions → List ℕ → CliFault → Type 0
IsBundleFault options text (Drvs e) = (length text ≤ limit) × IsFirstFault options.check_paths text e × (e ≢ GraphError.Memory)
IsBundleFault options text (TooLarge place) = (place ≡ Place.Drvs) × (limit < length text)
IsBundleFault options text Memory = length text ≤ limit
IsBundleFault options text _ = ⊥

-- what a refusal of a bundle is told as
abbrev pub IsToldAs : GraphError → CliFault → Type 0
IsToldAs refusal (Drvs e) = (e ≡ refusal) × (refusal ≢ GraphError.Memory)
IsToldAs refusal Memory = refusal ≡ GraphError.Memory
IsToldAs refusal _ = ⊥

-- the text of the builders list is within the limit, and these are its machines
pub record HasBuilders (options : ParkOptions) (machines : List Builder) : Type 0 where
  pub within : length options.builders ≤ limit
  pub read : builders options.system options.builders ≡ Ok machines

-- the text is a builders list
pub record AreBuildersAccepted (options : ParkOptions) : Type 0 where
  pub machines : List Builder
  pub has : HasBuilders options machines

-- Why the builders list is refused: it is too large, or this is its first refusal. Want of memory is told only of one that isn't too
-- large.
abbrev pub IsBuildersFault : ParkOptions → CliFault → Type 0
IsBuildersFault options (TooLarge place) = (place ≡ Place.Builders) × (limit < length options.builders)
IsBuildersFault options (Builders refusal) = (length options.builders ≤ limit) × (builders options.system options.builders ≡ Err refusal)
IsBuildersFault options Memory = length options.builders ≤ limit
IsBuildersFault options _ = ⊥

-- the info text is within the limit, and lists these paths with their references
pub record HasInfo (options : ParkOptions) (info : List (List ℕ × List (List ℕ))) : Type 0 where
  pub within : length options.info ≤ limit
  pub listed : AreListed (lines_of options.info) info

-- Why the info text is refused: it is too large, or this is its first bad line. Want of memory is no refusal of it, and is told only
-- of one that isn't too large.
abbrev pub IsInfoFault : ParkOptions → CliFault → Type 0
IsInfoFault options (TooLarge place) = (place ≡ Place.Info) × (limit < length options.info)
IsInfoFault options (Info refusal) = (length options.info ≤ limit) × IsRefused options.info refusal × (refusal ≢ InfoError.Memory)
IsInfoFault options Memory = length options.info ≤ limit
IsInfoFault options _ = ⊥

-- a bundle, a builders list and an info text: each is accepted
pub record HasPark (options : ParkOptions) (text : List ℕ) (graph : Nodes) (machines : List Builder) (info : List (List ℕ × List (List ℕ))) : Type 0 where
  pub bundle : HasGraph options text graph
  pub builders : HasBuilders options machines
  pub references : HasInfo options info

-- the parts of two parks, of which the second ones are these
pub record AreSameParts (graph same_graph : Nodes) (machines same_machines : List Builder) (info same_info : List (List ℕ × List (List ℕ))) : Type 0 where
  pub graphs : graph ≡ same_graph
  pub builders : machines ≡ same_machines
  pub references : info ≡ same_info

-- where each of them is accepted, the answer is a park of these parts, unless memory runs out
abbrev pub AnswersAcceptedPark : ParkOptions → List ℕ → Result Park CliFault → Type 0
AnswersAcceptedPark options text answer =
    (graph : Nodes) (machines : List Builder) (info : List (List ℕ × List (List ℕ))) → HasPark options text graph machines info
    → OkUnlessMemory answer (λ park. AreSameParts park.graph graph park.machines.items machines park.info.entries info)

-- each of them is accepted
pub record IsParkAccepted (options : ParkOptions) (text : List ℕ) : Type 0 where
  pub graph : Nodes
  pub machines : List Builder
  pub info : List (List ℕ × List (List ℕ))
  pub has : HasPark options text graph machines info

-- the bundle is refused, or else the builders list, or else the info text
abbrev pub IsParkFault : ParkOptions → List ℕ → CliFault → Type 0
IsParkFault options text e =
    IsBundleFault options text e
    ⊎ ((IsAccepted options text × IsBuildersFault options e)
    ⊎ (IsAccepted options text × AreBuildersAccepted options × IsInfoFault options e))

-- the local machine: its lists are cut at commas alone
abbrev pub local_of : ParkOptions → Settings
local_of options = record {
  system = options.system;
  extra = listed options.extra;
  features = listed options.features;
  jobs = options.jobs;
}
