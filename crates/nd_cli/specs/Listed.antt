-- What `park` writes, and why it doesn't. The contract of `park_engine` cites this.
use Rattle.std.specs.Prelude.{◌≡◌, ℕ, ◌<◌, ◌≤◌, List, [], Option}
use Rattle.std.specs.Io.KnownBytes.{Appends}
use Rattle.nd_machines.specs.Builders.{Builder}
use Rattle.nd_graph.specs.Graphs.{Nodes}
use Rattle.nd_devices.specs.Watched.{Watched}
use Rattle.nd_devices.specs.Written.{WritesPart}
use Rattle.nd_cli.specs.Parks.{HasPark, IsParkFault, local_of}
use Rattle.nd_cli.specs.declared.options.ParkOptions.{ParkOptions}
use Rattle.nd_cli.specs.declared.fault.CliFault.{CliFault}
use Rattle.nd_cli.specs.declared.fault.CliFault.TheVariants.{TooManySlots, Memory, Write}
use Rattle.nd_cli.specs.SlotLines.{park_lines, slots_in}

-- the options describe a park, over a bundle of no derivations, which has few enough slots, and this is its text
pub record IsParkText (options : ParkOptions) (text : List ℕ) : Type 0 where
  pub graph : Nodes
  pub machines : List Builder
  pub info : List (List ℕ × List (List ℕ))
  pub park : HasPark options [] graph machines info
  pub few : slots_in (local_of options) machines ≤ 1024
  pub is : text ≡ park_lines (local_of options) machines

-- the park has more than 1,024 slots
pub record HasTooManySlots (options : ParkOptions) : Type 0 where
  pub graph : Nodes
  pub machines : List Builder
  pub info : List (List ℕ × List (List ℕ))
  pub park : HasPark options [] graph machines info
  pub many : 1024 < slots_in (local_of options) machines

-- why there is no text: an input is refused, there are too many slots, or memory ran out
abbrev pub IsUnlisted : ParkOptions → CliFault → Type 0
IsUnlisted options TooManySlots = HasTooManySlots options
IsUnlisted options Memory = Unit {0}
IsUnlisted options e = IsParkFault options [] e

-- the text of the park was written
pub record ListsPark (options : ParkOptions) (old new : Option (List ℕ)) : Type 0 where
  pub text : List ℕ
  pub is : IsParkText options text
  pub written : Appends old new text

-- a part of it was written, from its beginning
pub record ListsPart (options : ParkOptions) (old new : Option (List ℕ)) : Type 0 where
  pub text : List ℕ
  pub is : IsParkText options text
  pub written : WritesPart old new text

-- why there is no status: the writer refused and a part is out; or there is no text, and the writer is as it was
abbrev pub IsListFault : {W : Type 0} → ParkOptions → (W → Option (List ℕ)) → Watched W → Watched W → CliFault → Type 0
IsListFault options contents old new Write = ListsPart options (contents old.device) (contents new.device)
IsListFault options contents old new e = IsUnlisted options e × (new ≡ old)
