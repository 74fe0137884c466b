-- A bundle that is read from its input in blocks. The clauses of `take_park` cite `AnswersKnownPark`; the rest serves private ones.
use Rattle.std.specs.Prelude.{◌≡◌, ℕ, ◌+◌, ◌<◌, ◌≤◌, List, ◌++◌, length, Option, Some, Result, MatchResult}
use Rattle.std.specs.Io.KnownBytes.{Consumes, IsAtEnd}
use Rattle.nd_machines.specs.Builders.{Builder}
use Rattle.nd_links.specs.Placing.{ArePlaced, Placed}
use Rattle.nd_graph.specs.Graphs.{Nodes}
use Rattle.nd_cli.specs.Inputs.{ReadsWhole, limit}
use Rattle.nd_cli.specs.Parks.{AreSameParts, HasGraph, HasPark}
use Rattle.nd_cli.specs.Statuses.{exit_status}
use Rattle.nd_cli.specs.declared.options.ParkOptions.{ParkOptions}
use Rattle.nd_cli.specs.declared.park.Park.{Park}
use Rattle.nd_cli.specs.declared.fault.CliFault.{CliFault}

-- at most so many bytes were read, and fewer only where the input is then at its end
pub record ReadsPart (most : ℕ) (old new : Option (List ℕ)) (bytes : List ℕ) : Type 0 where
  pub read : Consumes old new bytes
  pub bound : length bytes ≤ most
  pub whole : length bytes < most → IsAtEnd new

-- A reader was fed the text of what a device gave so far, and the block is what it gave behind that, so many bytes with it: as many as this size, unless
-- the device is at its end or gave more than the limit.
pub record IsFedAsFar (old new : Option (List ℕ)) (text block : List ℕ) (count size : ℕ) : Type 0 where
  pub read : Consumes old new (text ++ block)
  pub counted : count ≡ length text + length block
  pub most : count ≤ limit + 1
  pub bound : length block ≤ size
  pub whole : length block < size → count ≤ limit → IsAtEnd new

-- the whole input, as the bundle of this graph
pub record ReadsGraph (options : ParkOptions) (unread left : Option (List ℕ)) (graph : Nodes) : Type 0 where
  pub text : List ℕ
  pub read : ReadsWhole unread left text
  pub has : HasGraph options text graph

-- where an input that is known is the bundle of a graph, the answer is this graph, unless the reader or the memory fails
abbrev pub AnswersKnownGraph : ParkOptions → Option (List ℕ) → Result Nodes CliFault → Type 0
AnswersKnownGraph options unread answer =
    (text : List ℕ) (graph : Nodes) → unread ≡ Some text → HasGraph options text graph → MatchResult answer (λ read. read ≡ graph) (λ e. exit_status e ≡ 5)

-- the text is within the limit, and is the bundle of a graph with these needs
pub record HasNeedsWithin (options : ParkOptions) (text : List ℕ) (needs : Placed) : Type 0 where
  pub graph : Nodes
  pub has : HasGraph options text graph
  pub placed : ArePlaced needs.table needs.places graph.needs

-- the whole input, as the bundle of a graph with these needs
pub record ReadsNeeds (options : ParkOptions) (unread left : Option (List ℕ)) (needs : Placed) : Type 0 where
  pub graph : Nodes
  pub read : ReadsGraph options unread left graph
  pub placed : ArePlaced needs.table needs.places graph.needs

-- where an input that is known is the bundle of a graph, the answer is the needs of this graph, unless the reader or the memory fails
abbrev pub AnswersKnownNeeds : ParkOptions → Option (List ℕ) → Result Placed CliFault → Type 0
AnswersKnownNeeds options unread answer =
    (text : List ℕ) (graph : Nodes) → unread ≡ Some text → HasGraph options text graph → MatchResult answer (λ needs. ArePlaced needs.table needs.places graph.needs) (λ e. exit_status e ≡ 5)

-- where an input that is known is accepted, with the other inputs, the answer is their park, unless the reader or the memory fails
abbrev pub AnswersKnownPark : ParkOptions → Option (List ℕ) → Result Park CliFault → Type 0
AnswersKnownPark options unread answer =
    (text : List ℕ) (graph : Nodes) (machines : List Builder) (info : List (List ℕ × List (List ℕ))) → unread ≡ Some text → HasPark options text graph machines info
    → MatchResult answer (λ park. AreSameParts park.graph graph park.machines.items machines park.info.entries info) (λ e. exit_status e ≡ 5)
