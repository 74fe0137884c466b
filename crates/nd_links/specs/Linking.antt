-- The inputs of lines by number, or why they have none. Serves proofs alone.
use Rattle.std.specs.Prelude.{◌≡◌, ℕ, ◌+◌, ◌<◌, List, ◌∷◌, ◌++◌, length, map, Contains, Result, Ok, Err, Option, Some, None}
use Rattle.std.specs.List.{slice_index_or, AllZip}
use Rattle.nd_graph.specs.declared.graph.Input.{Input}
use Rattle.nd_line.specs.declared.line.NamedInput.{NamedInput}
use Rattle.nd_links.specs.declared.fault.GraphError.{GraphError}
use Rattle.nd_links.specs.declared.fault.GraphError.TheVariants as bundle
use Rattle.nd_links.specs.declared.link_error.LinkError.{LinkError}
use Rattle.nd_links.specs.declared.link_error.LinkError.TheVariants.{NoInput, NoOutput, Memory}
use Rattle.nd_links.specs.Settled.{AllNamesRise}
use Rattle.nd_links.specs.Whole.{AreNumbered, HasInputs, LacksInput, LacksName, LacksOutput}

-- what inputs are looked up in: the path of each node, and the names of its outputs
pub record Known : Type 0 where
  pub paths : List (List ℕ)
  pub names : List (List (List ℕ))

abbrev pub known_of : List (List ℕ) → List (List (List ℕ)) → Known
known_of paths names = record { paths = paths; names = names }

-- each node has its names, which rise
pub record IsKnown (known : Known) : Type 0 where
  pub sized : length known.names ≡ length known.paths
  pub rising : AllNamesRise known.names

-- the refusal of the line with this number
abbrev pub link_fault_at : LinkError → ℕ → GraphError
link_fault_at NoInput line = bundle.MissingInput line
link_fault_at NoOutput line = bundle.MissingOutput line
link_fault_at Memory line = bundle.Memory

-- the input derivation has a line
pub record HasPath (known : Known) (want : NamedInput) : Type 0 where
  pub there : Contains known.paths want.path

-- the input derivation has no line
pub record LacksPath (known : Known) (want : NamedInput) : Type 0 where
  pub missing : Contains known.paths want.path → ⊥

-- why an input has no number
abbrev pub IsInputFault : Known → NamedInput → LinkError → Type 0
IsInputFault known want NoInput = LacksPath known want
IsInputFault known want NoOutput = LacksName known.paths known.names want
IsInputFault known want Memory = Unit {0}

-- why some input of a line has no number; there may be other causes
abbrev pub IsRowFault : Known → List NamedInput → LinkError → Type 0
IsRowFault known wants NoInput = LacksInput known.paths wants
IsRowFault known wants NoOutput = LacksOutput known.paths known.names wants
IsRowFault known wants Memory = Unit {0}

-- each input derivation of the line has a line, and some output that is named is none of it
pub record LacksOnlyOutput (known : Known) (wants : List NamedInput) : Type 0 where
  pub inputs : HasInputs known.paths wants
  pub lacks : LacksOutput known.paths known.names wants

-- the first cause for which the inputs of a line have no numbers
abbrev pub IsLineFault : Known → List NamedInput → LinkError → Type 0
IsLineFault known wants NoInput = LacksInput known.paths wants
IsLineFault known wants NoOutput = LacksOnlyOutput known wants
IsLineFault known wants Memory = Unit {0}

-- the inputs of a line by number, or the first cause for which they have none
abbrev pub IsLink : Known → List NamedInput → Result (List Input) LinkError → Type 0
IsLink known wants (Ok row) = AreNumbered known.paths known.names wants row
IsLink known wants (Err fault) = IsLineFault known wants fault

-- the same of each line
pub record AreLinks (known : Known) (wants : List (List NamedInput)) (rows : List (Result (List Input) LinkError)) : Type 0 where
  pub each : AllZip (IsLink known) wants rows

-- why it isn't known of a line that its input derivations have lines
abbrev pub input_fault : Result (List Input) LinkError → Option LinkError
input_fault (Ok row) = None
input_fault (Err NoInput) = Some NoInput
input_fault (Err NoOutput) = None
input_fault (Err Memory) = Some Memory

-- a row that is none
abbrev pub no_row : Result (List Input) LinkError
no_row = Err Memory

-- the input derivations of the lines before this one have lines
pub record HaveInputs (rows : List (Result (List Input) LinkError)) (place : ℕ) : Type 0 where
  pub none : (d : ℕ) → d < place → input_fault (slice_index_or rows d no_row) ≡ None

-- the first line of which it isn't known is refused so
pub record IsFirstUnknown (rows : List (Result (List Input) LinkError)) (error : GraphError) : Type 0 where
  pub place : ℕ
  pub fault : LinkError
  pub within : place < length rows
  pub before : HaveInputs rows place
  pub is : input_fault (slice_index_or rows place no_row) ≡ Some fault
  pub error_is : error ≡ link_fault_at fault (place + 1)

-- a line was linked
abbrev pub linked : List Input → Result (List Input) LinkError
linked row = Ok row

-- all lines were linked
pub record AreAllLinked (rows : List (Result (List Input) LinkError)) (inputs : List (List Input)) : Type 0 where
  pub all : rows ≡ map linked inputs

-- a line was refused, after lines that were linked
pub record IsFirstUnlinked (rows : List (Result (List Input) LinkError)) (error : GraphError) : Type 0 where
  pub before : List (List Input)
  pub fault : LinkError
  pub behind : List (Result (List Input) LinkError)
  pub parts : rows ≡ map linked before ++ Err fault ∷ behind
  pub error_is : error ≡ link_fault_at fault (length before + 1)

-- a line was refused, or memory was wanting
pub data IsUnlinked (rows : List (Result (List Input) LinkError)) (error : GraphError) : Type 0 where
  of_line : IsFirstUnlinked rows error → IsUnlinked rows error
  of_memory : error ≡ bundle.Memory → IsUnlinked rows error

-- a line has no input, or else a line was refused, or memory was wanting
pub data IsUngathered (rows : List (Result (List Input) LinkError)) (error : GraphError) : Type 0 where
  of_input : IsFirstUnknown rows error → IsUngathered rows error
  of_output : HaveInputs rows (length rows) → IsUnlinked rows error → IsUngathered rows error
