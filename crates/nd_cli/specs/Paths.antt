-- What `path` answers: the path of the derivation text that was read, under the name that was given. The clauses of `path_engine`
-- cite this.
use Rattle.std.specs.Prelude.{◌≡◌, ℕ, ◌<◌, ◌≤◌, Bool, true, List, [], ◌∷◌, ◌++◌, length, Option}
use Rattle.std.specs.Io.KnownBytes.{Appends}
use Rattle.nd_links.specs.declared.fault.GraphError.{GraphError}
use Rattle.nd_bundle.specs.DrvPaths.{IsDrvPath, HasNoDrvPath}
use Rattle.nd_devices.specs.Watched.{Watched}
use Rattle.nd_devices.specs.Written.{WritesPart}
use Rattle.nd_cli.specs.Inputs.{limit, ReadsWhole, is_write_fault}
use Rattle.nd_cli.specs.declared.fault.Place.{Place}
use Rattle.nd_cli.specs.declared.fault.DerivationError.{DerivationError}
use Rattle.nd_cli.specs.declared.fault.DerivationError.TheVariants.{BadPath, BadDerivation}
use Rattle.nd_cli.specs.declared.fault.CliFault.{CliFault}
use Rattle.nd_cli.specs.declared.fault.CliFault.TheVariants.{Derivation, Drvs, Builders, Info, Script, Stand, History, TooLarge, TooManySlots, Read, Write, Memory, Thread, Receipts}

-- the text is within the limit, and has this path under the name
pub record HasPath (name text path : List ℕ) : Type 0 where
  pub within : length text ≤ limit
  pub is : IsDrvPath name text path

-- the path and a newline were written, of a whole input within the limit
pub record AnswersPath {R W : Type 0} (name : List ℕ) (remaining : R → Option (List ℕ)) (reader reader_after : Watched R) (contents : W → Option (List ℕ)) (writer writer_after : Watched W) : Type 0 where
  pub text : List ℕ
  pub path : List ℕ
  pub read : ReadsWhole (remaining reader.device) (remaining reader_after.device) text
  pub within : length text ≤ limit
  pub is : IsDrvPath name text path
  pub written_is : Appends (contents writer.device) (contents writer_after.device) (path ++ 10 ∷ [])

-- a part of them was written, from the beginning
pub record AnswersPathInPart {R W : Type 0} (name : List ℕ) (remaining : R → Option (List ℕ)) (reader reader_after : Watched R) (contents : W → Option (List ℕ)) (writer writer_after : Watched W) : Type 0 where
  pub text : List ℕ
  pub path : List ℕ
  pub read : ReadsWhole (remaining reader.device) (remaining reader_after.device) text
  pub within : length text ≤ limit
  pub is : IsDrvPath name text path
  pub part : WritesPart (contents writer.device) (contents writer_after.device) (path ++ 10 ∷ [])

-- what a fault leaves: the writer's, a part of the line
abbrev pub LeavesPath : {R W : Type 0} → List ℕ → (R → Option (List ℕ)) → Watched R → Watched R → (W → Option (List ℕ)) → Watched W → Watched W → CliFault → Type 0
LeavesPath name remaining reader reader_after contents writer writer_after e =
    is_write_fault e ≡ true → AnswersPathInPart name remaining reader reader_after contents writer writer_after

-- why a text within the limit has no path under this name
abbrev pub as_graph_error : DerivationError → GraphError
as_graph_error BadPath = GraphError.BadPath 0
as_graph_error BadDerivation = GraphError.BadDerivation 0

-- why the text is refused: it is too large; or its name, and then the text itself
abbrev pub IsTextFault : List ℕ → List ℕ → CliFault → Type 0
IsTextFault name text (Derivation refusal) = (length text ≤ limit) × HasNoDrvPath name text (as_graph_error refusal)
IsTextFault name text (Drvs e) = ⊥
IsTextFault name text (Builders e) = ⊥
IsTextFault name text (Info e) = ⊥
IsTextFault name text (Script e) = ⊥
IsTextFault name text (Stand e) = ⊥
IsTextFault name text (History e) = ⊥
IsTextFault name text (TooLarge place) = (place ≡ Place.Derivation) × (limit < length text)
IsTextFault name text TooManySlots = ⊥
IsTextFault name text Read = ⊥
IsTextFault name text Write = ⊥
IsTextFault name text Memory = length text ≤ limit
IsTextFault name text Thread = ⊥
IsTextFault name text Receipts = ⊥

-- the text that was read is refused for this reason
pub record RefusesText (name : List ℕ) (unread left : Option (List ℕ)) (fault : CliFault) : Type 0 where
  pub text : List ℕ
  pub read : ReadsWhole unread left text
  pub refused : IsTextFault name text fault

-- Why there is no answer: the text is refused, a device failed and is marked, or memory ran out.
abbrev pub IsPathFault : {R : Type 0} → List ℕ → (R → Option (List ℕ)) → Watched R → Watched R → Bool → CliFault → Type 0
IsPathFault name remaining reader reader_after writer_marked (Derivation refusal) = RefusesText name (remaining reader.device) (remaining reader_after.device) (Derivation refusal)
IsPathFault name remaining reader reader_after writer_marked (Drvs e) = ⊥
IsPathFault name remaining reader reader_after writer_marked (Builders e) = ⊥
IsPathFault name remaining reader reader_after writer_marked (Info e) = ⊥
IsPathFault name remaining reader reader_after writer_marked (Script e) = ⊥
IsPathFault name remaining reader reader_after writer_marked (Stand e) = ⊥
IsPathFault name remaining reader reader_after writer_marked (History e) = ⊥
IsPathFault name remaining reader reader_after writer_marked (TooLarge place) = RefusesText name (remaining reader.device) (remaining reader_after.device) (TooLarge place)
IsPathFault name remaining reader reader_after writer_marked TooManySlots = ⊥
IsPathFault name remaining reader reader_after writer_marked Read = reader_after.is_marked ≡ true
IsPathFault name remaining reader reader_after writer_marked Write = writer_marked ≡ true
IsPathFault name remaining reader reader_after writer_marked Memory = Unit {0}
IsPathFault name remaining reader reader_after writer_marked Thread = ⊥
IsPathFault name remaining reader reader_after writer_marked Receipts = ⊥
