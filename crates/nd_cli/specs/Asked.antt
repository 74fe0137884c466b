-- What `ask` answers: the replies about the derivations of the bundle that was read. The clauses of `ask_engine` cite this.
use Rattle.std.specs.Prelude.{◌≡◌, ℕ, Bool, true, List, Option}
use Rattle.nd_machines.specs.Builders.{Builder}
use Rattle.nd_graph.specs.Graphs.{Nodes}
use Rattle.nd_devices.specs.Watched.{Watched}
use Rattle.nd_cli.specs.Inputs.{ReadsWhole, is_write_fault}
use Rattle.nd_cli.specs.Parks.{HasPark, IsParkFault, local_of}
use Rattle.nd_cli.specs.Asks.{WritesReplies, WritesSomeReplies}
use Rattle.nd_cli.specs.declared.options.ParkOptions.{ParkOptions}
use Rattle.nd_cli.specs.declared.fault.CliFault.{CliFault}
use Rattle.nd_cli.specs.declared.fault.CliFault.TheVariants.{Derivation, Drvs, Builders, Info, Script, Stand, History, TooLarge, TooManySlots, Read, Write, Memory, Thread, Receipts}

-- the whole input, as a bundle for the park of the options
pub record ReadsPark (options : ParkOptions) (unread left : Option (List ℕ)) (graph : Nodes) (machines : List Builder) (info : List (List ℕ × List (List ℕ))) : Type 0 where
  pub text : List ℕ
  pub read : ReadsWhole unread left text
  pub has : HasPark options text graph machines info

-- the replies about its derivations were written
pub record AnswersAsk {R W : Type 0} (options : ParkOptions) (remaining : R → Option (List ℕ)) (reader reader_after : Watched R) (contents : W → Option (List ℕ)) (writer writer_after : Watched W) : Type 0 where
  pub graph : Nodes
  pub machines : List Builder
  pub info : List (List ℕ × List (List ℕ))
  pub park : ReadsPark options (remaining reader.device) (remaining reader_after.device) graph machines info
  pub replies : WritesReplies machines (local_of options) graph.needs (contents writer.device) (contents writer_after.device)

-- a part of them was written, from their beginning
pub record AnswersAskInPart {R W : Type 0} (options : ParkOptions) (remaining : R → Option (List ℕ)) (reader reader_after : Watched R) (contents : W → Option (List ℕ)) (writer writer_after : Watched W) : Type 0 where
  pub graph : Nodes
  pub machines : List Builder
  pub info : List (List ℕ × List (List ℕ))
  pub park : ReadsPark options (remaining reader.device) (remaining reader_after.device) graph machines info
  pub replies : WritesSomeReplies machines (local_of options) graph.needs (contents writer.device) (contents writer_after.device)

-- what a fault leaves: the writer's, a part of the replies
abbrev pub LeavesAsk : {R W : Type 0} → ParkOptions → (R → Option (List ℕ)) → Watched R → Watched R → (W → Option (List ℕ)) → Watched W → Watched W → CliFault → Type 0
LeavesAsk options remaining reader reader_after contents writer writer_after e =
    is_write_fault e ≡ true → AnswersAskInPart options remaining reader reader_after contents writer writer_after

-- what was read is refused for this reason
pub record RefusesPark (options : ParkOptions) (unread left : Option (List ℕ)) (fault : CliFault) : Type 0 where
  pub text : List ℕ
  pub read : ReadsWhole unread left text
  pub refused : IsParkFault options text fault

-- Why there is no answer: an input is refused, a device failed and is marked, or memory ran out.
abbrev pub IsAskFault : {R : Type 0} → ParkOptions → (R → Option (List ℕ)) → Watched R → Watched R → Bool → CliFault → Type 0
IsAskFault options remaining reader reader_after writer_marked (Derivation e) = ⊥
IsAskFault options remaining reader reader_after writer_marked (Drvs e) = RefusesPark options (remaining reader.device) (remaining reader_after.device) (Drvs e)
IsAskFault options remaining reader reader_after writer_marked (Builders e) = RefusesPark options (remaining reader.device) (remaining reader_after.device) (Builders e)
IsAskFault options remaining reader reader_after writer_marked (Info e) = RefusesPark options (remaining reader.device) (remaining reader_after.device) (Info e)
IsAskFault options remaining reader reader_after writer_marked (Script e) = ⊥
IsAskFault options remaining reader reader_after writer_marked (Stand e) = ⊥
IsAskFault options remaining reader reader_after writer_marked (History e) = ⊥
IsAskFault options remaining reader reader_after writer_marked (TooLarge place) = RefusesPark options (remaining reader.device) (remaining reader_after.device) (TooLarge place)
IsAskFault options remaining reader reader_after writer_marked TooManySlots = ⊥
IsAskFault options remaining reader reader_after writer_marked Read = reader_after.is_marked ≡ true
IsAskFault options remaining reader reader_after writer_marked Write = writer_marked ≡ true
IsAskFault options remaining reader reader_after writer_marked Memory = Unit {0}
IsAskFault options remaining reader reader_after writer_marked Thread = ⊥
IsAskFault options remaining reader reader_after writer_marked Receipts = ⊥
