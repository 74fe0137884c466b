-- Accepted inputs are refused for nothing, and their simulation is the one that is written.
use Rattle.std.proofs.Common.{◌≡◌, ℕ, ◌+◌, ◌≤◌, Bool, List, ◌++◌, length, Option, None, Some, Result, Ok, Err, sym, ap, subst, ◌∙◌, append-nil, length-append, arith, inl, inr}
use Rattle.nd_machines.specs.Builders.{Builder}
use Rattle.nd_graph.specs.Graphs.{Nodes}
use Rattle.nd_bundle.proofs.OneBundle.{one_graph, never_both, is_refused}
use Rattle.nd_bytes.specs.Lines.{lines_of}
use Rattle.nd_closure.proofs.Once.{table_once, memory_alone}
use Rattle.nd_history.specs.Premises.{Premises}
use Rattle.nd_devices.specs.Watched.{Watched}
use Rattle.nd_history.specs.Choices.{machines_in}
use Rattle.nd_ledger.specs.Worlds.{World}
use Rattle.nd_script.specs.declared.command.Command.{Command}
use Rattle.nd_script.specs.Script.{IsLine}
use Rattle.nd_script.proofs.Once.{commands_once, memory_alone as script_memory_alone}
use Rattle.nd_cli.specs.Inputs.{limit, ReadsWhole}
use Rattle.nd_cli.specs.Parks.{HasGraph, IsBundleFault, HasBuilders, IsBuildersFault, HasInfo, IsInfoFault, IsParkFault}
use Rattle.nd_cli.specs.Asked.{RefusesPark}
use Rattle.nd_cli.specs.declared.options.ParkOptions.{ParkOptions}
use Rattle.nd_cli.specs.declared.fault.CliFault.{CliFault}
use Rattle.nd_cli.specs.declared.fault.CliFault.TheVariants.{Derivation, Drvs, Builders, Info, Script, Stand, History, TooLarge, TooManySlots, Read, Write, Memory, Thread, Receipts}
use Rattle.nd_sim.specs.Written.{WritesSimulation}
use Rattle.nd_commands.specs.Opened.{HasInputs, ReadsInputs}
use Rattle.nd_commands.specs.Scripts.{HasScript, IsScriptFault}
use Rattle.nd_commands.specs.Simulated.{IsSimGiven, RefusesScript, IsSimFault, AcceptsSim, IsNoRefusal}

-- ---- what was read

same_text : (xs ys : List ℕ) → Some xs ≡ Some ys → xs ≡ ys
same_text xs ys h = cc

-- what was read of an input that is within the limit is all of it
text_once : (unread left : Option (List ℕ)) (text read : List ℕ) → unread ≡ Some text → length text ≤ limit → ReadsWhole unread left read → read ≡ text
text_once None left text read known within reads = cc
text_once (Some xs) None text read known within reads = absurd reads.read
text_once (Some xs) (Some ys) text read known within reads =
    let same = same_text xs text known in
    let sized : length xs ≡ length text = ap length same in
    let parts : length xs ≡ length read + length ys = ap length reads.read ∙ length-append read ys in
    let few : length read ≤ limit = omega arith in
    sym (append-nil read) ∙ ap (λ (rest : List ℕ). read ++ rest) (sym (reads.whole few)) ∙ sym reads.read ∙ same

-- ---- one reading

builders_once : {E : Type 0} (answer : Result (List Builder) E) (a b : List Builder) → answer ≡ Ok a → answer ≡ Ok b → a ≡ b
builders_once answer a b h k = cc

inputs_once : (options : ParkOptions) (text : List ℕ) (i j : Premises) → HasInputs options text i → HasInputs options text j → i ≡ j
inputs_once options text i j one other =
    let graph = one_graph options.check_paths text i.graph j.graph one.park.bundle.bundle other.park.bundle.bundle in
    let machines = builders_once _ i.machines j.machines one.park.builders.read other.park.builders.read in
    let info = table_once options.info i.info j.info one.park.references.listed other.park.references.listed in
    let local = one.local ∙ sym other.local in
    let keep_going = one.keep_going ∙ sym other.keep_going in
    λ k. record { graph = graph k; machines = machines k; local = local k; info = info k; keep_going = keep_going k }

script_once : (i : Premises) (script : List ℕ) (commands others : List Command) → HasScript i script commands → HasScript i script others → commands ≡ others
script_once i script commands others one other = commands_once (length i.graph.paths) (machines_in i) (lines_of script) commands others one.says other.says

-- ---- what is accepted is refused for nothing

bundle_free : (options : ParkOptions) (text : List ℕ) (graph : Nodes) (e : CliFault) → HasGraph options text graph → IsBundleFault options text e → IsNoRefusal e
bundle_free options text graph (Drvs e) has fault = absurd (never_both options.check_paths text graph e has.bundle (is_refused options.check_paths text e fault.1 fault.2))
bundle_free options text graph (TooLarge place) has fault = let within = has.within in let beyond = fault.1 in absurd (omega arith)
bundle_free options text graph Memory has fault = tt
bundle_free options text graph Read has fault = tt
bundle_free options text graph Write has fault = tt
bundle_free options text graph (Derivation e) has fault = fault
bundle_free options text graph (Builders e) has fault = fault
bundle_free options text graph (Info e) has fault = fault
bundle_free options text graph (Script e) has fault = fault
bundle_free options text graph (Stand e) has fault = fault
bundle_free options text graph (History e) has fault = fault
bundle_free options text graph TooManySlots has fault = fault
bundle_free options text graph Thread has fault = fault
bundle_free options text graph Receipts has fault = fault

never_wrong : {A E : Type 0} (answer : Result A E) (a : A) (e : E) → answer ≡ Ok a → answer ≡ Err e → ⊥
never_wrong answer a e h k = cc

builders_free : (options : ParkOptions) (machines : List Builder) (e : CliFault) → HasBuilders options machines → IsBuildersFault options e → IsNoRefusal e
builders_free options machines (Builders e) has fault = absurd (never_wrong _ machines e has.read fault.1)
builders_free options machines (TooLarge place) has fault = let within = has.within in let beyond = fault.1 in absurd (omega arith)
builders_free options machines Memory has fault = tt
builders_free options machines Read has fault = tt
builders_free options machines Write has fault = tt
builders_free options machines (Derivation e) has fault = fault
builders_free options machines (Drvs e) has fault = fault
builders_free options machines (Info e) has fault = fault
builders_free options machines (Script e) has fault = fault
builders_free options machines (Stand e) has fault = fault
builders_free options machines (History e) has fault = fault
builders_free options machines TooManySlots has fault = fault
builders_free options machines Thread has fault = fault
builders_free options machines Receipts has fault = fault

info_free : (options : ParkOptions) (info : List (List ℕ × List (List ℕ))) (e : CliFault) → HasInfo options info → IsInfoFault options e → IsNoRefusal e
info_free options info (Info e) has fault = absurd (fault.2 (memory_alone options.info e info fault.1 has.listed))
info_free options info (TooLarge place) has fault = let within = has.within in let beyond = fault.1 in absurd (omega arith)
info_free options info Memory has fault = tt
info_free options info Read has fault = tt
info_free options info Write has fault = tt
info_free options info (Derivation e) has fault = fault
info_free options info (Drvs e) has fault = fault
info_free options info (Builders e) has fault = fault
info_free options info (Script e) has fault = fault
info_free options info (Stand e) has fault = fault
info_free options info (History e) has fault = fault
info_free options info TooManySlots has fault = fault
info_free options info Thread has fault = fault
info_free options info Receipts has fault = fault

park_free : (options : ParkOptions) (unread left : Option (List ℕ)) (text : List ℕ) (i : Premises) (e : CliFault) → unread ≡ Some text → HasInputs options text i → RefusesPark options unread left e → IsNoRefusal e
park_free options unread left text i e known has refused =
    let same = text_once unread left text refused.text known has.park.bundle.within refused.read in
    let fault = subst (λ (t : List ℕ). IsParkFault options t e) same refused.refused in
    elim fault [
      | inl bundle ↦ bundle_free options text i.graph e has.park.bundle bundle
      | inr later ↦ elim later [
        | inl builders ↦ builders_free options i.machines e has.park.builders builders.1
        | inr info ↦ info_free options i.info e has.park.references info.2
      ]
    ]

script_fault_free : (i : Premises) (script : List ℕ) (commands : List Command) (e : CliFault) → HasScript i script commands → IsScriptFault i script e → IsNoRefusal e
script_fault_free i script commands (Script e) has fault =
    absurd (fault.2 (script_memory_alone (IsLine (length i.graph.paths) (machines_in i)) Command.Stop script e commands fault.1 has.says))
script_fault_free i script commands (TooLarge place) has fault = let within = has.within in let beyond = fault.1 in absurd (omega arith)
script_fault_free i script commands Memory has fault = tt
script_fault_free i script commands Read has fault = tt
script_fault_free i script commands Write has fault = tt
script_fault_free i script commands (Derivation e) has fault = fault
script_fault_free i script commands (Drvs e) has fault = fault
script_fault_free i script commands (Builders e) has fault = fault
script_fault_free i script commands (Info e) has fault = fault
script_fault_free i script commands (Stand e) has fault = fault
script_fault_free i script commands (History e) has fault = fault
script_fault_free i script commands TooManySlots has fault = fault
script_fault_free i script commands Thread has fault = fault
script_fault_free i script commands Receipts has fault = fault

-- the inputs that were read are those that are accepted
read_once : (options : ParkOptions) (unread left : Option (List ℕ)) (text : List ℕ) (i j : Premises) → unread ≡ Some text → HasInputs options text i → ReadsInputs options unread left j → j ≡ i
read_once options unread left text i j known has reads =
    let same = text_once unread left text reads.text known has.park.bundle.within reads.read in
    inputs_once options text j i (subst (λ (t : List ℕ). HasInputs options t j) same reads.has) has

script_free : (options : ParkOptions) (script : List ℕ) (unread left : Option (List ℕ)) (text : List ℕ) (i : Premises) (commands : List Command) (e : CliFault) → unread ≡ Some text
    → AcceptsSim options script text i commands → RefusesScript options script unread left e → IsNoRefusal e
script_free options script unread left text i commands e known accepts refused =
    let same = read_once options unread left text i refused.inputs known accepts.has refused.reads in
    script_fault_free i script commands e accepts.says (subst (λ (j : Premises). IsScriptFault j script e) same refused.refused)

pub sim_free : {R : Type 0} (options : ParkOptions) (script : List ℕ) (remaining : R → Option (List ℕ)) (reader reader_after : Watched R) (writer_marked : Bool) (text : List ℕ) (i : Premises) (commands : List Command) (e : CliFault)
    → remaining reader.device ≡ Some text → AcceptsSim options script text i commands → IsSimFault options script remaining reader reader_after writer_marked e → IsNoRefusal e
sim_free options script remaining reader reader_after writer_marked text i commands (Drvs e) known accepts fault = park_free options (remaining reader.device) (remaining reader_after.device) text i (Drvs e) known accepts.has fault
sim_free options script remaining reader reader_after writer_marked text i commands (Builders e) known accepts fault = park_free options (remaining reader.device) (remaining reader_after.device) text i (Builders e) known accepts.has fault
sim_free options script remaining reader reader_after writer_marked text i commands (Info e) known accepts fault = park_free options (remaining reader.device) (remaining reader_after.device) text i (Info e) known accepts.has fault
sim_free options script remaining reader reader_after writer_marked text i commands (Script e) known accepts fault = script_free options script (remaining reader.device) (remaining reader_after.device) text i commands (Script e) known accepts fault
sim_free options script remaining reader reader_after writer_marked text i commands (TooLarge place) known accepts fault =
    elim fault [
      | inl park ↦ park_free options (remaining reader.device) (remaining reader_after.device) text i (TooLarge place) known accepts.has park
      | inr said ↦ script_free options script (remaining reader.device) (remaining reader_after.device) text i commands (TooLarge place) known accepts said
    ]
sim_free options script remaining reader reader_after writer_marked text i commands Memory known accepts fault = tt
sim_free options script remaining reader reader_after writer_marked text i commands Read known accepts fault = tt
sim_free options script remaining reader reader_after writer_marked text i commands Write known accepts fault = tt
sim_free options script remaining reader reader_after writer_marked text i commands (Derivation e) known accepts fault = fault
sim_free options script remaining reader reader_after writer_marked text i commands (Stand e) known accepts fault = fault
sim_free options script remaining reader reader_after writer_marked text i commands (History e) known accepts fault = fault
sim_free options script remaining reader reader_after writer_marked text i commands TooManySlots known accepts fault = fault
sim_free options script remaining reader reader_after writer_marked text i commands Thread known accepts fault = fault
sim_free options script remaining reader reader_after writer_marked text i commands Receipts known accepts fault = fault

-- ---- what was simulated is what is accepted

pub sim_accepted : {R W : Type 0} (options : ParkOptions) (script : List ℕ) (remaining : R → Option (List ℕ)) (reader reader_after : Watched R) (contents : W → Option (List ℕ)) (writer writer_after : Watched W) (dispatch : World) (said : List Command) (status : ℕ) (text : List ℕ) (i : Premises)
    (commands : List Command) → IsSimGiven options script remaining reader reader_after dispatch said → WritesSimulation dispatch.inputs said status (contents writer.device) (contents writer_after.device) → remaining reader.device ≡ Some text
    → AcceptsSim options script text i commands → WritesSimulation i commands status (contents writer.device) (contents writer_after.device)
sim_accepted options script remaining reader reader_after contents writer writer_after dispatch said status text i commands given simulated known accepts =
    let inputs = read_once options (remaining reader.device) (remaining reader_after.device) text i dispatch.inputs known accepts.has given.reads in
    let has = subst (λ (j : Premises). HasScript j script said) inputs given.says in
    let same = script_once i script said commands has accepts.says in
    subst (λ (cs : List Command). WritesSimulation i cs status (contents writer.device) (contents writer_after.device)) same (subst (λ (j : Premises). WritesSimulation j said status (contents writer.device) (contents writer_after.device)) inputs simulated)
