-- What the parts of an engine make together.
use Rattle.std.proofs.Common.{◌≡◌, ◌⊎◌, ◌||◌, ℕ, Bool, true, false, List, [], length, reverse, Option, Result, Ok, Err, IfOk, IfErr, OnOk, OnErr, is_err, refl, sym, ap, subst, ◌∙◌, arith, inl, inr}
use Rattle.std.specs.Io.KnownBytes.{Appends, Keeps}
use Rattle.std.proofs.KnownBytes.{Appends-kept}
use Rattle.nd_machines.specs.Builders.{Builder}
use Rattle.nd_eligible.specs.Settings.{Settings}
use Rattle.nd_graph.specs.Graphs.{Nodes}
use Rattle.nd_devices.specs.Watched.{Watched}
use Rattle.nd_devices.specs.Written.{WritesPart}
use Rattle.nd_devices.proofs.Pieces.{part_of_first, part_after, written_after, kept_part, kept_as_part}
use Rattle.nd_history.specs.declared.entry.Entry.{Entry}
use Rattle.nd_history.specs.declared.rule.Rule.{Rule}
use Rattle.nd_history.specs.Premises.{Premises}
use Rattle.nd_history.specs.Legal.{IsLegal}
use Rattle.nd_ledger.specs.Worlds.{World}
use Rattle.nd_report.specs.Audits.{IsFirstIllegal}
use Rattle.nd_script.specs.declared.command.Command.{Command}
use Rattle.nd_cli.specs.Asked.{IsAskFault, ReadsPark}
use Rattle.nd_cli.specs.Inputs.{is_read_fault, is_read_failure, is_write_fault, is_write_failure}
use Rattle.nd_cli.specs.Parks.{AreSameParts, local_of}
use Rattle.nd_cli.specs.Statuses.{exit_status}
use Rattle.nd_cli.proofs.Refused.{by_park}
use Rattle.nd_cli.specs.declared.options.ParkOptions.{ParkOptions}
use Rattle.nd_cli.specs.declared.fault.CliFault.{CliFault}
use Rattle.nd_cli.specs.declared.fault.CliFault.TheVariants.{Derivation, Drvs, Builders, Info, Script, Stand, History, TooLarge, TooManySlots, Read, Write, Memory, Thread, Receipts}
use Rattle.nd_history.specs.Standing.{drvs_in}
use Rattle.nd_sim.specs.declared.fault.SimFault.{SimFault}
use Rattle.nd_sim.specs.RunParts.{IsSimulationPart}
use Rattle.nd_sim.specs.Written.{WritesSimulation, WritesSimulationPart}
use Rattle.nd_commands.specs.Opened.{inputs_of, HasInputs, ReadsInputs}
use Rattle.nd_commands.specs.Simulated.{IsSimGiven, AnswersSim, AnswersSimInPart, IsSimFault}
use Rattle.nd_commands.specs.Audited.{HasHistory, IsHistoryFault, legal_line, illegal_line, WritesVerdict, WritesVerdictPart, LeavesVerdict, AnswersAudit, AnswersAuditInPart, IsAuditFault, IsVerdictFault}

-- ---- a writer passes on what it holds back

simulation_kept : (i : Premises) (commands : List Command) (status : ℕ) (before between written : Option (List ℕ)) → WritesSimulation i commands status before between → Keeps between written
    → WritesSimulation i commands status before written
simulation_kept i commands status before between written whole keeps = record {
  text = whole.text;
  simulated = whole.simulated;
  appended = Appends-kept before between written whole.text whole.appended keeps;
}

simulation_part_kept : (i : Premises) (commands : List Command) (before between written : Option (List ℕ)) → WritesSimulationPart i commands before between → Keeps between written
    → WritesSimulationPart i commands before written
simulation_part_kept i commands before between written some keeps = record {
  text = some.text;
  begun = some.begun;
  part = kept_part before between written some.text some.part keeps;
}

-- all of it is out, if only as a part
simulation_whole_kept : (i : Premises) (commands : List Command) (status : ℕ) (before between written : Option (List ℕ)) → WritesSimulation i commands status before between → Keeps between written
    → WritesSimulationPart i commands before written
simulation_whole_kept i commands status before between written whole keeps = record {
  text = whole.text;
  begun = IsSimulationPart.reporting (record {
    history = whole.simulated.history;
    lines = whole.simulated.lines;
    run = whole.simulated.run;
    n = drvs_in i;
    some = omega arith;
    report = whole.simulated.report;
    reported = whole.simulated.reported;
    is = whole.simulated.is;
  });
  part = kept_as_part before between written whole.text whole.appended keeps;
}

-- what a simulation wrote, once the writer passed on what it holds back
pub flushed_whole : (answer : Result ℕ SimFault) (i : Premises) (commands : List Command) (before between written : Option (List ℕ)) → IfOk answer (λ status. WritesSimulation i commands status before between)
    → Keeps between written → IfOk answer (λ status. WritesSimulation i commands status before written)
flushed_whole (Ok status) i commands before between written whole keeps = simulation_kept i commands status before between written whole keeps
flushed_whole (Err e) i commands before between written whole keeps = tt

pub flushed_part : (answer : Result ℕ SimFault) (i : Premises) (commands : List Command) (before between written : Option (List ℕ)) → OnErr answer (WritesSimulationPart i commands before between)
    → Keeps between written → OnErr answer (WritesSimulationPart i commands before written)
flushed_part (Ok status) i commands before between written some keeps = tt
flushed_part (Err e) i commands before between written some keeps = simulation_part_kept i commands before between written some keeps

or_false : (b : Bool) → (b || false) ≡ b
or_false true = refl
or_false false = refl

or_true : (b : Bool) → (b || true) ≡ true
or_true true = refl
or_true false = refl

-- a writer that passed on what it held back is marked as before
pub flushed_mark : (failed old between marked : Bool) → between ≡ (old || failed) → marked ≡ (between || false) → marked ≡ (old || failed)
flushed_mark failed old between marked mark same = same ∙ or_false between ∙ mark

-- .. and where it refused
pub unflushed_part : (answer : Result ℕ SimFault) (i : Premises) (commands : List Command) (before between written : Option (List ℕ)) → IfOk answer (λ status. WritesSimulation i commands status before between)
    → OnErr answer (WritesSimulationPart i commands before between) → Keeps between written → WritesSimulationPart i commands before written
unflushed_part (Ok status) i commands before between written whole some keeps = simulation_whole_kept i commands status before between written whole keeps
unflushed_part (Err e) i commands before between written whole some keeps = simulation_part_kept i commands before between written some keeps

-- .. and one that refused is marked
pub unflushed_mark : (old between marked : Bool) → marked ≡ (between || true) → marked ≡ (old || true)
unflushed_mark old between marked same = same ∙ or_true between ∙ sym (or_true old)

pub ruleset writes = (part_of_first, part_after, written_after)

-- ---- what was read

pub park_read : (options : ParkOptions) (unread left : Option (List ℕ)) (graph : Nodes) (machines : List Builder) (local : Settings) (info : List (List ℕ × List (List ℕ))) → ReadsPark options unread left graph machines info
    → local ≡ local_of options → ReadsInputs options unread left (inputs_of options graph machines local info)
park_read options unread left graph machines local info given is_local = record {
  text = given.text;
  read = given.read;
  has = record { park = given.has; local = is_local; keep_going = refl };
}

-- a dispatch over a park isn't the reader's fault where it isn't made
pub unmade : {A : Type 0} (answer : Result A CliFault) → IfErr answer (λ e. e ≡ Memory) → is_read_failure answer ≡ false
unmade (Ok x) memory = refl
unmade (Err e) memory = ap is_read_fault memory

-- ---- a simulation

pub sim_answered : {R W : Type 0} (options : ParkOptions) (script : List ℕ) (status : ℕ) (remaining : R → Option (List ℕ)) (reader reader_after : Watched R) (contents : W → Option (List ℕ)) (writer writer_after : Watched W) (dispatch : World) (commands : List Command)
    → IsSimGiven options script remaining reader reader_after dispatch commands → WritesSimulation dispatch.inputs commands status (contents writer.device) (contents writer_after.device)
    → AnswersSim options script status remaining reader reader_after contents writer writer_after
sim_answered options script status remaining reader reader_after contents writer writer_after dispatch commands given simulated = record {
  inputs = dispatch.inputs;
  reads = given.reads;
  commands = commands;
  says = given.says;
  simulated = simulated;
}

pub sim_begun : {R W : Type 0} (options : ParkOptions) (script : List ℕ) (remaining : R → Option (List ℕ)) (reader reader_after : Watched R) (contents : W → Option (List ℕ)) (writer writer_after : Watched W) (dispatch : World) (commands : List Command)
    → IsSimGiven options script remaining reader reader_after dispatch commands → WritesSimulationPart dispatch.inputs commands (contents writer.device) (contents writer_after.device) → (contents writer_after.device ≡ contents writer.device) ⊎ AnswersSimInPart options script remaining reader reader_after contents writer writer_after
sim_begun options script remaining reader reader_after contents writer writer_after dispatch commands given begun = inr (record {
  inputs = dispatch.inputs;
  reads = given.reads;
  commands = commands;
  says = given.says;
  begun = begun;
})

-- there is no park to simulate on
pub sim_unopened : {R : Type 0} (options : ParkOptions) (script : List ℕ) (remaining : R → Option (List ℕ)) (reader reader_after : Watched R) (writer_marked : Bool) (e : CliFault) → IsAskFault options remaining reader reader_after false e
    → IsSimFault options script remaining reader reader_after writer_marked e
sim_unopened options script remaining reader reader_after writer_marked e fault =
    by_park (IsSimFault options script remaining reader reader_after writer_marked) options remaining reader reader_after e fault (λ f refused. refused) (λ f refused. refused) (λ f refused. refused)
    (λ place refused. inl refused) (λ marked. marked) tt

-- ---- an audit

-- what was said of a legal history
pub said_legal : {W : Type 0} (answer : Result ℕ CliFault) (i : Premises) (entries : List Entry) (count : ℕ) (contents : W → Option (List ℕ)) (writer writer_after : Watched W) → count ≡ length entries → IsLegal i (reverse entries)
    → IfOk answer (λ status. status ≡ 0) → OnOk answer (Appends (contents writer.device) (contents writer_after.device) (legal_line count)) → IfOk answer (λ status. WritesVerdict i entries status contents writer writer_after)
said_legal (Ok status) i entries count contents writer writer_after all legal is_status appended = record {
  text = legal_line count;
  says = inl (record { legal = legal; status_is = is_status; is = ap legal_line all });
  appended = appended;
}
said_legal (Err e) i entries count contents writer writer_after all legal is_status appended = tt

pub said_legal_part : {W : Type 0} (answer : Result ℕ CliFault) (i : Premises) (entries : List Entry) (count : ℕ) (contents : W → Option (List ℕ)) (writer writer_after : Watched W) → count ≡ length entries → IsLegal i (reverse entries)
    → OnErr answer (WritesPart (contents writer.device) (contents writer_after.device) (legal_line count)) → IfErr answer (LeavesVerdict i entries contents writer writer_after)
said_legal_part (Ok status) i entries count contents writer writer_after all legal part = tt
said_legal_part (Err e) i entries count contents writer writer_after all legal part = λ is_write. record {
  status = 0;
  text = legal_line count;
  says = inl (record { legal = legal; status_is = refl; is = ap legal_line all });
  part = part;
}

-- .. and of one that isn't
pub said_illegal : {W : Type 0} (answer : Result ℕ CliFault) (i : Premises) (entries : List Entry) (index : ℕ) (rule : Rule) (contents : W → Option (List ℕ)) (writer writer_after : Watched W) → IsFirstIllegal i entries index rule
    → IfOk answer (λ status. status ≡ 4) → OnOk answer (Appends (contents writer.device) (contents writer_after.device) (illegal_line index rule)) → IfOk answer (λ status. WritesVerdict i entries status contents writer writer_after)
said_illegal (Ok status) i entries index rule contents writer writer_after illegal is_status appended = record {
  text = illegal_line index rule;
  says = inr (record { index = index; rule = rule; illegal = illegal; status_is = is_status; is = refl });
  appended = appended;
}
said_illegal (Err e) i entries index rule contents writer writer_after illegal is_status appended = tt

pub said_illegal_part : {W : Type 0} (answer : Result ℕ CliFault) (i : Premises) (entries : List Entry) (index : ℕ) (rule : Rule) (contents : W → Option (List ℕ)) (writer writer_after : Watched W) → IsFirstIllegal i entries index rule
    → OnErr answer (WritesPart (contents writer.device) (contents writer_after.device) (illegal_line index rule)) → IfErr answer (LeavesVerdict i entries contents writer writer_after)
said_illegal_part (Ok status) i entries index rule contents writer writer_after illegal part = tt
said_illegal_part (Err e) i entries index rule contents writer writer_after illegal part = λ is_write. record {
  status = 4;
  text = illegal_line index rule;
  says = inr (record { index = index; rule = rule; illegal = illegal; status_is = refl; is = refl });
  part = part;
}

-- why it wasn't said
pub unsaid_fault : (answer : Result ℕ CliFault) (old marked : Bool) → IfErr answer (λ e. e ≡ CliFault.Write) → marked ≡ (old || is_err answer) → IfErr answer (IsVerdictFault marked)
unsaid_fault (Ok status) old marked is mark = tt
unsaid_fault (Err e) old marked is mark = subst (λ (f : CliFault). IsVerdictFault marked f) (sym is) (mark ∙ or_true old)

-- what was refused was refused by the writer
pub unsaid_mark : (answer : Result ℕ CliFault) (old marked : Bool) → IfErr answer (λ e. e ≡ CliFault.Write) → marked ≡ (old || is_err answer) → marked ≡ (old || is_write_failure answer)
unsaid_mark (Ok status) old marked is mark = mark
unsaid_mark (Err e) old marked is mark = mark ∙ ap (λ (f : CliFault). old || is_write_fault f) (sym is)

true_or_false : true ≡ false → ⊥
true_or_false same = cc

pub unsaid_write : (answer : Result ℕ CliFault) (P : Type 0) → IfErr answer (λ e. e ≡ CliFault.Write) → IfErr answer (λ e. is_write_fault e ≡ false → P)
unsaid_write (Ok status) P is = tt
unsaid_write (Err e) P is = λ no_write. absurd (true_or_false (subst (λ (f : CliFault). is_write_fault f ≡ false) is no_write))

pub audit_answered : {R W : Type 0} (options : ParkOptions) (history : List ℕ) (status : ℕ) (remaining : R → Option (List ℕ)) (reader reader_after : Watched R) (contents : W → Option (List ℕ)) (writer writer_after : Watched W) (i : Premises) (entries : List Entry) → ReadsInputs options (remaining reader.device) (remaining reader_after.device) i
    → HasHistory history entries → WritesVerdict i entries status contents writer writer_after → AnswersAudit options history status remaining reader reader_after contents writer writer_after
audit_answered options history status remaining reader reader_after contents writer writer_after i entries reads has verdict = record {
  inputs = i;
  reads = reads;
  entries = entries;
  has = has;
  verdict = verdict;
}

pub audit_begun : {R W : Type 0} (options : ParkOptions) (history : List ℕ) (remaining : R → Option (List ℕ)) (reader reader_after : Watched R) (contents : W → Option (List ℕ)) (writer writer_after : Watched W) (i : Premises) (entries : List Entry) → ReadsInputs options (remaining reader.device) (remaining reader_after.device) i
    → HasHistory history entries → WritesVerdictPart i entries contents writer writer_after → AnswersAuditInPart options history remaining reader reader_after contents writer writer_after
audit_begun options history remaining reader reader_after contents writer writer_after i entries reads has verdict = record {
  inputs = i;
  reads = reads;
  entries = entries;
  has = has;
  verdict = verdict;
}

-- there is no park to audit for
pub audit_unopened : {R : Type 0} (options : ParkOptions) (history : List ℕ) (remaining : R → Option (List ℕ)) (reader reader_after : Watched R) (writer_marked : Bool) (e : CliFault) → IsAskFault options remaining reader reader_after false e
    → IsAuditFault options history remaining reader reader_after writer_marked e
audit_unopened options history remaining reader reader_after writer_marked e fault =
    by_park (IsAuditFault options history remaining reader reader_after writer_marked) options remaining reader reader_after e fault (λ f refused. refused) (λ f refused. refused) (λ f refused. refused)
    (λ place refused. inl refused) (λ marked. marked) tt

pub history_fault : {R : Type 0} (options : ParkOptions) (history : List ℕ) (remaining : R → Option (List ℕ)) (reader reader_after : Watched R) (writer_marked : Bool) (inputs : Premises) (e : CliFault)
    → ReadsInputs options (remaining reader.device) (remaining reader_after.device) inputs → IsHistoryFault history e → IsAuditFault options history remaining reader reader_after writer_marked e
history_fault options history remaining reader reader_after writer_marked inputs (Derivation e) reads fault = absurd fault
history_fault options history remaining reader reader_after writer_marked inputs (Drvs e) reads fault = absurd fault
history_fault options history remaining reader reader_after writer_marked inputs (Builders e) reads fault = absurd fault
history_fault options history remaining reader reader_after writer_marked inputs (Info e) reads fault = absurd fault
history_fault options history remaining reader reader_after writer_marked inputs (Script e) reads fault = absurd fault
history_fault options history remaining reader reader_after writer_marked inputs (History e) reads fault = record {
  inputs = inputs;
  reads = reads;
  refused = fault;
}
history_fault options history remaining reader reader_after writer_marked inputs (TooLarge place) reads fault = inr (record {
  inputs = inputs;
  reads = reads;
  refused = fault;
})
history_fault options history remaining reader reader_after writer_marked inputs Read reads fault = absurd fault
history_fault options history remaining reader reader_after writer_marked inputs Write reads fault = absurd fault
history_fault options history remaining reader reader_after writer_marked inputs (Stand e) reads fault = absurd fault
history_fault options history remaining reader reader_after writer_marked inputs TooManySlots reads fault = absurd fault
history_fault options history remaining reader reader_after writer_marked inputs Thread reads fault = absurd fault
history_fault options history remaining reader reader_after writer_marked inputs Receipts reads fault = absurd fault
history_fault options history remaining reader reader_after writer_marked inputs Memory reads fault = tt

pub verdict_fault : {R : Type 0} (options : ParkOptions) (history : List ℕ) (remaining : R → Option (List ℕ)) (reader reader_after : Watched R) (writer_marked : Bool) (e : CliFault) → IsVerdictFault writer_marked e
    → IsAuditFault options history remaining reader reader_after writer_marked e
verdict_fault options history remaining reader reader_after writer_marked (Derivation e) fault = absurd fault
verdict_fault options history remaining reader reader_after writer_marked (Drvs e) fault = absurd fault
verdict_fault options history remaining reader reader_after writer_marked (Builders e) fault = absurd fault
verdict_fault options history remaining reader reader_after writer_marked (Info e) fault = absurd fault
verdict_fault options history remaining reader reader_after writer_marked (Script e) fault = absurd fault
verdict_fault options history remaining reader reader_after writer_marked (History e) fault = absurd fault
verdict_fault options history remaining reader reader_after writer_marked (TooLarge place) fault = absurd fault
verdict_fault options history remaining reader reader_after writer_marked Read fault = absurd fault
verdict_fault options history remaining reader reader_after writer_marked Write fault = fault
verdict_fault options history remaining reader reader_after writer_marked (Stand e) fault = absurd fault
verdict_fault options history remaining reader reader_after writer_marked TooManySlots fault = absurd fault
verdict_fault options history remaining reader reader_after writer_marked Thread fault = absurd fault
verdict_fault options history remaining reader reader_after writer_marked Receipts fault = absurd fault
verdict_fault options history remaining reader reader_after writer_marked Memory fault = tt

false_or_true : false ≡ true → ⊥
false_or_true same = cc

-- what holds whether or not a writer is marked is no fault of the writer
pub read_no_write : {R : Type 0} (options : ParkOptions) (history : List ℕ) (remaining : R → Option (List ℕ)) (reader reader_after : Watched R) (e : CliFault)
    → ((writer_marked : Bool) → IsAuditFault options history remaining reader reader_after writer_marked e) → is_write_fault e ≡ true → ⊥
read_no_write options history remaining reader reader_after Write fault is_write = false_or_true (fault false)
read_no_write options history remaining reader reader_after (Derivation e) fault is_write = false_or_true is_write
read_no_write options history remaining reader reader_after (Drvs e) fault is_write = false_or_true is_write
read_no_write options history remaining reader reader_after (Builders e) fault is_write = false_or_true is_write
read_no_write options history remaining reader reader_after (Info e) fault is_write = false_or_true is_write
read_no_write options history remaining reader reader_after (Script e) fault is_write = false_or_true is_write
read_no_write options history remaining reader reader_after (History e) fault is_write = false_or_true is_write
read_no_write options history remaining reader reader_after (TooLarge place) fault is_write = false_or_true is_write
read_no_write options history remaining reader reader_after Read fault is_write = false_or_true is_write
read_no_write options history remaining reader reader_after (Stand e) fault is_write = false_or_true is_write
read_no_write options history remaining reader reader_after TooManySlots fault is_write = false_or_true is_write
read_no_write options history remaining reader reader_after Thread fault is_write = false_or_true is_write
read_no_write options history remaining reader reader_after Receipts fault is_write = false_or_true is_write
read_no_write options history remaining reader reader_after Memory fault is_write = false_or_true is_write

-- what holds whether or not a writer is marked, for each way to end without an answer
not_true : (b : Bool) → (b ≡ true → ⊥) → b ≡ false
not_true true not = absurd (not refl)
not_true false not = refl

pub audit_read_no_write : {R : Type 0} (options : ParkOptions) (history : List ℕ) (remaining : R → Option (List ℕ)) (reader reader_after : Watched R) (e : CliFault)
    → ((writer_marked : Bool) → IsAuditFault options history remaining reader reader_after writer_marked e) → is_write_fault e ≡ false
audit_read_no_write options history remaining reader reader_after e fault =
    not_true (is_write_fault e) (read_no_write options history remaining reader reader_after e fault)

pub sim_read_no_write : {R : Type 0} (options : ParkOptions) (script : List ℕ) (remaining : R → Option (List ℕ)) (reader reader_after : Watched R) (e : CliFault)
    → ((writer_marked : Bool) → IsSimFault options script remaining reader reader_after writer_marked e) → is_write_fault e ≡ false
sim_read_no_write options script remaining reader reader_after Write fault = absurd (false_or_true (fault false))
sim_read_no_write options script remaining reader reader_after _ fault = refl

-- a verdict that isn't out is no refusal of an input
pub verdict_ends : (marked : Bool) (e : CliFault) → IsVerdictFault marked e → exit_status e ≡ 5
verdict_ends marked Write fault = refl
verdict_ends marked Memory fault = refl
verdict_ends marked _ fault = absurd fault

-- the same inputs with this flag
abbrev premises_keeping : Premises → Bool → Premises
premises_keeping i keep_going = record { graph = i.graph; machines = i.machines; local = i.local; info = i.info; keep_going = keep_going }

-- the inputs of a dispatch are the accepted ones
pub same_inputs : (options : ParkOptions) (text : List ℕ) (i made : Premises) (graph : Nodes) (machines : List Builder) (local : Settings) (info : List (List ℕ × List (List ℕ)))
    → HasInputs options text i → made ≡ inputs_of options graph machines local info → local ≡ local_of options → AreSameParts graph i.graph machines i.machines info i.info → made ≡ i
same_inputs options text i made graph machines local info has is here same =
    is ∙ ap (λ (g : Nodes). inputs_of options g machines local info) same.graphs
    ∙ ap (λ (m : List Builder). inputs_of options i.graph m local info) same.builders
    ∙ ap (λ (l : Settings). inputs_of options i.graph i.machines l info) (here ∙ sym has.local)
    ∙ ap (λ (t : List (List ℕ × List (List ℕ))). inputs_of options i.graph i.machines i.local t) same.references
    ∙ ap (premises_keeping i) (sym has.keep_going)
