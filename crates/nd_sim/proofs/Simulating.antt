-- What the parts of a simulation make together.
use Rattle.std.proofs.Common.{◌≡◌, ℕ, ◌+◌, ◌<◌, ◌≤◌, List, [], ◌∷◌, ◌++◌, length, drop, reverse, Option, None, Some, refl, sym, ap, subst, ◌∙◌, append-nil, length-append, arith, inl, inr}
use Rattle.std.specs.Prelude.{slice_get, IsSomeAnd}
use Rattle.std.specs.List.{flat_map}
use Rattle.std.specs.Io.KnownBytes.{Appends}
use Rattle.std.proofs.KnownBytes.{Appends-nil, Appends-trans}
use Rattle.std.proofs.Math.Seq.{drop-append_seam}
use Rattle.std.proofs.lemmas.Option.{slice_get_within}
use Rattle.nd_machines.specs.Builders.{Builder}
use Rattle.nd_eligible.specs.declared.need.Need.{Need}
use Rattle.nd_eligible.specs.Eligibility.{Eligible, IsEligibleAt}
use Rattle.nd_hook.specs.declared.kinds.Reply.{Reply}
use Rattle.nd_hook.specs.declared.kinds.Reply.TheVariants.{Accept, Postpone, Decline, DeclinePermanently}
use Rattle.nd_hook.specs.ReplyText.{reply_text, IsInList}
use Rattle.nd_devices.specs.Written.{WritesPart}
use Rattle.nd_devices.proofs.Pieces.{part_after}
use Rattle.nd_history.specs.declared.entry.Entry.{Entry}
use Rattle.nd_history.specs.Premises.{Premises}
use Rattle.nd_history.specs.Choices.{HasReply}
use Rattle.nd_history.specs.Pumping.{AreAtRest, HasPumped, HasPumpedBy}
use Rattle.nd_history.specs.Standing.{drvs_in}
use Rattle.nd_ledger.specs.declared.refusal.Refusal.{Refusal}
use Rattle.nd_history_text.specs.HistoryTexts.{line_of}
use Rattle.nd_report.specs.Reports.{IsReport, Reports, ReportsPart}
use Rattle.nd_script.specs.declared.command.Command.{Command}
use Rattle.nd_sim.specs.declared.answer.Answer.{Answer}
use Rattle.nd_sim.specs.Answers.{HasAdded}
use Rattle.nd_sim.specs.Outcomes.{IsAnswer, ComesTo, HasReplied, IsReplyNow}
use Rattle.nd_history.specs.Statuses.{IsExitStatus}
use Rattle.nd_sim.specs.Runs.{refused_line, IsPumping, IsPumped, IsObeyed, IsTurn, IsRun}
use Rattle.nd_sim.specs.RunParts.{IsPumpingPart, IsTurnPart, IsSimulationPart}
use Rattle.nd_sim.specs.Written.{WritesObeyed, WritesPumping, WritesPumped, WritesPumpedPart, WritesTurn, WritesTurnPart, WritesRun, WritesSimulation, WritesSimulationPart}

-- ---- entries that are new

-- behind the old entries stand the new ones
pub new_entries : (old new added : List Entry) (n : ℕ) → n ≡ length old → new ≡ old ++ added → drop n new ≡ added
new_entries old new added n is grown = ap (λ (k : ℕ). drop k new) is ∙ ap (drop (length old)) grown ∙ drop-append_seam old added

-- .. and no fewer
pub behind : (old new added : List Entry) (n : ℕ) → n ≡ length old → new ≡ old ++ added → n ≤ length new
behind old new added n is grown =
    let sizes : length new ≡ length old + length added = ap length grown ∙ length-append old added in
    omega (arith, is, sizes)

-- a text that was written whole is written as far as its end
whole_part : (old new : Option (List ℕ)) (text : List ℕ) → Appends old new text → WritesPart old new text
whole_part old new text written = record { part = text; rest = []; whole = sym (append-nil text); written = written }

-- ---- pump steps

lines_pumped : (i : Premises) (old new : List Entry) (n : ℕ) → n ≡ length old → HasPumped i old new → IsPumping i old new (flat_map line_of (drop n new))
lines_pumped i old new n is pumped = record {
  steps = pumped.steps;
  grown = pumped.grown;
  each = pumped.each;
  lines = ap (flat_map line_of) (new_entries old new pumped.steps n is pumped.grown);
}

pub steps_past : (i : Premises) (old new : List Entry) (n : ℕ) → n ≡ length old → HasPumped i old new → n ≤ length new
steps_past i old new n is pumped = behind old new pumped.steps n is pumped.grown

pub all_steps_past : (i : Premises) (old new : List Entry) (n count : ℕ) → n ≡ length old → HasPumpedBy i old new count → n ≤ length new
all_steps_past i old new n count is pumped = steps_past i old new n is pumped.pumped

pub all_pumped : (i later : Premises) (old new : List Entry) (n count : ℕ) (before written : Option (List ℕ)) → n ≡ length old → HasPumpedBy i old new count → later ≡ i → AreAtRest later (reverse new)
    → Appends before written (flat_map line_of (drop n new)) → WritesPumped i old new before written
all_pumped i later old new n count before written is pumped same rest appended = record {
  text = flat_map line_of (drop n new);
  pumped = record { pumping = lines_pumped i old new n is pumped.pumped; rest = subst (λ (j : Premises). AreAtRest j (reverse new)) same rest };
  appended = appended;
}

-- the steps are taken, and their lines written in part
pub all_pumped_cut : (i : Premises) (old new : List Entry) (n count : ℕ) (before written : Option (List ℕ)) → n ≡ length old → HasPumpedBy i old new count
    → WritesPart before written (flat_map line_of (drop n new)) → WritesPumpedPart i old before written
all_pumped_cut i old new n count before written is pumped part = record {
  text = flat_map line_of (drop n new);
  pumping = record { new = new; pumping = lines_pumped i old new n is pumped.pumped };
  part = part;
}

-- some steps are taken, and their lines written
pub some_pumped : (i : Premises) (old new : List Entry) (n : ℕ) (before written : Option (List ℕ)) → n ≡ length old → HasPumped i old new
    → Appends before written (flat_map line_of (drop n new)) → WritesPumpedPart i old before written
some_pumped i old new n before written is pumped appended = record {
  text = flat_map line_of (drop n new);
  pumping = record { new = new; pumping = lines_pumped i old new n is pumped };
  part = whole_part before written (flat_map line_of (drop n new)) appended;
}

pub some_pumped_whole : (i : Premises) (old new : List Entry) (n : ℕ) (before written : Option (List ℕ)) → n ≡ length old → HasPumped i old new
    → Appends before written (flat_map line_of (drop n new)) → WritesPumping i old new before written
some_pumped_whole i old new n before written is pumped appended = record {
  text = flat_map line_of (drop n new);
  pumping = lines_pumped i old new n is pumped;
  appended = appended;
}

-- .. in part
pub some_pumped_cut : (i : Premises) (old new : List Entry) (n : ℕ) (before written : Option (List ℕ)) → n ≡ length old → HasPumped i old new
    → WritesPart before written (flat_map line_of (drop n new)) → WritesPumpedPart i old before written
some_pumped_cut i old new n before written is pumped part = record {
  text = flat_map line_of (drop n new);
  pumping = record { new = new; pumping = lines_pumped i old new n is pumped };
  part = part;
}

pub ruleset pumps = (steps_past, all_steps_past, all_pumped, all_pumped_cut, some_pumped, some_pumped_whole, some_pumped_cut)

-- ---- a command

obeyed_added : (i : Premises) (old new : List Entry) (command : Command) (answer : Answer) (n : ℕ) → n ≡ length old → ComesTo i old new command answer → answer ≡ Answer.Added
    → IsObeyed i old new command (flat_map line_of (drop n new))
obeyed_added i old new command answer n is comes is_added =
    let added : HasAdded i old new command = subst (λ (a : Answer). IsAnswer i old new command a) is_added comes.is in
    record {
      answer = Answer.Added;
      comes = record { is = added };
      says = record {
        entry = added.entry;
        grown = added.grown;
        is = ap (flat_map line_of) (new_entries old new (added.entry ∷ []) n is added.grown) ∙ append-nil (line_of added.entry);
      };
    }

obeyed_refused : (i : Premises) (old new : List Entry) (command : Command) (answer : Answer) (refusal : Refusal) → ComesTo i old new command answer → answer ≡ Answer.Refused refusal
    → IsObeyed i old new command (refused_line refusal)
obeyed_refused i old new command answer refusal comes is_refused = record {
  answer = Answer.Refused refusal;
  comes = record { is = subst (λ (a : Answer). IsAnswer i old new command a) is_refused comes.is };
  says = refl;
}

obeyed_replied : (i later : Premises) (old new : List Entry) (command : Command) (answer : Answer) (reply : Reply) → later ≡ i → ComesTo i old new command answer → answer ≡ Answer.Replied reply
    → IsObeyed i old new command (reply_text later.machines reply)
obeyed_replied i later old new command answer reply same comes is_reply = record {
  answer = Answer.Replied reply;
  comes = record { is = subst (λ (a : Answer). IsAnswer i old new command a) is_reply comes.is };
  says = ap (λ (j : Premises). reply_text j.machines reply) same;
}

aloud : (i : Premises) (old new : List Entry) (command : Command) (text : List ℕ) (before written : Option (List ℕ)) → IsObeyed i old new command text → Appends before written text
    → WritesObeyed i old new command before written
aloud i old new command text before written obeyed appended = record { text = text; obeyed = obeyed; appended = appended }

-- only a part of it is out
aloud_cut : (i : Premises) (old new : List Entry) (command : Command) (text : List ℕ) (before written : Option (List ℕ)) → IsObeyed i old new command text → WritesPart before written text
    → WritesTurnPart i old command before written
aloud_cut i old new command text before written obeyed part = record {
  text = text;
  turn = inr (record {
    middle = new;
    said = text;
    obeyed = obeyed;
    steps = [];
    pumping = record { new = new; pumping = record { steps = []; grown = sym (append-nil new); each = tt; lines = refl } };
    is = sym (append-nil text);
  });
  part = part;
}

-- the entry that was added stands behind the old ones
pub added_past : (i : Premises) (old new : List Entry) (command : Command) (answer : Answer) (n : ℕ) → n ≡ length old → ComesTo i old new command answer → answer ≡ Answer.Added → n ≤ length new
added_past i old new command answer n is comes is_added =
    let added : HasAdded i old new command = subst (λ (a : Answer). IsAnswer i old new command a) is_added comes.is in
    behind old new (added.entry ∷ []) n is added.grown

pub added_aloud : (i : Premises) (old new : List Entry) (command : Command) (answer : Answer) (n : ℕ) (before written : Option (List ℕ)) → n ≡ length old → ComesTo i old new command answer → answer ≡ Answer.Added
    → Appends before written (flat_map line_of (drop n new)) → WritesObeyed i old new command before written
added_aloud i old new command answer n before written is comes is_added appended =
    aloud i old new command (flat_map line_of (drop n new)) before written (obeyed_added i old new command answer n is comes is_added) appended

pub added_cut : (i : Premises) (old new : List Entry) (command : Command) (answer : Answer) (n : ℕ) (before written : Option (List ℕ)) → n ≡ length old → ComesTo i old new command answer → answer ≡ Answer.Added
    → WritesPart before written (flat_map line_of (drop n new)) → WritesTurnPart i old command before written
added_cut i old new command answer n before written is comes is_added part =
    aloud_cut i old new command (flat_map line_of (drop n new)) before written (obeyed_added i old new command answer n is comes is_added) part

pub refused_aloud : (i : Premises) (old new : List Entry) (command : Command) (answer : Answer) (refusal : Refusal) (before written : Option (List ℕ)) → ComesTo i old new command answer → answer ≡ Answer.Refused refusal
    → Appends before written (refused_line refusal) → WritesObeyed i old new command before written
refused_aloud i old new command answer refusal before written comes is_refused appended =
    aloud i old new command (refused_line refusal) before written (obeyed_refused i old new command answer refusal comes is_refused) appended

pub refused_cut : (i : Premises) (old new : List Entry) (command : Command) (answer : Answer) (refusal : Refusal) (before written : Option (List ℕ)) → ComesTo i old new command answer → answer ≡ Answer.Refused refusal
    → WritesPart before written (refused_line refusal) → WritesTurnPart i old command before written
refused_cut i old new command answer refusal before written comes is_refused part =
    aloud_cut i old new command (refused_line refusal) before written (obeyed_refused i old new command answer refusal comes is_refused) part

pub replied_aloud : (i later : Premises) (old new : List Entry) (command : Command) (answer : Answer) (reply : Reply) (before written : Option (List ℕ)) → later ≡ i → ComesTo i old new command answer
    → answer ≡ Answer.Replied reply → Appends before written (reply_text later.machines reply) → WritesObeyed i old new command before written
replied_aloud i later old new command answer reply before written same comes is_reply appended =
    aloud i old new command (reply_text later.machines reply) before written (obeyed_replied i later old new command answer reply same comes is_reply) appended

pub replied_cut : (i later : Premises) (old new : List Entry) (command : Command) (answer : Answer) (reply : Reply) (before written : Option (List ℕ)) → later ≡ i → ComesTo i old new command answer
    → answer ≡ Answer.Replied reply → WritesPart before written (reply_text later.machines reply) → WritesTurnPart i old command before written
replied_cut i later old new command answer reply before written same comes is_reply part =
    aloud_cut i old new command (reply_text later.machines reply) before written (obeyed_replied i later old new command answer reply same comes is_reply) part

-- the reply still holds: nothing changed
pub replied_now : (i later : Premises) (old new : List Entry) (command : Command) (answer : Answer) (reply : Reply) → later ≡ i → ComesTo i old new command answer → answer ≡ Answer.Replied reply
    → IsReplyNow later (reverse new) reply
replied_now i later old new command answer reply same comes is_reply =
    let replied : HasReplied i old new command reply = subst (λ (a : Answer). IsAnswer i old new command a) is_reply comes.is in
    record {
      drv = replied.drv;
      replies = subst (λ (j : Premises). HasReply j (reverse new) replied.drv reply) (sym same)
          (subst (λ (entries : List Entry). HasReply i (reverse entries) replied.drv reply) (sym replied.kept) replied.replies);
    }

-- nothing is out yet
pub nothing_yet : (i : Premises) (old : List Entry) (command : Command) (before : Option (List ℕ)) → WritesTurnPart i old command before before
nothing_yet i old command before = record { text = []; turn = inl refl; part = whole_part before before [] (Appends-nil before) }

pub ruleset acts = (added_past, added_aloud, added_cut, refused_aloud, refused_cut, replied_aloud, replied_cut, replied_now, nothing_yet)

-- what holds of a machine that is found follows from any fact about one
found : (P : Builder → Type 0) (Q : Type 0) (o : Option Builder) → ((machine : Builder) → o ≡ Some machine → Q) → IsSomeAnd o P → Q
found P Q None then any = absurd any
found P Q (Some machine) then any = then machine refl

-- a place with an eligible machine is in the list
eligible_in_list : (machines : List Builder) (need : Need) (place : ℕ) → IsEligibleAt machines need place → place < length machines
eligible_in_list machines need place eligible =
    found (λ machine. Eligible machine need) (place < length machines) (slice_get machines place) (λ machine is. slice_get_within machines place machine is) eligible

accepted_in_list : (i : Premises) (past : List Entry) (d : ℕ) (reply : Reply) → HasReply i past d reply → IsInList i.machines reply
accepted_in_list i past d (Accept place) has = eligible_in_list i.machines has.need place has.replied.candidate.meant
accepted_in_list i past d Postpone has = tt
accepted_in_list i past d Decline has = tt
accepted_in_list i past d DeclinePermanently has = tt

-- a machine that a reply accepts is in the list
pub reply_in_list : (i : Premises) (past : List Entry) (machines : List Builder) (reply : Reply) → machines ≡ i.machines → IsReplyNow i past reply → IsInList machines reply
reply_in_list i past machines reply same now = subst (λ (list : List Builder). IsInList list reply) (sym same) (accepted_in_list i past now.drv reply now.replies)

-- ---- a turn

pub turned : (i later : Premises) (old middle new : List Entry) (command : Command) (before between written : Option (List ℕ)) → WritesObeyed i old middle command before between → later ≡ i
    → WritesPumped later middle new between written → WritesTurn i old new command before written
turned i later old middle new command before between written obeyed same pumped = record {
  text = obeyed.text ++ pumped.text;
  turn = record {
    middle = middle;
    said = obeyed.text;
    obeyed = obeyed.obeyed;
    steps = pumped.text;
    pumped = subst (λ (j : Premises). IsPumped j middle new pumped.text) same pumped.pumped;
    is = refl;
  };
  appended = Appends-trans before between written obeyed.text pumped.text obeyed.appended pumped.appended;
}

pub turn_cut : (i later : Premises) (old middle : List Entry) (command : Command) (before between written : Option (List ℕ)) → WritesObeyed i old middle command before between → later ≡ i
    → WritesPumpedPart later middle between written → WritesTurnPart i old command before written
turn_cut i later old middle command before between written obeyed same pumped = record {
  text = obeyed.text ++ pumped.text;
  turn = inr (record {
    middle = middle;
    said = obeyed.text;
    obeyed = obeyed.obeyed;
    steps = pumped.text;
    pumping = subst (λ (j : Premises). IsPumpingPart j middle pumped.text) same pumped.pumping;
    is = refl;
  });
  part = part_after before between written obeyed.text pumped.text obeyed.appended pumped.part;
}

pub ruleset turns = (turned, turn_cut)

-- ---- a run

pub begun : (i : Premises) (old new : List Entry) (before written : Option (List ℕ)) → old ≡ [] → WritesPumped i old new before written → WritesRun i [] new before written
begun i old new before written none pumped = record {
  text = pumped.text;
  run = IsRun.begun new pumped.text (subst (λ (entries : List Entry). IsPumped i entries new pumped.text) none pumped.pumped);
  appended = pumped.appended;
}

pub begun_cut : (i : Premises) (old : List Entry) (commands : List Command) (before written : Option (List ℕ)) → old ≡ [] → WritesPumpedPart i old before written
    → WritesSimulationPart i commands before written
begun_cut i old commands before written none pumped = record {
  text = pumped.text;
  begun = IsSimulationPart.pumping (subst (λ (entries : List Entry). IsPumpingPart i entries pumped.text) none pumped.pumping);
  part = pumped.part;
}

pub goes_on : (i later : Premises) (done : List Command) (command : Command) (old new : List Entry) (before between written : Option (List ℕ)) → WritesRun i done old before between → later ≡ i
    → WritesTurn later old new command between written → WritesRun i (done ++ command ∷ []) new before written
goes_on i later done command old new before between written run same turn = record {
  text = run.text ++ turn.text;
  run = IsRun.turn done old new command run.text turn.text run.run (subst (λ (j : Premises). IsTurn j old new command turn.text) same turn.turn);
  appended = Appends-trans before between written run.text turn.text run.appended turn.appended;
}

pub stops : (i later : Premises) (commands done : List Command) (command : Command) (others : List Command) (old : List Entry) (before between written : Option (List ℕ))
    → commands ≡ done ++ command ∷ others → WritesRun i done old before between → later ≡ i → WritesTurnPart later old command between written
    → WritesSimulationPart i commands before written
stops i later commands done command others old before between written split run same turn = record {
  text = run.text ++ turn.text;
  begun = IsSimulationPart.running (record {
    done = done;
    command = command;
    others = others;
    split = split;
    history = old;
    lines = run.text;
    run = run.run;
    last = turn.text;
    part = subst (λ (j : Premises). IsTurnPart j old command turn.text) same turn.turn;
    is = refl;
  });
  part = part_after before between written run.text turn.text run.appended turn.part;
}

-- no command is left
pub all_run : (i : Premises) (commands done rest : List Command) (history : List Entry) (before written : Option (List ℕ)) → commands ≡ done ++ rest → rest ≡ [] → WritesRun i done history before written
    → WritesRun i commands history before written
all_run i commands done rest history before written whole none run =
    let same : done ≡ commands = sym (whole ∙ ap (λ (list : List Command). done ++ list) none ∙ append-nil done) in
    subst (λ (list : List Command). WritesRun i list history before written) same run

pub ruleset runs = (begun, begun_cut, goes_on, stops, all_run)

-- ---- the report

pub ends : (i later : Premises) (commands : List Command) (history : List Entry) (status : ℕ) (before between written : Option (List ℕ)) → WritesRun i commands history before between → later ≡ i
    → Reports later (reverse history) between written → IsExitStatus later (reverse history) status → WritesSimulation i commands status before written
ends i later commands history status before between written run same reports exits = record {
  text = run.text ++ reports.text;
  simulated = record {
    history = history;
    lines = run.text;
    run = run.run;
    report = reports.text;
    reported = subst (λ (j : Premises). IsReport j (reverse history) (drvs_in j) reports.text) same reports.is;
    is = refl;
    status_is = subst (λ (j : Premises). IsExitStatus j (reverse history) status) same exits;
  };
  appended = Appends-trans before between written run.text reports.text run.appended reports.written;
}

pub ends_cut : (i later : Premises) (commands : List Command) (history : List Entry) (before between written : Option (List ℕ)) → WritesRun i commands history before between → later ≡ i
    → ReportsPart later (reverse history) between written → WritesSimulationPart i commands before written
ends_cut i later commands history before between written run same reports = record {
  text = run.text ++ reports.text;
  begun = IsSimulationPart.reporting (record {
    history = history;
    lines = run.text;
    run = run.run;
    n = reports.n;
    some = subst (λ (j : Premises). reports.n ≤ drvs_in j) same reports.some;
    report = reports.text;
    reported = subst (λ (j : Premises). IsReport j (reverse history) reports.n reports.text) same reports.is;
    is = refl;
  });
  part = part_after before between written run.text reports.text run.appended reports.written;
}

pub ruleset wholes = (ends, ends_cut)
