-- A script has one text and one status.
use Rattle.std.proofs.Common.{◌≡◌, ℕ, ◌+◌, ◌<◌, List, [], ◌∷◌, ◌++◌, length, reverse, get_or, refl, sym, ap, ◌∙◌, subst, arith, length-append}
use Rattle.std.specs.Prelude.{if◌then◌else◌, nat_lt}
use Rattle.std.proofs.lemmas.List.{reverse-append, reverse-reverse, ext_get_or}
use Rattle.nd_failure.specs.declared.status.Counts.{Counts}
use Rattle.nd_failure.specs.declared.status.Status.{Status}
use Rattle.nd_failure.specs.declared.status.Status.TheVariants.{Waiting}
use Rattle.nd_failure.specs.Statuses.{IsTally}
use Rattle.nd_history.specs.declared.entry.Entry.{Entry}
use Rattle.nd_history.specs.Premises.{Premises}
use Rattle.nd_history.specs.Legal.{IsLegal}
use Rattle.nd_history.specs.Standing.{drvs_in}
use Rattle.nd_history.specs.Statuses.{AreCountsIn, IsExitStatus}
use Rattle.nd_history.proofs.Tallies.{status_once}
use Rattle.nd_report.specs.Reports.{AreFirstStatuses, IsReport, counts_text, machines_text, drvs_text}
use Rattle.nd_script.specs.declared.command.Command.{Command}
use Rattle.nd_sim.specs.Runs.{IsPumped, IsTurn, IsRun}
use Rattle.nd_sim.specs.OneText.{OneRun, RunsAreLegal, OneSimulation}
use Rattle.nd_sim.proofs.OneStep.{pumped_once, pumping_legal}
use Rattle.nd_sim.proofs.OneAnswer.{one_outcome, obeyed_legal}

-- ---- a turn

turn_once : (i : Premises) (old new other : List Entry) (command : Command) (text said : List ℕ) → IsTurn i old new command text → IsTurn i old other command said → (new ≡ other) × (text ≡ said)
turn_once i old new other command text said one also =
    let first = one_outcome i old one.middle also.middle command one.said also.said one.obeyed also.obeyed in
    let pumped = subst (λ (h : List Entry). IsPumped i h new one.steps) first.0 one.pumped in
    let later = pumped_once i also.middle new other one.steps also.steps pumped also.pumped in
    let same : one.said ++ one.steps ≡ also.said ++ also.steps = λ j. first.1 j ++ later.1 j in
    (later.0, one.is ∙ same ∙ sym also.is)

pub turn_legal : (i : Premises) (old new : List Entry) (command : Command) (text : List ℕ) → IsTurn i old new command text → IsLegal i (reverse old) → IsLegal i (reverse new)
turn_legal i old new command text turn legal =
    pumping_legal i turn.middle new turn.steps turn.pumped.pumping (obeyed_legal i old turn.middle command turn.said turn.obeyed legal)

-- ---- a run, with its commands apart from its last one

record IsTurned (i : Premises) (first : List Command) (command : Command) (new : List Entry) (text : List ℕ) : Type 0 where
  old : List Entry
  before : List ℕ
  more : List ℕ
  run : IsRun i first old before
  turn : IsTurn i old new command more
  is : text ≡ before ++ more

none_last : (first : List Command) (command : Command) → first ++ command ∷ [] ≡ [] → ⊥
none_last first command h = let sized : length first + 1 ≡ 0 = sym (length-append first (command ∷ [])) ∙ ap length h in omega arith

heads : (c d : Command) (first others : List Command) → c ∷ first ≡ d ∷ others → (c ≡ d) × (first ≡ others)
heads c d first others h = (cc, cc)

lasts : (first others : List Command) (c d : Command) → first ++ c ∷ [] ≡ others ++ d ∷ [] → (c ≡ d) × (first ≡ others)
lasts first others c d h =
    let turned : c ∷ reverse first ≡ d ∷ reverse others = sym (reverse-append first (c ∷ [])) ∙ ap reverse h ∙ reverse-append others (d ∷ []) in
    let parts = heads c d (reverse first) (reverse others) turned in
    (parts.0, sym (reverse-reverse first) ∙ ap reverse parts.1 ∙ reverse-reverse others)

begun_with : (i : Premises) (commands : List Command) (history : List Entry) (text : List ℕ) → IsRun i commands history text → commands ≡ [] → IsPumped i [] history text
begun_with i commands history text (IsRun.begun h t pumped) none = pumped
begun_with i commands history text (IsRun.turn first old new command t more run turn) none = absurd (none_last first command none)

turned_with : (i : Premises) (commands : List Command) (history : List Entry) (text : List ℕ) → IsRun i commands history text → (first : List Command) (command : Command)
    → commands ≡ first ++ command ∷ [] → IsTurned i first command history text
turned_with i commands history text (IsRun.begun h t pumped) first command is = absurd (none_last first command (sym is))
turned_with i commands history text (IsRun.turn others old new last t more run turn) first command is =
    let parts = lasts others first last command is in
    record {
      old = old;
      before = t;
      more = more;
      run = subst (λ (cs : List Command). IsRun i cs old t) parts.1 run;
      turn = subst (λ (c : Command). IsTurn i old new c more) parts.0 turn;
      is = refl;
    }

run_once : (i : Premises) (commands : List Command) (history : List Entry) (text : List ℕ) → IsRun i commands history text → (other : List Entry) (said : List ℕ) → IsRun i commands other said
    → (history ≡ other) × (text ≡ said)
run_once i commands history text (IsRun.begun h t pumped) other said also = pumped_once i [] h other t said pumped (begun_with i [] other said also refl)
run_once i commands history text (IsRun.turn first old new command t more run turn) other said also =
    let parts = turned_with i (first ++ command ∷ []) other said also first command refl in
    let before = run_once i first old t run parts.old parts.before parts.run in
    let last = subst (λ (h : List Entry). IsTurn i h new command more) before.0 turn in
    let later = turn_once i parts.old new other command more parts.more last parts.turn in
    let same : t ++ more ≡ parts.before ++ parts.more = λ j. before.1 j ++ later.1 j in
    (later.0, same ∙ sym parts.is)

pub one_run : OneRun
one_run i commands new other text said one also = run_once i commands new text one other said also

pub runs_are_legal : RunsAreLegal
runs_are_legal i commands history text (IsRun.begun h t pumped) = pumping_legal i [] h t pumped.pumping tt
runs_are_legal i commands history text (IsRun.turn first old new command t more run turn) = turn_legal i old new command more turn (runs_are_legal i first old t run)

-- ---- the report and the status

statuses_once : (i : Premises) (past : List Entry) (n : ℕ) (statuses others : List Status) → IsLegal i past → AreFirstStatuses i past n statuses → AreFirstStatuses i past n others → statuses ≡ others
statuses_once i past n statuses others legal one also =
    ext_get_or Waiting statuses others (one.size ∙ sym also.size)
    (λ d lt.
    let sized = one.size in
    let within : d < n = omega arith in
    status_once i past legal d (get_or statuses d Waiting) (get_or others d Waiting) (one.right d within) (also.right d within))

counts_same : (statuses : List Status) (counts others : Counts) → IsTally statuses counts → IsTally statuses others → counts ≡ others
counts_same statuses counts others one also =
    let waiting = one.waiting ∙ sym also.waiting in
    let leased = one.leased ∙ sym also.leased in
    let built = one.built ∙ sym also.built in
    let failed = one.failed ∙ sym also.failed in
    let cancelled = one.cancelled ∙ sym also.cancelled in
    λ j. record { waiting = waiting j; leased = leased j; built = built j; failed = failed j; cancelled = cancelled j }

counts_once : (i : Premises) (past : List Entry) (counts others : Counts) → IsLegal i past → AreCountsIn i past counts → AreCountsIn i past others → counts ≡ others
counts_once i past counts others legal one also =
    let same = statuses_once i past (drvs_in i) one.statuses also.statuses legal
    (record { size = one.of_drvs.one_each; right = one.of_drvs.right }) (record { size = also.of_drvs.one_each; right = also.of_drvs.right }) in
    counts_same also.statuses counts others (subst (λ (list : List Status). IsTally list counts) same one.tally) also.tally

report_once : (i : Premises) (past : List Entry) (n : ℕ) (text said : List ℕ) → IsLegal i past → IsReport i past n text → IsReport i past n said → text ≡ said
report_once i past n text said legal one also =
    let counts = counts_once i past one.counts also.counts legal one.counted also.counted in
    let statuses = statuses_once i past n one.statuses also.statuses legal one.are also.are in
    one.whole
    ∙ ap (λ (c : Counts). (counts_text (drvs_in i) c ++ machines_text i past) ++ drvs_text i 0 one.statuses) counts
    ∙ ap (λ (list : List Status). (counts_text (drvs_in i) also.counts ++ machines_text i past) ++ drvs_text i 0 list) statuses
    ∙ sym also.whole

exit_once : (i : Premises) (past : List Entry) (status other : ℕ) → IsLegal i past → IsExitStatus i past status → IsExitStatus i past other → status ≡ other
exit_once i past status other legal one also =
    let counts = counts_once i past one.counts also.counts legal one.counted also.counted in
    one.is ∙ ap (λ (c : Counts). if nat_lt 0 (c.failed + c.cancelled) then 1 else 0) counts ∙ sym also.is

-- ---- all together

pub one_simulation : OneSimulation
one_simulation i commands status other text said one also =
    let runs = run_once i commands one.history one.lines one.run also.history also.lines also.run in
    let legal = runs_are_legal i commands also.history also.lines also.run in
    let past = ap reverse runs.0 in
    let reported = subst (λ (h : List Entry). IsReport i h (drvs_in i) one.report) past one.reported in
    let report = report_once i (reverse also.history) (drvs_in i) one.report also.report legal reported also.reported in
    let exits = subst (λ (h : List Entry). IsExitStatus i h status) past one.status_is in
    let same : one.lines ++ one.report ≡ also.lines ++ also.report = λ j. runs.1 j ++ report j in
    (exit_once i (reverse also.history) status other legal exits also.status_is, one.is ∙ same ∙ sym also.is)
