-- What was answered survives a crash.
use Rattle.std.proofs.Common.{◌≡◌, ◌∙◌, ℕ, Bool, true, false, List, [], ◌++◌, refl, sym, ap, subst, append-nil, inl, inr}
use Rattle.std.specs.List.{All, flat_map}
use Rattle.std.proofs.lemmas.List.Elements.{All-append}
use Rattle.nd_desk.specs.declared.event.Event.{Event}
use Rattle.nd_history.specs.declared.entry.Entry.{Entry}
use Rattle.nd_history.specs.Premises.{Premises}
use Rattle.nd_history_text.specs.HistoryTexts.{line_of, first_line, history_text}
use Rattle.nd_history_text.specs.Sound.{IsSound}
use Rattle.nd_history_text.specs.declared.kinds.Version.TheVariants.{Second}
use Rattle.nd_journal.specs.WholeLines.{IsBeginning}
use Rattle.nd_serve.specs.Sessions.{first_of}
use Rattle.nd_serve_command.specs.Crashes.{handed_bytes, IsLeft, HoldsAtFirst, IsBegunWith, KeepsAnswers}
use Rattle.nd_serve_command.specs.CrashLaws.{SessionsSurvive, PartsSurvive}
use Rattle.nd_serve_command.proofs.Handed.{IsHandedOver, session_kept, session_durable, session_over, part_over, begins_on, moment_handed}
use Rattle.nd_serve_command.proofs.Crashed.{IsCutFrom, HoldsFrom, new_left, durable_left}
use Rattle.nd_serve_command.proofs.Reached.{IsReached, Reaches, whole_reached, part_reached}

-- what a journal holds at first and what it lacks then are the text of the history
text_begun : (fresh : Bool) (base : List ℕ) (start : List Entry) → HoldsAtFirst fresh base start → base ++ first_of fresh ≡ history_text Second start
text_begun true base start holds =
    ap (λ (l : List ℕ). l ++ first_line Second) holds.0 ∙ sym (append-nil (first_line Second)) ∙ ap (λ (l : List Entry). history_text Second l) (sym holds.1)
text_begun false base start holds = append-nil base ∙ holds

-- nothing was answered yet
start_left : (i : Premises) (fresh : Bool) (start added : List Entry) (base file : List ℕ) → HoldsAtFirst fresh base start → All IsSound start
    → IsCutFrom i start added base (first_of fresh) file → HoldsFrom i (start ++ added) (base ++ file) start
start_left i true start added base file holds sound from = new_left i start added base (first_of true) file holds.1 from
start_left i false start added base file holds sound from =
    let all : start ++ [] ≡ start = append-nil start in
    subst (HoldsFrom i (start ++ added) (base ++ file)) all
    (durable_left i start added [] base [] file from (subst (All IsSound) (sym all) sound) (record { rest = file; is = refl }))

cut_from : (i : Premises) (fresh : Bool) (start : List Entry) (base : List ℕ) (events moment later : List Event) (file : List ℕ) → IsBegunWith i fresh base start
    → (over : IsHandedOver i start (first_of fresh) events) → events ≡ moment ++ later → IsLeft moment file → IsCutFrom i start over.added base (first_of fresh) file
cut_from i fresh start base events moment later file begun over same left =
    let whole = first_of fresh ++ flat_map line_of over.added in
    record {
      begun = text_begun fresh base start begun.holds;
      sound = All-append IsSound start over.added begun.sound over.sound;
      legal = over.legal;
      cut = begins_on file (handed_bytes moment) whole left.beginning (moment_handed events moment later whole same over.handed);
    }

-- the last answer is kept
answer_kept : (i : Premises) (fresh : Bool) (start added : List Entry) (base : List ℕ) (moment : List Event) (file : List ℕ) → IsBegunWith i fresh base start
    → IsCutFrom i start added base (first_of fresh) file → IsLeft moment file → IsReached i start (first_of fresh) moment → KeepsAnswers i start (first_of fresh) moment (base ++ file)
answer_kept i fresh start added base moment file begun from left there =
    let first = first_of fresh in
    let at = there.answers in
    let kept = session_kept i start first at.opening at.turns there.history at.front at.session in
    let here : IsLeft (at.front ++ at.later) file = subst (λ (l : List Event). IsLeft l file) at.parts left in
    let durable : IsBeginning (first ++ flat_map line_of kept.added) file =
    subst (λ (l : List ℕ). IsBeginning l file) kept.bytes (session_durable i start first at.opening at.turns there.history at.front at.later file at.session here) in
    let held : HoldsFrom i (start ++ added) (base ++ file) there.history =
    subst (HoldsFrom i (start ++ added) (base ++ file)) (sym kept.grown)
    (durable_left i start added kept.added base first file from (All-append IsSound start kept.added begun.sound kept.sound) durable) in
    record { history = there.history; answers = inr at; entries = held.entries; resumable = held.resumable; begins = held.begins }

survived : (i : Premises) (fresh : Bool) (start : List Entry) (base : List ℕ) (events moment later : List Event) (file : List ℕ) → IsBegunWith i fresh base start
    → IsHandedOver i start (first_of fresh) events → Reaches i start (first_of fresh) moment → events ≡ moment ++ later → IsLeft moment file
    → KeepsAnswers i start (first_of fresh) moment (base ++ file)
survived i fresh start base events moment later file begun over reaches same left =
    let from = cut_from i fresh start base events moment later file begun over same left in
    elim reaches [
      | inl silent ↦
          let held = start_left i fresh start over.added base file begun.holds begun.sound from in
          record {
            history = start;
            answers = inl (record { silent = silent; same = refl });
            entries = held.entries;
            resumable = held.resumable;
            begins = held.begins;
          }
      | inr there ↦ answer_kept i fresh start over.added base moment file begun from left there
    ]

pub sessions_survive : SessionsSurvive
sessions_survive i start fresh base opening turns history events last begun session whole =
    let over = session_over i start (first_of fresh) opening turns history events last begun.legal session whole in
    record {
      keeps = λ moment later file same left.
          survived i fresh start base (events ++ last) moment later file begun over
          (whole_reached i start (first_of fresh) opening turns history events last moment later session whole same) same left;
    }

pub parts_survive : PartsSurvive
parts_survive i start fresh base fault events begun part =
    let over = part_over i start (first_of fresh) fault events begun.legal part in
    record {
      keeps = λ moment later file same left.
          survived i fresh start base events moment later file begun over (part_reached i start (first_of fresh) fault events moment later part same) same left;
    }
