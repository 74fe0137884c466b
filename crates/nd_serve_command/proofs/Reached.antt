-- How far the answers of a session have come at a moment.
use Rattle.std.proofs.Common.{◌≡◌, ◌∙◌, ◌⊎◌, ℕ, true, false, List, [], ◌∷◌, ◌++◌, refl, sym, ap, append-nil, inl, inr}
use Rattle.std.proofs.lemmas.Grind.{flat_map-append}
use Rattle.nd_desk.specs.declared.event.Event.{Event}
use Rattle.nd_desk.specs.declared.event.Event.TheVariants.{Heard, Answered}
use Rattle.nd_desk.specs.declared.fault.SessionFault.{SessionFault}
use Rattle.nd_desk.specs.declared.fault.SessionFault.TheVariants.{Read, Journal, Write, Memory}
use Rattle.nd_desk.specs.Handing.{kept, IsHandedPart}
use Rattle.nd_desk.specs.Notes.{answered, answered_by}
use Rattle.nd_history.specs.declared.entry.Entry.{Entry}
use Rattle.nd_history.specs.Premises.{Premises}
use Rattle.nd_history_text.proofs.Once.{same_head, same_tail}
use Rattle.nd_serve.specs.Turns.{Turn, kept_text, answer_text, ready_line}
use Rattle.nd_serve.specs.Sessions.{Opening, IsSession, IsOpeningPart, IsTurnPart, IsCut, IsSessionPart, IsWhole, first_text, turn_events}
use Rattle.nd_serve.proofs.SessionRuns.{kept_silent}
use Rattle.nd_serve_command.specs.Crashes.{IsAnsweredTo}

-- ---- two divisions of one list

record IsWithin (one moment : List Event) : Type 0 where
  rest : List Event
  is : one ≡ moment ++ rest

record IsBeyond (one other moment later : List Event) : Type 0 where
  more : List Event
  is : moment ≡ one ++ more
  left : other ≡ more ++ later

divided : (one other moment later : List Event) → one ++ other ≡ moment ++ later → IsWithin one moment ⊎ IsBeyond one other moment later
divided [] other moment later same = inr (record { more = moment; is = refl; left = same })
divided (e ∷ one) other [] later same = inl (record { rest = e ∷ one; is = refl })
divided (e ∷ one) other (m ∷ moment) later same =
    let here : e ≡ m = same_head same in
    elim (divided one other moment later (same_tail same)) [
      | inl within ↦ inl (record { rest = within.rest; is = (λ j. here j ∷ within.is j) })
      | inr beyond ↦ inr (record { more = beyond.more; is = (λ j. sym here j ∷ beyond.is j); left = beyond.left })
    ]

-- ---- silence

empty_front : (front rest : List ℕ) → front ++ rest ≡ [] → front ≡ []
empty_front [] rest none = refl
empty_front (b ∷ front) rest none = cc

silent_front : (moment later : List Event) → answered (moment ++ later) ≡ [] → answered moment ≡ []
silent_front moment later silent = empty_front (answered moment) (answered later) (sym (flat_map-append answered_by moment later) ∙ silent)

-- of events before one answer the moment has no answer, or it is all of them
no_more : (more later : List Event) → [] ≡ more ++ later → more ≡ []
no_more [] later none = refl
no_more (e ∷ more) later none = cc

up_to_answer : (quiet : List Event) (answer : List ℕ) (moment more later : List Event) → answered quiet ≡ [] → moment ≡ quiet ++ more → Answered answer true ∷ [] ≡ more ++ later
    → (answered moment ≡ []) ⊎ (moment ≡ quiet ++ Answered answer true ∷ [])
up_to_answer quiet answer moment [] later silent is left = inl (ap answered (is ∙ append-nil quiet) ∙ silent)
up_to_answer quiet answer moment (e ∷ more) later silent is left =
    let here : Answered answer true ≡ e = same_head left in
    let none : more ≡ [] = no_more more later (same_tail left) in
    inr (is ∙ (λ j. quiet ++ sym here j ∷ none j))

before_answer : (quiet : List Event) (answer : List ℕ) (moment later : List Event) → answered quiet ≡ [] → quiet ++ Answered answer true ∷ [] ≡ moment ++ later
    → (answered moment ≡ []) ⊎ (moment ≡ quiet ++ Answered answer true ∷ [])
before_answer quiet answer moment later silent same = elim (divided quiet (Answered answer true ∷ []) moment later same) [
  | inl within ↦ inl (silent_front moment within.rest (ap answered (sym within.is) ∙ silent))
  | inr beyond ↦ up_to_answer quiet answer moment beyond.more later silent beyond.is beyond.left
]

-- ---- moments of a session

-- the last answer so far is that of a turn of the session
pub record IsReached (i : Premises) (start : List Entry) (first : List ℕ) (moment : List Event) : Type 0 where
  pub history : List Entry
  pub answers : IsAnsweredTo i start first moment history

abbrev pub Reaches : Premises → List Entry → List ℕ → List Event → Type 0
Reaches i start first moment = (answered moment ≡ []) ⊎ IsReached i start first moment

session_reached : (i : Premises) (start : List Entry) (first : List ℕ) (opening : Opening) (turns : List Turn) (history : List Entry) (events moment later : List Event)
    → IsSession i start first opening turns history events → events ≡ moment ++ later → Reaches i start first moment
session_reached i start first opening turns history events moment later (IsSession.opened new opens) same =
    let lines = first_text first opening in
    let answer = opening.text ++ ready_line in
    elim (before_answer (kept lines) answer moment later (kept_silent lines) same) [
      | inl silent ↦ inl silent
      | inr whole ↦ inr (record {
        history = new;
        answers = record {
          opening = opening;
          turns = [];
          front = kept lines ++ Answered answer true ∷ [];
          session = IsSession.opened new opens;
          later = [];
          parts = whole ∙ sym (append-nil (kept lines ++ Answered answer true ∷ []));
          silent = refl;
        };
      })
    ]
session_reached i start first opening turns history events moment later (IsSession.turned done old new turn before session taken) same =
    elim (divided before (turn_events turn) moment later same) [
      | inl within ↦ session_reached i start first opening done old before moment within.rest session within.is
      | inr beyond ↦ elim (before_answer (Heard turn.line ∷ kept (kept_text turn)) (answer_text turn) beyond.more later (kept_silent (kept_text turn)) beyond.left) [
        | inl silent ↦ inr (record {
          history = old;
          answers = record {
            opening = opening;
            turns = done;
            front = before;
            session = session;
            later = beyond.more;
            parts = beyond.is;
            silent = silent;
          };
        })
        | inr whole ↦ inr (record {
          history = new;
          answers = record {
            opening = opening;
            turns = done ++ turn ∷ [];
            front = before ++ turn_events turn;
            session = IsSession.turned done old new turn before session taken;
            later = [];
            parts = beyond.is ∙ ap (λ (l : List Event). before ++ l) whole ∙ sym (append-nil (before ++ turn_events turn));
            silent = refl;
          };
        })
      ]
    ]

-- .. and of what was done behind its last turn
reached_behind : (i : Premises) (start : List Entry) (first : List ℕ) (opening : Opening) (turns : List Turn) (history : List Entry) (events last moment later : List Event)
    → IsSession i start first opening turns history events → answered last ≡ [] → events ++ last ≡ moment ++ later → Reaches i start first moment
reached_behind i start first opening turns history events last moment later session silent same = elim (divided events last moment later same) [
  | inl within ↦ session_reached i start first opening turns history events moment within.rest session within.is
  | inr beyond ↦ inr (record {
    history = history;
    answers = record {
      opening = opening;
      turns = turns;
      front = events;
      session = session;
      later = beyond.more;
      parts = beyond.is;
      silent = silent_front beyond.more later (ap answered (sym beyond.left) ∙ silent);
    };
  })
]

whole_silent : (turns : List Turn) (last : List Event) → IsWhole turns last → answered last ≡ []
whole_silent turns last whole = elim whole.end [
  | inl ended ↦ ap answered ended
  | inr full ↦ ap answered full.0
]

pub whole_reached : (i : Premises) (start : List Entry) (first : List ℕ) (opening : Opening) (turns : List Turn) (history : List Entry) (events last moment later : List Event)
    → IsSession i start first opening turns history events → IsWhole turns last → events ++ last ≡ moment ++ later → Reaches i start first moment
whole_reached i start first opening turns history events last moment later session whole same =
    reached_behind i start first opening turns history events last moment later session (whole_silent turns last whole) same

-- ---- sessions that end early

-- no answer is out of a turn that is handed over in part
part_silent : (lines answer : List ℕ) (fault : SessionFault) (events : List Event) → IsHandedPart lines answer fault events → answered events ≡ []
part_silent lines answer Read events part = absurd part
part_silent lines answer Journal events part = elim part.1 [
  | inl refused ↦ ap answered refused
  | inr unsynced ↦ ap answered unsynced
]
part_silent lines answer Write events part =
    ap answered part ∙ flat_map-append answered_by (kept lines) (Answered answer false ∷ []) ∙ append-nil (answered (kept lines)) ∙ kept_silent lines
part_silent lines answer Memory events part = elim part [
  | inl early ↦ elim early.1 [
    | inl none ↦ ap answered none
    | inr unsynced ↦ ap answered unsynced
  ]
  | inr late ↦ ap answered late ∙ kept_silent lines
]

opening_silent : (i : Premises) (start : List Entry) (first : List ℕ) (fault : SessionFault) (events : List Event) → IsOpeningPart i start first fault events → answered events ≡ []
opening_silent i start first fault events part = elim part [
  | inl unbegun ↦ ap answered unbegun.1
  | inr begun ↦ part_silent (first_text first begun.opening) (begun.opening.text ++ ready_line) fault events begun.part
]

turn_silent : (i : Premises) (history : List Entry) (line : List ℕ) (fault : SessionFault) (events : List Event) → IsTurnPart i history line fault events → answered events ≡ []
turn_silent i history line fault events part = elim part [
  | inl unbegun ↦ ap answered unbegun.1
  | inr begun ↦ part_silent (kept_text begun.turn) (answer_text begun.turn) fault events begun.part
]

cut_silent : (i : Premises) (history : List Entry) (fault : SessionFault) (events : List Event) → IsCut i history fault events → answered events ≡ []
cut_silent i history fault events (IsCut.unread unheard) = ap answered unheard.1
cut_silent i history fault events (IsCut.unbegun none) = ap answered none.1
cut_silent i history fault events (IsCut.heard turn) = ap answered turn.is ∙ turn_silent i history turn.line fault turn.later turn.part

pub part_reached : (i : Premises) (start : List Entry) (first : List ℕ) (fault : SessionFault) (events moment later : List Event) → IsSessionPart i start first fault events
    → events ≡ moment ++ later → Reaches i start first moment
part_reached i start first fault events moment later part same = elim part [
  | inl opening ↦ inl (silent_front moment later (ap answered (sym same) ∙ opening_silent i start first fault events opening))
  | inr cut ↦
      reached_behind i start first cut.opening cut.turns cut.history cut.whole cut.last moment later cut.session (cut_silent i cut.history fault cut.last cut.cut)
      (sym cut.is ∙ same)
]
