-- What a session hands to its journal, and what of it is durable.
use Rattle.std.proofs.Common.{◌≡◌, ◌∙◌, ◌⊎◌, ℕ, Bool, true, false, List, [], ◌∷◌, ◌++◌, reverse, refl, sym, ap, subst, append-nil, append_assoc, inl, inr}
use Rattle.std.specs.List.{All, flat_map}
use Rattle.std.proofs.lemmas.Grind.{flat_map-append}
use Rattle.std.proofs.lemmas.List.Elements.{All-nil, All-append}
use Rattle.nd_desk.specs.declared.event.Event.{Event}
use Rattle.nd_desk.specs.declared.event.Event.TheVariants.{Heard, Appended, Synced, Answered}
use Rattle.nd_desk.specs.declared.fault.SessionFault.{SessionFault}
use Rattle.nd_desk.specs.declared.fault.SessionFault.TheVariants.{Read, Journal, Write, Memory}
use Rattle.nd_desk.specs.Handing.{kept, handed, IsHandedPart}
use Rattle.nd_history.specs.declared.entry.Entry.{Entry}
use Rattle.nd_history.specs.Premises.{Premises}
use Rattle.nd_history.specs.Legal.{IsLegal}
use Rattle.nd_history_text.specs.HistoryTexts.{line_of}
use Rattle.nd_history_text.specs.Sound.{IsSound}
use Rattle.nd_sim.proofs.OneStep.{pumping_legal}
use Rattle.nd_serve.specs.Turns.{Turn, kept_text, answer_text, ready_line}
use Rattle.nd_serve.specs.Sessions.{Opening, IsSession, IsOpeningPart, IsTurnPart, IsCut, IsSessionPart, IsWhole, first_text, turn_events}
use Rattle.nd_serve.proofs.SessionRuns.{sessions_are_legal, taken_legal}
use Rattle.nd_journal.specs.WholeLines.{IsBeginning}
use Rattle.nd_serve_command.specs.Crashes.{handed_by, handed_bytes, IsLeft}

-- ---- bytes

pub both_handed : (one other : List Event) → handed_bytes (one ++ other) ≡ handed_bytes one ++ handed_bytes other
both_handed one other = flat_map-append handed_by one other

kept_handed : (lines : List ℕ) → handed_bytes (kept lines) ≡ lines
kept_handed [] = refl
kept_handed (b ∷ lines) = append-nil (b ∷ lines)

pub turn_handed : (lines answer : List ℕ) (done : Bool) → handed_bytes (kept lines ++ Answered answer done ∷ []) ≡ lines
turn_handed lines answer done = both_handed (kept lines) (Answered answer done ∷ []) ∙ append-nil (handed_bytes (kept lines)) ∙ kept_handed lines

-- ---- beginnings

pub begins_itself : {X : Type 0} (list : List X) → IsBeginning list list
begins_itself list = record { rest = []; is = sym (append-nil list) }

pub begins_first : {X : Type 0} (one more whole : List X) → IsBeginning (one ++ more) whole → IsBeginning one whole
begins_first one more whole h = record { rest = more ++ h.rest; is = h.is ∙ append_assoc one more h.rest }

pub begins_on : {X : Type 0} (one front whole : List X) → IsBeginning one front → IsBeginning front whole → IsBeginning one whole
begins_on one front whole h k = begins_first one h.rest whole (record { rest = k.rest; is = k.is ∙ ap (λ (l : List _). l ++ k.rest) h.is })

-- what a moment handed over begins what the whole did
pub moment_handed : (events moment later : List Event) (whole : List ℕ) → events ≡ moment ++ later → IsBeginning (handed_bytes events) whole → IsBeginning (handed_bytes moment) whole
moment_handed events moment later whole same h =
    begins_first (handed_bytes moment) (handed_bytes later) whole
    (subst (λ (l : List ℕ). IsBeginning l whole) (ap handed_bytes same ∙ both_handed moment later) h)

-- ---- a session

pub record IsKeptBy (start history : List Entry) (first : List ℕ) (events : List Event) : Type 0 where
  pub added : List Entry
  pub grown : history ≡ start ++ added
  pub bytes : handed_bytes events ≡ first ++ flat_map line_of added
  pub sound : All IsSound added

pub session_kept : (i : Premises) (start : List Entry) (first : List ℕ) (opening : Opening) (turns : List Turn) (history : List Entry) (events : List Event)
    → IsSession i start first opening turns history events → IsKeptBy start history first events
session_kept i start first opening turns history events (IsSession.opened new opens) = record {
  added = opening.added;
  grown = opens.grown;
  bytes = turn_handed (first_text first opening) (opening.text ++ ready_line) true;
  sound = opens.sound;
}
session_kept i start first opening turns history events (IsSession.turned done old new turn before session taken) =
    let earlier = session_kept i start first opening done old before session in
    record {
      added = earlier.added ++ turn.added;
      grown = taken.grown ∙ ap (λ (l : List Entry). l ++ turn.added) earlier.grown ∙ append_assoc start earlier.added turn.added;
      bytes = more_kept first before earlier.added turn earlier.bytes (turn_handed (kept_text turn) (answer_text turn) true);
      sound = All-append IsSound earlier.added turn.added earlier.sound taken.sound;
    }
  where
    more_kept : (first : List ℕ) (before : List Event) (added : List Entry) (turn : Turn) → handed_bytes before ≡ first ++ flat_map line_of added
        → handed_bytes (turn_events turn) ≡ kept_text turn → handed_bytes (before ++ turn_events turn) ≡ first ++ flat_map line_of (added ++ turn.added)
    more_kept first before added turn one other =
        both_handed before (turn_events turn)
        ∙ (λ j. one j ++ other j)
        ∙ append_assoc first (flat_map line_of added) (kept_text turn)
        ∙ ap (λ (l : List ℕ). first ++ l) (sym (flat_map-append line_of added turn.added))

-- ---- what is durable

-- behind a handing over that was done, all is durable
durable_handed : (before later : List Event) (lines answer : List ℕ) (file : List ℕ) → IsLeft (before ++ (handed lines answer ++ later)) file
    → (lines ≡ []) ⊎ IsBeginning (handed_bytes before ++ lines) file
durable_handed before later [] answer file left = inl refl
durable_handed before later (b ∷ lines) answer file left =
    let l = b ∷ lines in
    let found = left.durable (before ++ Appended l true ∷ []) (Answered answer true ∷ later)
    (sym (append_assoc before (Appended l true ∷ []) (Synced true ∷ Answered answer true ∷ later))) in
    let bytes : handed_bytes (before ++ Appended l true ∷ []) ≡ handed_bytes before ++ l =
    both_handed before (Appended l true ∷ []) ∙ ap (λ (t : List ℕ). handed_bytes before ++ t) (append-nil l) in
    inr (subst (λ (t : List ℕ). IsBeginning t file) bytes found)

nothing_begins : (file : List ℕ) (bytes : List ℕ) → bytes ≡ [] → IsBeginning bytes file
nothing_begins file bytes none = record { rest = file; is = ap (λ (l : List ℕ). l ++ file) (sym none) }

-- what a session handed over is durable behind each of its turns
pub session_durable : (i : Premises) (start : List Entry) (first : List ℕ) (opening : Opening) (turns : List Turn) (history : List Entry) (events later : List Event) (file : List ℕ)
    → IsSession i start first opening turns history events → IsLeft (events ++ later) file → IsBeginning (handed_bytes events) file
session_durable i start first opening turns history events later file (IsSession.opened new opens) left =
    let lines = first_text first opening in
    let answer = opening.text ++ ready_line in
    let bytes = turn_handed lines answer true in
    elim (durable_handed [] later lines answer file left) [
      | inl none ↦ nothing_begins file (handed_bytes events) (bytes ∙ none)
      | inr found ↦ subst (λ (l : List ℕ). IsBeginning l file) (sym bytes) found
    ]
session_durable i start first opening turns history events later file (IsSession.turned done old new turn before session taken) left =
    let lines = kept_text turn in
    let answer = answer_text turn in
    let bytes = turn_handed lines answer true in
    let all : handed_bytes (before ++ turn_events turn) ≡ handed_bytes before ++ lines =
    both_handed before (turn_events turn) ∙ ap (λ (l : List ℕ). handed_bytes before ++ l) bytes in
    let here : IsLeft (before ++ (turn_events turn ++ later)) file = subst (λ (l : List Event). IsLeft l file) (append_assoc before (turn_events turn) later) left in
    let heard : IsLeft ((before ++ Heard turn.line ∷ []) ++ (handed lines answer ++ later)) file =
    subst (λ (l : List Event). IsLeft l file) (sym (append_assoc before (Heard turn.line ∷ []) (handed lines answer ++ later))) here in
    let front : handed_bytes (before ++ Heard turn.line ∷ []) ≡ handed_bytes before =
    both_handed before (Heard turn.line ∷ []) ∙ append-nil (handed_bytes before) in
    elim (durable_handed (before ++ Heard turn.line ∷ []) later lines answer file heard) [
      | inl none ↦
          subst (λ (l : List ℕ). IsBeginning l file) (sym (all ∙ ap (λ (l : List ℕ). handed_bytes before ++ l) none ∙ append-nil (handed_bytes before)))
          (session_durable i start first opening done old before (turn_events turn ++ later) file session here)
      | inr found ↦ subst (λ (l : List ℕ). IsBeginning l file) (ap (λ (l : List ℕ). l ++ lines) front ∙ sym all) found
    ]

-- ---- moments of a session

whole_silent : (turns : List Turn) (last : List Event) → IsWhole turns last → handed_bytes last ≡ []
whole_silent turns last whole = elim whole.end [
  | inl ended ↦ ap handed_bytes ended
  | inr full ↦ ap handed_bytes full.0
]

-- the history that the journal is on the way to, and what it got of its text
pub record IsHandedOver (i : Premises) (start : List Entry) (first : List ℕ) (events : List Event) : Type 0 where
  pub added : List Entry
  pub handed : IsBeginning (handed_bytes events) (first ++ flat_map line_of added)
  pub legal : IsLegal i (reverse (start ++ added))
  pub sound : All IsSound added

pub session_over : (i : Premises) (start : List Entry) (first : List ℕ) (opening : Opening) (turns : List Turn) (history : List Entry) (events last : List Event) → IsLegal i (reverse start)
    → IsSession i start first opening turns history events → IsWhole turns last → IsHandedOver i start first (events ++ last)
session_over i start first opening turns history events last legal session whole =
    let kept_all = session_kept i start first opening turns history events session in
    let bytes : handed_bytes (events ++ last) ≡ first ++ flat_map line_of kept_all.added =
    both_handed events last ∙ ap (λ (l : List ℕ). handed_bytes events ++ l) (whole_silent turns last whole) ∙ append-nil (handed_bytes events) ∙ kept_all.bytes in
    record {
      added = kept_all.added;
      handed = subst (λ (l : List ℕ). IsBeginning l (first ++ flat_map line_of kept_all.added)) (sym bytes) (begins_itself (first ++ flat_map line_of kept_all.added));
      legal = subst (λ (l : List Entry). IsLegal i (reverse l)) kept_all.grown (sessions_are_legal i start first opening turns history events legal session);
      sound = kept_all.sound;
    }

-- ---- sessions that end early

-- of a turn that is handed over in part, nothing went to the journal or all of its lines
part_handed : (lines answer : List ℕ) (fault : SessionFault) (events : List Event) → IsHandedPart lines answer fault events → IsBeginning (handed_bytes events) lines
part_handed lines answer Read events part = absurd part
part_handed lines answer Journal events part = elim part.1 [
  | inl refused ↦ subst (λ (l : List ℕ). IsBeginning l lines) (sym (ap handed_bytes refused ∙ append-nil lines)) (begins_itself lines)
  | inr unsynced ↦ subst (λ (l : List ℕ). IsBeginning l lines) (sym (ap handed_bytes unsynced ∙ append-nil lines)) (begins_itself lines)
]
part_handed lines answer Write events part = subst (λ (l : List ℕ). IsBeginning l lines) (sym (ap handed_bytes part ∙ turn_handed lines answer false)) (begins_itself lines)
part_handed lines answer Memory events part = elim part [
  | inl early ↦ elim early.1 [
    | inl none ↦ nothing_begins lines (handed_bytes events) (ap handed_bytes none)
    | inr unsynced ↦ subst (λ (l : List ℕ). IsBeginning l lines) (sym (ap handed_bytes unsynced ∙ append-nil lines)) (begins_itself lines)
  ]
  | inr late ↦ subst (λ (l : List ℕ). IsBeginning l lines) (sym (ap handed_bytes late ∙ kept_handed lines)) (begins_itself lines)
]

nothing_over : (i : Premises) (start : List Entry) (first : List ℕ) (events : List Event) → handed_bytes events ≡ [] → IsLegal i (reverse start) → IsHandedOver i start first events
nothing_over i start first events none legal = record {
  added = [];
  handed = nothing_begins (first ++ []) (handed_bytes events) none;
  legal = subst (λ (l : List Entry). IsLegal i (reverse l)) (sym (append-nil start)) legal;
  sound = All-nil IsSound;
}

opening_over : (i : Premises) (start : List Entry) (first : List ℕ) (fault : SessionFault) (events : List Event) → IsLegal i (reverse start) → IsOpeningPart i start first fault events
    → IsHandedOver i start first events
opening_over i start first fault events legal part = elim part [
  | inl unbegun ↦ nothing_over i start first events (ap handed_bytes unbegun.1) legal
  | inr begun ↦ record {
    added = begun.opening.added;
    handed = part_handed (first_text first begun.opening) (begun.opening.text ++ ready_line) fault events begun.part;
    legal =
        subst (λ (l : List Entry). IsLegal i (reverse l)) begun.opens.grown
        (pumping_legal i start begun.new begun.opening.text begun.opens.pumped.pumping legal);
    sound = begun.opens.sound;
  }
]

-- what the last turn adds
record IsLastOver (i : Premises) (history : List Entry) (events : List Event) : Type 0 where
  added : List Entry
  handed : IsBeginning (handed_bytes events) (flat_map line_of added)
  legal : IsLegal i (reverse (history ++ added))
  sound : All IsSound added

silent_last : (i : Premises) (history : List Entry) (events : List Event) → handed_bytes events ≡ [] → IsLegal i (reverse history) → IsLastOver i history events
silent_last i history events none legal = record {
  added = [];
  handed = nothing_begins [] (handed_bytes events) none;
  legal = subst (λ (l : List Entry). IsLegal i (reverse l)) (sym (append-nil history)) legal;
  sound = All-nil IsSound;
}

turn_last : (i : Premises) (history : List Entry) (line : List ℕ) (fault : SessionFault) (events : List Event) → IsLegal i (reverse history) → IsTurnPart i history line fault events
    → IsLastOver i history events
turn_last i history line fault events legal part = elim part [
  | inl unbegun ↦ silent_last i history events (ap handed_bytes unbegun.1) legal
  | inr begun ↦ record {
    added = begun.turn.added;
    handed = part_handed (kept_text begun.turn) (answer_text begun.turn) fault events begun.part;
    legal = subst (λ (l : List Entry). IsLegal i (reverse l)) begun.taken.grown (taken_legal i history begun.new begun.turn begun.taken legal);
    sound = begun.taken.sound;
  }
]

cut_last : (i : Premises) (history : List Entry) (fault : SessionFault) (events : List Event) → IsLegal i (reverse history) → IsCut i history fault events → IsLastOver i history events
cut_last i history fault events legal (IsCut.unread unheard) = silent_last i history events (ap handed_bytes unheard.1) legal
cut_last i history fault events legal (IsCut.unbegun none) = silent_last i history events (ap handed_bytes none.1) legal
cut_last i history fault events legal (IsCut.heard turn) =
    let last = turn_last i history turn.line fault turn.later legal turn.part in
    record {
      added = last.added;
      handed = subst (λ (l : List ℕ). IsBeginning l (flat_map line_of last.added)) (sym (ap handed_bytes turn.is)) last.handed;
      legal = last.legal;
      sound = last.sound;
    }

pub part_over : (i : Premises) (start : List Entry) (first : List ℕ) (fault : SessionFault) (events : List Event) → IsLegal i (reverse start) → IsSessionPart i start first fault events
    → IsHandedOver i start first events
part_over i start first fault events legal part = elim part [
  | inl opening ↦ opening_over i start first fault events legal opening
  | inr cut ↦
      let kept_all = session_kept i start first cut.opening cut.turns cut.history cut.whole cut.session in
      let before = sessions_are_legal i start first cut.opening cut.turns cut.history cut.whole legal cut.session in
      let last = cut_last i cut.history fault cut.last before cut.cut in
      let bytes : handed_bytes events ≡ (first ++ flat_map line_of kept_all.added) ++ handed_bytes cut.last =
      ap handed_bytes cut.is ∙ both_handed cut.whole cut.last ∙ ap (λ (l : List ℕ). l ++ handed_bytes cut.last) kept_all.bytes in
      let whole : first ++ flat_map line_of (kept_all.added ++ last.added) ≡ handed_bytes events ++ last.handed.rest =
      ap (λ (l : List ℕ). first ++ l) (flat_map-append line_of kept_all.added last.added)
      ∙ sym (append_assoc first (flat_map line_of kept_all.added) (flat_map line_of last.added))
      ∙ ap (λ (l : List ℕ). (first ++ flat_map line_of kept_all.added) ++ l) last.handed.is
      ∙ sym (append_assoc (first ++ flat_map line_of kept_all.added) (handed_bytes cut.last) last.handed.rest)
      ∙ ap (λ (l : List ℕ). l ++ last.handed.rest) (sym bytes) in
      record {
        added = kept_all.added ++ last.added;
        handed = record { rest = last.handed.rest; is = whole };
        legal =
            subst (λ (l : List Entry). IsLegal i (reverse l))
            (ap (λ (l : List Entry). l ++ last.added) kept_all.grown ∙ append_assoc start kept_all.added last.added) last.legal;
        sound = All-append IsSound kept_all.added last.added kept_all.sound last.sound;
      }
]
