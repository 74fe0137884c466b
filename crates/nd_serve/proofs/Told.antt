-- What the output of a session has at its end.
use Rattle.std.proofs.Common.{◌≡◌, ◌∙◌, ℕ, List, [], ◌∷◌, ◌++◌, sym, ap, subst, append-nil, inl, inr}
use Rattle.std.specs.Io.KnownBytes.{Appends}
use Rattle.std.proofs.lemmas.Grind.{flat_map-append}
use Rattle.nd_desk.specs.declared.event.Event.{Event}
use Rattle.nd_desk.specs.declared.event.Event.TheVariants.{Heard}
use Rattle.nd_desk.specs.declared.fault.SessionFault.{SessionFault}
use Rattle.nd_desk.specs.declared.fault.SessionFault.TheVariants.{Read, Journal, Write, Memory}
use Rattle.nd_desk.specs.Handing.{kept, said, handed, IsKeptPart, IsHandedPart}
use Rattle.nd_desk.specs.Notes.{Seen, Notes, AreUnrefused, answered, answered_by}
use Rattle.nd_history.specs.declared.entry.Entry.{Entry}
use Rattle.nd_history.specs.Premises.{Premises}
use Rattle.nd_serve.specs.Turns.{Turn, kept_text, answer_text, ready_line}
use Rattle.nd_serve.specs.Sessions.{Opening, IsSession, IsNotBegun, IsOpeningPart, IsTurnPart, IsCut, IsSessionPart, TellsPart, first_text, turn_events}

-- ---- a session: no answer was refused

unrefused_both : (first more : List Event) → AreUnrefused first → AreUnrefused more → AreUnrefused (first ++ more)
unrefused_both [] more one other = other
unrefused_both (e ∷ first) more one other = (one.0, unrefused_both first more one.1 other)

kept_unrefused : (lines : List ℕ) → AreUnrefused (kept lines)
kept_unrefused [] = tt
kept_unrefused (b ∷ lines) = (tt, (tt, tt))

handed_unrefused : (lines answer : List ℕ) → AreUnrefused (handed lines answer)
handed_unrefused lines answer = unrefused_both (kept lines) (said answer) (kept_unrefused lines) (tt, tt)

pub session_unrefused : (i : Premises) (start : List Entry) (first : List ℕ) (opening : Opening) (turns : List Turn) (history : List Entry) (events : List Event)
    → IsSession i start first opening turns history events → AreUnrefused events
session_unrefused i start first opening turns history events (IsSession.opened new opens) = handed_unrefused (first_text first opening) (opening.text ++ ready_line)
session_unrefused i start first opening turns history events (IsSession.turned done old new turn before session taken) =
    unrefused_both before (turn_events turn) (session_unrefused i start first opening done old before session)
    (tt, handed_unrefused (kept_text turn) (answer_text turn))

pub told_whole : (old new : Seen) (events last : List Event) → AreUnrefused events → AreUnrefused last → answered last ≡ [] → Notes old new (events ++ last)
    → Appends old.told new.told (answered events)
told_whole old new events last one other silent noted =
    subst (Appends old.told new.told)
    (flat_map-append answered_by events last ∙ ap (λ (l : List ℕ). answered events ++ l) silent ∙ append-nil (answered events))
    (noted.tells (unrefused_both events last one other))

-- ---- a session that ends early: none was, unless that was what ended it

abbrev UnlessWrite : SessionFault → List Event → Type 0
UnlessWrite Read events = AreUnrefused events
UnlessWrite Journal events = AreUnrefused events
UnlessWrite Write events = Unit {0}
UnlessWrite Memory events = AreUnrefused events

behind : (first more : List Event) (fault : SessionFault) → AreUnrefused first → UnlessWrite fault more → UnlessWrite fault (first ++ more)
behind first more Read one other = unrefused_both first more one other
behind first more Journal one other = unrefused_both first more one other
behind first more Write one other = tt
behind first more Memory one other = unrefused_both first more one other

kept_part : (lines : List ℕ) (fault : SessionFault) (events : List Event) → IsKeptPart lines fault events → UnlessWrite fault events
kept_part lines Read events part = absurd part
kept_part lines Journal events part = elim part.1 [
  | inl refused ↦ subst AreUnrefused (sym refused) (tt, tt)
  | inr unsynced ↦ subst AreUnrefused (sym unsynced) (tt, (tt, tt))
]
kept_part lines Write events part = absurd part
kept_part lines Memory events part = elim part.1 [
  | inl none ↦ subst AreUnrefused (sym none) tt
  | inr unsynced ↦ subst AreUnrefused (sym unsynced) (tt, tt)
]

handed_part : (lines answer : List ℕ) (fault : SessionFault) (events : List Event) → IsHandedPart lines answer fault events → UnlessWrite fault events
handed_part lines answer Read events part = absurd part
handed_part lines answer Journal events part = kept_part lines Journal events part
handed_part lines answer Write events part = tt
handed_part lines answer Memory events part = elim part [
  | inl early ↦ kept_part lines Memory events early
  | inr late ↦ subst AreUnrefused (sym late) (kept_unrefused lines)
]

unbegun_part : (fault : SessionFault) (events : List Event) → IsNotBegun fault events → UnlessWrite fault events
unbegun_part fault events none = subst (λ (f : SessionFault). UnlessWrite f events) (sym none.0) (subst AreUnrefused (sym none.1) tt)

opening_part : (i : Premises) (start : List Entry) (first : List ℕ) (fault : SessionFault) (events : List Event) → IsOpeningPart i start first fault events → UnlessWrite fault events
opening_part i start first fault events part = elim part [
  | inl unbegun ↦ unbegun_part fault events unbegun
  | inr begun ↦ handed_part (first_text first begun.opening) (begun.opening.text ++ ready_line) fault events begun.part
]

turn_part : (i : Premises) (old : List Entry) (line : List ℕ) (fault : SessionFault) (events : List Event) → IsTurnPart i old line fault events → UnlessWrite fault events
turn_part i old line fault events part = elim part [
  | inl unbegun ↦ unbegun_part fault events unbegun
  | inr begun ↦ handed_part (kept_text begun.turn) (answer_text begun.turn) fault events begun.part
]

cut_part : (i : Premises) (old : List Entry) (fault : SessionFault) (events : List Event) → IsCut i old fault events → UnlessWrite fault events
cut_part i old fault events (IsCut.unread unheard) =
    subst (λ (f : SessionFault). UnlessWrite f events) (sym unheard.0) (subst AreUnrefused (sym unheard.1) (tt, tt))
cut_part i old fault events (IsCut.unbegun none) = unbegun_part fault events none
cut_part i old fault events (IsCut.heard turn) =
    subst (UnlessWrite fault) (sym turn.is) (behind (Heard turn.line ∷ []) turn.later fault (tt, tt) (turn_part i old turn.line fault turn.later turn.part))

session_part : (i : Premises) (start : List Entry) (first : List ℕ) (fault : SessionFault) (events : List Event) → IsSessionPart i start first fault events → UnlessWrite fault events
session_part i start first fault events part = elim part [
  | inl opening ↦ opening_part i start first fault events opening
  | inr cut ↦
      subst (UnlessWrite fault) (sym cut.is)
      (behind cut.whole cut.last fault (session_unrefused i start first cut.opening cut.turns cut.history cut.whole cut.session)
      (cut_part i cut.history fault cut.last cut.cut))
]

told_part : (old new : Seen) (fault : SessionFault) (events : List Event) → UnlessWrite fault events → Notes old new events → TellsPart fault old new events
told_part old new Read events unrefused noted = noted.tells unrefused
told_part old new Journal events unrefused noted = noted.tells unrefused
told_part old new Write events unrefused noted = tt
told_part old new Memory events unrefused noted = noted.tells unrefused

pub part_told : (i : Premises) (start : List Entry) (first : List ℕ) (old new : Seen) (fault : SessionFault) (events : List Event) → IsSessionPart i start first fault events
    → Notes old new events → TellsPart fault old new events
part_told i start first old new fault events part noted = told_part old new fault events (session_part i start first fault events part) noted
