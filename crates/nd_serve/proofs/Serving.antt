-- What the turns of a session make together.
use Rattle.std.proofs.Common.{◌≡◌, ◌∙◌, ℕ, ◌≤◌, List, [], ◌∷◌, ◌++◌, length, length-append, ◌+◌, None, Some, refl, sym, ap, subst, append-nil, inl, inr}
use Rattle.nd_desk.specs.declared.event.Event.{Event}
use Rattle.nd_desk.specs.declared.event.Event.TheVariants.{Heard, Ended, Unheard}
use Rattle.nd_desk.specs.declared.fault.SessionFault.{SessionFault}
use Rattle.nd_desk.specs.declared.fault.SessionFault.TheVariants.{Read, Memory}
use Rattle.nd_desk.specs.Handing.{handed, IsHandedPart, HandsPart}
use Rattle.nd_desk.specs.Hearing.{HearsNext, HearsNothing, HearsSoFar, IsLineHeard, lines_heard}
use Rattle.nd_desk.specs.Notes.{Seen, Notes}
use Rattle.nd_desk.proofs.Lines.{all_heard, begins_heard, handed_deaf, handed_part_deaf, heard_none, heard_on, hears_line, hears_none, hears_on, none_left}
use Rattle.nd_desk.proofs.Noting.{notes_on, notes_nothing}
use Rattle.nd_history.specs.declared.entry.Entry.{Entry}
use Rattle.nd_history.specs.Premises.{Premises}
use Rattle.nd_serve.specs.Turns.{Turn, IsTaken, kept_text, answer_text, ready_line}
use Rattle.nd_serve.specs.Sessions.{Opening, IsSession, IsCut, IsOpeningPart, IsTurnPart, IsSessionPart, Serves, ServesPart, first_text, opening_events, turn_events, most_turns}
use Rattle.nd_serve.proofs.Told.{session_unrefused, told_whole, part_told}
use Rattle.nd_serve.specs.Steps.{IsPrepared, IsOpeningPrepared, Opens, OpensPart, Takes, TakesPart, TakesTurn, Ends, CutsTurn}

same_handed : (lines answer kept said : List ℕ) → kept ≡ lines → said ≡ answer → handed kept said ≡ handed lines answer
same_handed lines answer kept said one other = ap (λ (l : List ℕ). handed l said) one ∙ ap (handed lines) other

same_part : (lines answer kept said : List ℕ) (fault : SessionFault) (events : List Event) → kept ≡ lines → said ≡ answer → IsHandedPart kept said fault events
    → IsHandedPart lines answer fault events
same_part lines answer kept said fault events one other part =
    subst (λ (a : List ℕ). IsHandedPart lines a fault events) other (subst (λ (l : List ℕ). IsHandedPart l said fault events) one part)

-- ---- the opening

pub opening_handed : (i : Premises) (old new : List Entry) (first answer lines kept said : List ℕ) (before after : Seen) → IsOpeningPrepared i old new first answer lines
    → kept ≡ lines → said ≡ answer → Notes before after (handed kept said) → HearsNothing before after → Opens i old new first before after
opening_handed i old new first answer lines kept said before after h one other noted unread = record {
  opening = h.opening;
  opens = h.opens;
  noted =
      subst (Notes before after)
      (same_handed (first_text first h.opening) (h.opening.text ++ ready_line) kept said (one ∙ h.keeps) (other ∙ h.says)) noted;
  unread = unread;
}

pub opening_handed_in_part : (i : Premises) (old new : List Entry) (first answer lines kept said : List ℕ) (before after : Seen) (fault : SessionFault)
    → IsOpeningPrepared i old new first answer lines → kept ≡ lines → said ≡ answer → HandsPart before after kept said fault → OpensPart i old first before after fault
opening_handed_in_part i old new first answer lines kept said before after fault h one other hands = record {
  events = hands.events;
  part = inr (record {
    new = new;
    opening = h.opening;
    opens = h.opens;
    part =
        same_part (first_text first h.opening) (h.opening.text ++ ready_line) kept said fault hands.events (one ∙ h.keeps) (other ∙ h.says)
        hands.part;
  });
  noted = hands.noted;
}

pub opening_wanting : (i : Premises) (old : List Entry) (first : List ℕ) (before : Seen) → OpensPart i old first before before Memory
opening_wanting i old first before = record { events = []; part = inl (refl, refl); noted = notes_nothing before }

pub ruleset openings = (opening_handed, opening_handed_in_part, opening_wanting)

-- ---- a turn behind its line

pub turn_handed : (i : Premises) (old new : List Entry) (line answer lines kept said : List ℕ) (before after : Seen) → IsPrepared i old new line answer lines
    → kept ≡ lines → said ≡ answer → Notes before after (handed kept said) → HearsNothing before after → Takes i old new line before after
turn_handed i old new line answer lines kept said before after h one other noted unread = record {
  turn = h.turn;
  taken = h.taken;
  heard = h.heard;
  noted = subst (Notes before after) (same_handed (kept_text h.turn) (answer_text h.turn) kept said (one ∙ h.keeps) (other ∙ h.says)) noted;
  unread = unread;
}

pub turn_handed_in_part : (i : Premises) (old new : List Entry) (line answer lines kept said : List ℕ) (before after : Seen) (fault : SessionFault)
    → IsPrepared i old new line answer lines → kept ≡ lines → said ≡ answer → HandsPart before after kept said fault → TakesPart i old line before after fault
turn_handed_in_part i old new line answer lines kept said before after fault h one other hands = record {
  events = hands.events;
  part = inr (record {
    new = new;
    turn = h.turn;
    taken = h.taken;
    heard = h.heard;
    part = same_part (kept_text h.turn) (answer_text h.turn) kept said fault hands.events (one ∙ h.keeps) (other ∙ h.says) hands.part;
  });
  noted = hands.noted;
}

pub turn_wanting : (i : Premises) (old : List Entry) (line : List ℕ) (before : Seen) → TakesPart i old line before before Memory
turn_wanting i old line before = record { events = []; part = inl (refl, refl); noted = notes_nothing before }

pub ruleset takings = (turn_handed, turn_handed_in_part, turn_wanting)

-- ---- no line is heard but the turns'

opening_part_deaf : (i : Premises) (start : List Entry) (first : List ℕ) (fault : SessionFault) (events : List Event) → IsOpeningPart i start first fault events → lines_heard events ≡ []
opening_part_deaf i start first fault events part = elim part [
  | inl unbegun ↦ ap lines_heard unbegun.1
  | inr begun ↦ handed_part_deaf (first_text first begun.opening) (begun.opening.text ++ ready_line) fault events begun.part
]

turn_part_deaf : (i : Premises) (old : List Entry) (line : List ℕ) (fault : SessionFault) (events : List Event) → IsTurnPart i old line fault events → lines_heard events ≡ []
turn_part_deaf i old line fault events part = elim part [
  | inl unbegun ↦ ap lines_heard unbegun.1
  | inr begun ↦ handed_part_deaf (kept_text begun.turn) (answer_text begun.turn) fault events begun.part
]

-- ---- a turn

pub turn_taken : (i : Premises) (old new : List Entry) (line heard : List ℕ) (before between after : Seen) → Notes before between (Heard heard ∷ [])
    → HearsNext before between (Some heard) → line ≡ heard → Takes i old new line between after → TakesTurn i old new before after
turn_taken i old new line heard before between after noted next same takes =
    let line_is : heard ≡ takes.turn.line = sym (takes.heard ∙ same) in
    record {
      turn = takes.turn;
      taken = takes.taken;
      noted =
          subst (λ (l : List ℕ). Notes before after (Heard l ∷ handed (kept_text takes.turn) (answer_text takes.turn))) line_is
          (notes_on before between after (Heard heard ∷ []) (handed (kept_text takes.turn) (answer_text takes.turn)) noted takes.noted);
      read =
          hears_line before.left between.left after.left takes.turn.line (handed (kept_text takes.turn) (answer_text takes.turn))
          (subst (λ (l : List ℕ). IsLineHeard before.left between.left (Some l)) line_is next) takes.unread
          (handed_deaf (kept_text takes.turn) (answer_text takes.turn));
    }

pub input_ended : (history : List Entry) (before after : Seen) → Notes before after (Ended ∷ []) → HearsNext before after None → Ends history history before after
input_ended history before after noted next = record { kept = refl; noted = noted; none = next }

pub read_refused : (i : Premises) (old : List Entry) (before after : Seen) → Notes before after (Unheard ∷ []) → CutsTurn i old before after Read
read_refused i old before after noted = record {
  events = Unheard ∷ [];
  cut = IsCut.unread (refl, refl);
  noted = noted;
  heard = heard_none before.left (Unheard ∷ []) refl;
}

pub read_wanting : (i : Premises) (old : List Entry) (before after : Seen) → Notes before after [] → CutsTurn i old before after Memory
read_wanting i old before after noted = record { events = []; cut = IsCut.unbegun (refl, refl); noted = noted; heard = heard_none before.left [] refl }

pub turn_cut : (i : Premises) (old : List Entry) (line heard : List ℕ) (before between after : Seen) (fault : SessionFault) → Notes before between (Heard heard ∷ [])
    → HearsNext before between (Some heard) → line ≡ heard → TakesPart i old line between after fault → CutsTurn i old before after fault
turn_cut i old line heard before between after fault noted next same takes = record {
  events = Heard line ∷ takes.events;
  cut = IsCut.heard (record { line = line; later = takes.events; part = takes.part; is = refl });
  noted =
      subst (λ (l : List ℕ). Notes before after (Heard l ∷ takes.events)) (sym same)
      (notes_on before between after (Heard heard ∷ []) takes.events noted takes.noted);
  heard =
      begins_heard before.left between.left (Heard line ∷ takes.events)
      (hears_line before.left between.left between.left line takes.events
      (subst (λ (l : List ℕ). IsLineHeard before.left between.left (Some l)) (sym same) next) refl
      (turn_part_deaf i old line fault takes.events takes.part));
}

pub ruleset hearings = (turn_taken, input_ended, read_refused, read_wanting, turn_cut)

-- ---- a session

-- what was done so far
pub record HasServed (i : Premises) (start history : List Entry) (first : List ℕ) (old new : Seen) (n : ℕ) : Type 0 where
  pub opening : Opening
  pub turns : List Turn
  pub events : List Event
  pub session : IsSession i start first opening turns history events
  pub noted : Notes old new events
  pub read : HearsSoFar old.left new.left events
  pub count : length turns ≡ n

pub session_begun : (i : Premises) (start history : List Entry) (first : List ℕ) (old new : Seen) → Opens i start history first old new
    → HasServed i start history first old new 0
session_begun i start history first old new h = record {
  opening = h.opening;
  turns = [];
  events = _;
  session = IsSession.opened history h.opens;
  noted = h.noted;
  read = hears_none old.left new.left (opening_events first h.opening) h.unread (handed_deaf (first_text first h.opening) (h.opening.text ++ ready_line));
  count = refl;
}

pub session_goes_on : (i later : Premises) (start history new : List Entry) (first : List ℕ) (old between after : Seen) (n : ℕ)
    → HasServed i start history first old between n → later ≡ i → TakesTurn later history new between after → HasServed i start new first old after (n + 1)
session_goes_on i later start history new first old between after n h same takes = record {
  opening = h.opening;
  turns = h.turns ++ takes.turn ∷ [];
  events = h.events ++ turn_events takes.turn;
  session =
      IsSession.turned h.turns history new takes.turn h.events h.session
      (subst (λ (j : Premises). IsTaken j history new takes.turn) same takes.taken);
  noted = notes_on old between after h.events (turn_events takes.turn) h.noted takes.noted;
  read = hears_on old.left between.left after.left h.events (turn_events takes.turn) h.read takes.read;
  count = length-append h.turns (takes.turn ∷ []) ∙ ap (λ (k : ℕ). k + 1) h.count;
}

pub session_ends : (i : Premises) (start history new : List Entry) (first : List ℕ) (old between after : Seen) (n : ℕ) → HasServed i start history first old between n
    → Ends history new between after → Serves i start new first old after
session_ends i start history new first old between after n h ends =
    let noted = notes_on old between after h.events (Ended ∷ []) h.noted ends.noted in
    record {
      opening = h.opening;
      turns = h.turns;
      events = h.events;
      session = subst (λ (l : List Entry). IsSession i start first h.opening h.turns l h.events) (sym ends.kept) h.session;
      last = Ended ∷ [];
      whole = record { end = inl refl };
      noted = noted;
      told = told_whole old after h.events (Ended ∷ []) (session_unrefused i start first h.opening h.turns history h.events h.session) (tt, tt) refl noted;
      heard = all_heard old.left between.left h.events (Ended ∷ []) h.read (λ ended. none_left between.left after.left ends.none);
    }

pub session_full : (i : Premises) (start history : List Entry) (first : List ℕ) (old new : Seen) (n : ℕ) → HasServed i start history first old new n → most_turns ≤ n
    → Serves i start history first old new
session_full i start history first old new n h many =
    let noted = subst (Notes old new) (sym (append-nil h.events)) h.noted in
    record {
      opening = h.opening;
      turns = h.turns;
      events = h.events;
      session = h.session;
      last = [];
      whole = record { end = inr (refl, subst (λ (k : ℕ). most_turns ≤ k) (sym h.count) many) };
      noted = noted;
      told = told_whole old new h.events [] (session_unrefused i start first h.opening h.turns history h.events h.session) tt refl noted;
      heard = all_heard old.left new.left h.events [] h.read (λ ended text is. cc);
    }

pub session_unopened : (i : Premises) (start : List Entry) (first : List ℕ) (old new : Seen) (fault : SessionFault) → OpensPart i start first old new fault
    → ServesPart i start first old new fault
session_unopened i start first old new fault h = record {
  events = h.events;
  part = inl h.part;
  noted = h.noted;
  told = part_told i start first old new fault h.events (inl h.part) h.noted;
  heard = heard_none old.left h.events (opening_part_deaf i start first fault h.events h.part);
}

pub session_cut : (i later : Premises) (start history : List Entry) (first : List ℕ) (old between after : Seen) (n : ℕ) (fault : SessionFault)
    → HasServed i start history first old between n → later ≡ i → CutsTurn later history between after fault → ServesPart i start first old after fault
session_cut i later start history first old between after n fault h same cuts =
    let part : IsSessionPart i start first fault (h.events ++ cuts.events) =
    inr (record {
      opening = h.opening;
      turns = h.turns;
      history = history;
      whole = h.events;
      session = h.session;
      last = cuts.events;
      cut = subst (λ (j : Premises). IsCut j history fault cuts.events) same cuts.cut;
      is = refl;
    }) in
    let noted = notes_on old between after h.events cuts.events h.noted cuts.noted in
    record {
      events = h.events ++ cuts.events;
      part = part;
      noted = noted;
      told = part_told i start first old after fault (h.events ++ cuts.events) part noted;
      heard = heard_on old.left between.left h.events cuts.events h.read cuts.heard;
    }

pub ruleset sessions = (session_begun, session_goes_on, session_ends, session_full, session_unopened, session_cut)
