-- The lines that were heard by one call after another.
use Rattle.std.proofs.Common.{◌≡◌, ◌∙◌, ℕ, List, [], ◌∷◌, ◌++◌, true, false, Option, None, Some, refl, sym, ap, subst, append-nil, inl, inr}
use Rattle.std.specs.Io.KnownBytes.{Consumes}
use Rattle.std.proofs.KnownBytes.{Consumes-trans}
use Rattle.std.specs.List.{All}
use Rattle.std.proofs.lemmas.Grind.{flat_map-append}
use Rattle.std.proofs.lemmas.List.Elements.{All-nil, All-cons, All-append}
use Rattle.nd_desk.specs.declared.event.Event.{Event}
use Rattle.nd_desk.specs.declared.event.Event.TheVariants.{Heard, Ended, Answered}
use Rattle.nd_desk.specs.declared.fault.SessionFault.{SessionFault}
use Rattle.nd_desk.specs.declared.fault.SessionFault.TheVariants.{Read, Journal, Write, Memory}
use Rattle.nd_desk.specs.Handing.{kept, handed, IsKeptPart, IsHandedPart}
use Rattle.nd_desk.specs.Hearing.{line_with, IsPlain, HasNoLine, IsLineHeard, lines_by, lines_heard, text_of, HearsSoFar, AreHeard, AreAllHeard}

-- ---- what hears nothing

pub kept_deaf : (lines : List ℕ) → lines_heard (kept lines) ≡ []
kept_deaf [] = refl
kept_deaf (b ∷ lines) = refl

both_heard : (first more : List Event) → lines_heard (first ++ more) ≡ lines_heard first ++ lines_heard more
both_heard first more = flat_map-append lines_by first more

deaf_on : (first more : List Event) → lines_heard first ≡ [] → lines_heard more ≡ [] → lines_heard (first ++ more) ≡ []
deaf_on first more one other = both_heard first more ∙ ap (λ (l : List (List ℕ)). l ++ lines_heard more) one ∙ other

pub handed_deaf : (lines answer : List ℕ) → lines_heard (handed lines answer) ≡ []
handed_deaf lines answer = deaf_on (kept lines) (Answered answer true ∷ []) (kept_deaf lines) refl

kept_part_deaf : (lines : List ℕ) (fault : SessionFault) (events : List Event) → IsKeptPart lines fault events → lines_heard events ≡ []
kept_part_deaf lines Read events part = absurd part
kept_part_deaf lines Journal events part = elim part.1 [ inl refused ↦ ap lines_heard refused | inr unsynced ↦ ap lines_heard unsynced ]
kept_part_deaf lines Write events part = absurd part
kept_part_deaf lines Memory events part = elim part.1 [ inl none ↦ ap lines_heard none | inr unsynced ↦ ap lines_heard unsynced ]

pub handed_part_deaf : (lines answer : List ℕ) (fault : SessionFault) (events : List Event) → IsHandedPart lines answer fault events → lines_heard events ≡ []
handed_part_deaf lines answer Read events part = absurd part
handed_part_deaf lines answer Journal events part = kept_part_deaf lines Journal events part
handed_part_deaf lines answer Write events part = ap lines_heard part ∙ deaf_on (kept lines) (Answered answer false ∷ []) (kept_deaf lines) refl
handed_part_deaf lines answer Memory events part = elim part [ inl early ↦ kept_part_deaf lines Memory events early | inr late ↦ ap lines_heard late ∙ kept_deaf lines ]

-- ---- what was read so far

pub hears_none : (old new : Option (List ℕ)) (events : List Event) → new ≡ old → lines_heard events ≡ [] → HearsSoFar old new events
hears_none None new events same deaf = tt
hears_none (Some text) new events same deaf = record {
  read = subst (λ (left : Option (List ℕ)). Consumes (Some text) left (text_of (lines_heard events))) (sym same) (subst (λ (lines : List (List ℕ)). text ≡ text_of lines ++ text) (sym deaf) refl);
  plain = subst (All IsPlain) (sym deaf) (All-nil IsPlain);
}

pub hears_on : (old between new : Option (List ℕ)) (first more : List Event) → HearsSoFar old between first → HearsSoFar between new more → HearsSoFar old new (first ++ more)
hears_on None between new first more one other = tt
hears_on (Some text) None new first more one other = absurd one.read
hears_on (Some text) (Some rest) new first more one other = record {
  read =
      subst (Consumes (Some text) new) (sym (ap text_of (both_heard first more) ∙ flat_map-append line_with (lines_heard first) (lines_heard more)))
      (Consumes-trans (Some text) (Some rest) new (text_of (lines_heard first)) (text_of (lines_heard more)) one.read other.read);
  plain = subst (All IsPlain) (sym (both_heard first more)) (All-append IsPlain (lines_heard first) (lines_heard more) one.plain other.plain);
}

one_line : (line : List ℕ) → text_of (line ∷ []) ≡ line_with line
one_line line = append-nil (line_with line)

-- a line that is read, and then what reads nothing
pub hears_line : (old between new : Option (List ℕ)) (line : List ℕ) (more : List Event) → IsLineHeard old between (Some line) → new ≡ between → lines_heard more ≡ []
    → HearsSoFar old new (Heard line ∷ more)
hears_line None between new line more heard same deaf = tt
hears_line (Some text) between new line more heard same deaf = record {
  read =
      subst (λ (lines : List (List ℕ)). Consumes (Some text) new (text_of (line ∷ lines))) (sym deaf)
      (subst (Consumes (Some text) new) (sym (one_line line))
      (subst (λ (left : Option (List ℕ)). Consumes (Some text) left (line_with line)) (sym same) heard.read));
  plain = subst (λ (lines : List (List ℕ)). All IsPlain (line ∷ lines)) (sym deaf) (All-cons IsPlain line [] heard.plain (All-nil IsPlain));
}

-- ---- what a session comes to

pub begins_heard : (old new : Option (List ℕ)) (events : List Event) → HearsSoFar old new events → AreHeard old events
begins_heard None new events so = tt
begins_heard (Some text) None events so = absurd so.read
begins_heard (Some text) (Some rest) events so = record { rest = rest; whole = so.read; plain = so.plain }

-- nothing was heard
pub heard_none : (old : Option (List ℕ)) (events : List Event) → lines_heard events ≡ [] → AreHeard old events
heard_none old events deaf = begins_heard old old events (hears_none old old events refl deaf)

-- what was heard behind what was read so far
pub heard_on : (old between : Option (List ℕ)) (first more : List Event) → HearsSoFar old between first → AreHeard between more → AreHeard old (first ++ more)
heard_on None between first more one other = tt
heard_on (Some text) None first more one other = absurd one.read
heard_on (Some text) (Some mid) first more one other =
    begins_heard (Some text) (Some other.rest) (first ++ more)
    (hears_on (Some text) (Some mid) (Some other.rest) first more one (record { read = other.whole; plain = other.plain }))

-- up to the end, or as many as there were
pub all_heard : (old between : Option (List ℕ)) (events last : List Event) → HearsSoFar old between events → (last ≡ Ended ∷ [] → (text : List ℕ) → between ≡ Some text → HasNoLine text)
    → AreAllHeard old events last
all_heard None between events last so none = tt
all_heard (Some text) None events last so none = absurd so.read
all_heard (Some text) (Some rest) events last so none = record {
  heard = record { rest = rest; whole = so.read; plain = so.plain };
  none = λ ended. none ended rest refl;
}

-- where a read came to no line, none is left
pub none_left : (between new : Option (List ℕ)) → IsLineHeard between new None → (text : List ℕ) → between ≡ Some text → HasNoLine text
none_left None new heard text is = cc
none_left (Some left) new heard text is = let same : left ≡ text = cc in subst HasNoLine same heard
