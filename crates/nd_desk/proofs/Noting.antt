-- What is noted by one call after another.
use Rattle.std.proofs.Common.{◌≡◌, ◌∙◌, ◌==◌, ℕ, ◌<◌, true, false, List, [], ◌∷◌, ◌++◌, length, Option, None, Some, refl, sym, ap, subst, append-nil, append_assoc, arith, inl, inr, eqb-true, Bool}
use Rattle.std.proofs.lemmas.Bool.{eqb-false}
use Rattle.std.proofs.lemmas.Grind.{flat_map-append}
use Rattle.nd_desk.specs.declared.event.Event.{Event}
use Rattle.nd_desk.specs.declared.event.Event.TheVariants.{Appended, Synced, Answered}
use Rattle.nd_desk.specs.declared.fault.SessionFault.{SessionFault}
use Rattle.nd_desk.specs.declared.fault.SessionFault.TheVariants.{Read, Journal, Write, Memory}
use Rattle.std.specs.Io.KnownBytes.{Appends}
use Rattle.nd_desk.specs.Notes.{Seen, answered, answered_by, AreUnrefused, GrowsBy, TellsBy, Notes}
use Rattle.nd_desk.specs.Handing.{kept, said, handed, IsKeptPart, IsHandedPart, KeepsPart, HandsPart, AnswersPart}

grows_by_none : (old : Option (List Event)) → GrowsBy old old []
grows_by_none None = tt
grows_by_none (Some log) = sym (append-nil log)

-- nothing more is held
pub holds_none : (held : Option (List ℕ)) → Appends held held []
holds_none None = tt
holds_none (Some held) = sym (append-nil held)

pub notes_nothing : (old : Seen) → Notes old old []
notes_nothing old = record { grown = grows_by_none old.log; tells = λ all. holds_none old.told }

grows_on : (old between new : Option (List Event)) (first more : List Event) → GrowsBy old between first → GrowsBy between new more → GrowsBy old new (first ++ more)
grows_on None between new first more one other = tt
grows_on (Some log) None new first more one other = absurd one
grows_on (Some log) (Some longer) None first more one other = absurd other
grows_on (Some log) (Some longer) (Some last) first more one other = other ∙ ap (λ (l : List Event). l ++ more) one ∙ append_assoc log first more

unrefused_first : (first more : List Event) → AreUnrefused (first ++ more) → AreUnrefused first
unrefused_first [] more all = tt
unrefused_first (e ∷ first) more all = (all.0, unrefused_first first more all.1)

unrefused_more : (first more : List Event) → AreUnrefused (first ++ more) → AreUnrefused more
unrefused_more [] more all = all
unrefused_more (e ∷ first) more all = unrefused_more first more all.1

holds_on : (old between new : Option (List ℕ)) (first more : List ℕ) → Appends old between first → Appends between new more → Appends old new (first ++ more)
holds_on None between new first more one other = tt
holds_on (Some held) None new first more one other = absurd one
holds_on (Some held) (Some longer) None first more one other = absurd other
holds_on (Some held) (Some longer) (Some last) first more one other = other ∙ ap (λ (l : List ℕ). l ++ more) one ∙ append_assoc held first more

tells_on : (old between new : Option (List ℕ)) (first more : List Event) → TellsBy old between first → TellsBy between new more → TellsBy old new (first ++ more)
tells_on old between new first more one other = λ all.
    subst (Appends old new) (sym (flat_map-append answered_by first more))
    (holds_on old between new (answered first) (answered more) (one (unrefused_first first more all)) (other (unrefused_more first more all)))

pub notes_on : (old between new : Seen) (first more : List Event) → Notes old between first → Notes between new more → Notes old new (first ++ more)
notes_on old between new first more one other = record {
  grown = grows_on old.log between.log new.log first more one.grown other.grown;
  tells = tells_on old.told between.told new.told first more one.tells other.tells;
}

-- ---- lines of a journal

empty : (lines : List ℕ) → (length lines == 0) ≡ true → lines ≡ []
empty [] h = refl
empty (b ∷ lines) h = let none : length (b ∷ lines) ≡ 0 = eqb-true (length (b ∷ lines)) 0 h in absurd (omega arith)

filled : (lines : List ℕ) → (length lines == 0) ≡ false → kept lines ≡ Appended lines true ∷ Synced true ∷ []
filled [] h = absurd (eqb-false 0 0 h refl)
filled (b ∷ lines) h = refl

some : (lines : List ℕ) → (length lines == 0) ≡ false → 0 < length lines
some [] h = absurd (eqb-false 0 0 h refl)
some (b ∷ lines) h = omega arith

pub kept_none : (old : Seen) (lines : List ℕ) (none : Bool) → none ≡ (length lines == 0) → none ≡ true → Notes old old (kept lines)
kept_none old lines none is h = subst (λ (l : List ℕ). Notes old old (kept l)) (sym (empty lines (sym is ∙ h))) (notes_nothing old)

pub kept_whole : (old between new : Seen) (lines : List ℕ) (none : Bool) → none ≡ (length lines == 0) → none ≡ false → Notes old between (Appended lines true ∷ []) → Notes between new (Synced true ∷ [])
    → Notes old new (kept lines)
kept_whole old between new lines none is h one other =
    subst (Notes old new) (sym (filled lines (sym is ∙ h))) (notes_on old between new (Appended lines true ∷ []) (Synced true ∷ []) one other)

pub append_refused : (old new : Seen) (lines : List ℕ) (none : Bool) → none ≡ (length lines == 0) → none ≡ false → Notes old new (Appended lines false ∷ []) → KeepsPart old new lines Journal
append_refused old new lines none is h noted = record { events = Appended lines false ∷ []; part = (some lines (sym is ∙ h), inl refl); noted = noted }

pub append_wanting : (old new : Seen) (lines : List ℕ) (none : Bool) → none ≡ (length lines == 0) → none ≡ false → Notes old new [] → KeepsPart old new lines Memory
append_wanting old new lines none is h noted = record { events = []; part = (some lines (sym is ∙ h), inl refl); noted = noted }

pub sync_refused : (old between new : Seen) (lines : List ℕ) (none : Bool) → none ≡ (length lines == 0) → none ≡ false → Notes old between (Appended lines true ∷ []) → Notes between new (Synced false ∷ [])
    → KeepsPart old new lines Journal
sync_refused old between new lines none is h one other = record {
  events = Appended lines true ∷ Synced false ∷ [];
  part = (some lines (sym is ∙ h), inr refl);
  noted = notes_on old between new (Appended lines true ∷ []) (Synced false ∷ []) one other;
}

pub sync_wanting : (old between new : Seen) (lines : List ℕ) (none : Bool) → none ≡ (length lines == 0) → none ≡ false → Notes old between (Appended lines true ∷ []) → Notes between new []
    → KeepsPart old new lines Memory
sync_wanting old between new lines none is h one other = record {
  events = Appended lines true ∷ [];
  part = (some lines (sym is ∙ h), inr refl);
  noted = notes_on old between new (Appended lines true ∷ []) [] one other;
}

pub ruleset keepings = (kept_none, kept_whole, append_refused, append_wanting, sync_refused, sync_wanting)

-- ---- a turn

pub handed_whole : (old between new : Seen) (lines answer : List ℕ) → Notes old between (kept lines) → Notes between new (said answer) → Notes old new (handed lines answer)
handed_whole old between new lines answer one other = notes_on old between new (kept lines) (said answer) one other

in_part : (lines answer : List ℕ) (events : List Event) (fault : SessionFault) → IsKeptPart lines fault events → IsHandedPart lines answer fault events
in_part lines answer events Read part = part
in_part lines answer events Journal part = part
in_part lines answer events Write part = absurd part
in_part lines answer events Memory part = inl part

pub kept_partly : (old new : Seen) (lines answer : List ℕ) (fault : SessionFault) → KeepsPart old new lines fault → HandsPart old new lines answer fault
kept_partly old new lines answer fault h = record { events = h.events; part = in_part lines answer h.events fault h.part; noted = h.noted }

pub answered_partly : (old between new : Seen) (lines answer : List ℕ) (fault : SessionFault) → Notes old between (kept lines) → AnswersPart between new answer fault
    → HandsPart old new lines answer fault
answered_partly old between new lines answer Read one other = absurd other
answered_partly old between new lines answer Journal one other = absurd other
answered_partly old between new lines answer Write one other = record {
  events = kept lines ++ Answered answer false ∷ [];
  part = refl;
  noted = notes_on old between new (kept lines) (Answered answer false ∷ []) one other;
}
answered_partly old between new lines answer Memory one other = record {
  events = kept lines;
  part = inr refl;
  noted = subst (Notes old new) (append-nil (kept lines)) (notes_on old between new (kept lines) [] one other);
}

pub ruleset handings = (handed_whole, kept_partly, answered_partly)
