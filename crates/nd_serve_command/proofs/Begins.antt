-- What a journal holds that is gone on from.
use Rattle.std.proofs.Common.{◌≡◌, ◌∙◌, ◌==◌, ℕ, ◌<◌, Bool, true, false, List, [], ◌∷◌, length, refl, sym, subst, arith, eqb-true, inl, inr}
use Rattle.std.specs.List.{All}
use Rattle.std.proofs.lemmas.List.Elements.{All-nil, All-same, All-weaker}
use Rattle.nd_history.specs.declared.entry.Entry.{Entry}
use Rattle.nd_history_text.specs.Sound.{IsSound, IsTold}
use Rattle.nd_history_text.specs.declared.kinds.Version.TheVariants.{Second}
use Rattle.nd_journal.specs.WholeLines.{whole_lines}
use Rattle.nd_journal.specs.JournalTexts.{IsReadAs}
use Rattle.nd_journal.proofs.Reading.{not_empty}
use Rattle.nd_serve_command.specs.Crashes.{HoldsAtFirst}
use Rattle.nd_serve_command.specs.CrashLaws.{JournalsBegin}

some_there : (n : ℕ) → 0 < n → (n == 0) ≡ false
some_there n more = by (n == 0) refl
  where
    by : (t : Bool) → (n == 0) ≡ t → (n == 0) ≡ false
    by true e = let none : n ≡ 0 = eqb-true n 0 e in absurd (omega arith)
    by false e = e

at_first : (bytes whole : List ℕ) (start : List Entry) → whole ≡ whole_lines bytes → IsReadAs bytes start → HoldsAtFirst (length whole == 0) whole start
at_first bytes [] start same read = elim read [
  | inl none ↦ (refl, none.empty)
  | inr text ↦ absurd (not_empty bytes [] start same refl text)
]
at_first bytes (b ∷ whole) start same read =
    let some : 0 < length (b ∷ whole) = omega arith in
    subst (λ (t : Bool). HoldsAtFirst t (b ∷ whole) start) (sym (some_there (length (b ∷ whole)) some)) (elim read [
      | inl none ↦ absurd (no_byte (same ∙ none.none))
      | inr text ↦ same ∙ text.text
    ])
  where
    no_byte : b ∷ whole ≡ [] → ⊥
    no_byte none = cc

all_sound : (bytes : List ℕ) (start : List Entry) → IsReadAs bytes start → All IsSound start
all_sound bytes start read = elim read [
  | inl none ↦ All-same IsSound start [] none.empty (All-nil IsSound)
  | inr text ↦ All-weaker (IsTold Second) IsSound (λ e told. told.sound) start text.told
]

pub journals_begin : JournalsBegin
journals_begin i bytes start h = record {
  holds = at_first bytes (whole_lines bytes) start refl h.read;
  sound = all_sound bytes start h.read;
  legal = h.legal;
}
