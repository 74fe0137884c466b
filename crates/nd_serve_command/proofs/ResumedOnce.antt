-- A journal's bytes have one answer.
use Rattle.std.proofs.Common.{◌≡◌, ◌≢◌, ◌⊎◌, ◌∙◌, ℕ, List, [], ◌∷◌, ◌++◌, length, reverse, refl, sym, ap, subst, inl, inr}
use Rattle.nd_history.specs.declared.entry.Entry.{Entry}
use Rattle.nd_history.specs.declared.rule.Rule.{Rule}
use Rattle.nd_history.specs.Premises.{Premises}
use Rattle.nd_history.specs.Legal.{IsLegal}
use Rattle.nd_history.specs.Audit.{IsFirstRule}
use Rattle.nd_history.proofs.Rules.{rules_decide}
use Rattle.nd_history_text.proofs.Once.{same_head, same_tail}
use Rattle.nd_report.specs.Audits.{IsFirstIllegal}
use Rattle.nd_report.proofs.Admitting.{none_illegal}
use Rattle.nd_journal.proofs.OneAnswer.{read_once, not_refused, number_once}
use Rattle.nd_serve_command.specs.Resumes.{IsIllegalJournal, IsResumeRefused}
use Rattle.nd_serve_command.specs.ResumeLaws.{ResumesHaveOneAnswer}
use Rattle.nd_serve_command.specs.declared.resume_error.ResumeError.{ResumeError}
use Rattle.nd_serve_command.specs.declared.resume_error.ResumeError.TheVariants.{BadLine, Illegal, Memory}
use Rattle.nd_serve_command.proofs.TakenUp.{same_history, no_refusal}

-- ---- one entry is the first that isn't allowed

-- a place beyond another one
record GoesPast (before others : List Entry) (e : Entry) : Type 0 where
  rest : List Entry
  is : others ≡ before ++ e ∷ rest

-- two places of a list: they are one, or one of them is beyond the other
abbrev Places : List Entry → List Entry → Entry → Entry → Type 0
Places before others e f = ((before ≡ others) × (e ≡ f)) ⊎ (GoesPast before others e ⊎ GoesPast others before f)

places : (before others after more : List Entry) (e f : Entry) → before ++ e ∷ after ≡ others ++ f ∷ more → Places before others e f
places [] [] after more e f same = inl (refl, same_head same)
places [] (o ∷ others) after more e f same = inr (inl (record { rest = others; is = ap (λ (x : Entry). x ∷ others) (sym (same_head same)) }))
places (b ∷ before) [] after more e f same = inr (inr (record { rest = before; is = ap (λ (x : Entry). x ∷ before) (same_head same) }))
places (b ∷ before) (o ∷ others) after more e f same =
    let here : b ≡ o = same_head same in
    elim (places before others after more e f (same_tail same)) [
      | inl both ↦ inl ((λ j. here j ∷ both.0 j), both.1)
      | inr past ↦ elim past [
        | inl one ↦ inr (inl (record { rest = one.rest; is = λ j. sym here j ∷ one.is j }))
        | inr other ↦ inr (inr (record { rest = other.rest; is = λ j. here j ∷ other.is j }))
      ]
    ]

-- a later one isn't the first
never_past : (i : Premises) (entries others : List Entry) (index : ℕ) (rule : Rule) (h : IsFirstIllegal i entries index rule) → GoesPast h.before others h.entry → IsLegal i (reverse others) → ⊥
never_past i entries others index rule h past legal =
    none_illegal i others index rule (record {
      before = h.before;
      entry = h.entry;
      after = past.rest;
      whole = past.is;
      place = h.place;
      legal = h.legal;
      refused = h.refused;
    }) legal

pub illegal_once : (i : Premises) (entries : List Entry) (index other : ℕ) (rule another : Rule) → IsFirstIllegal i entries index rule → IsFirstIllegal i entries other another
    → (index ≡ other) × (rule ≡ another)
illegal_once i entries index other rule another h k =
    elim (places h.before k.before h.after k.after h.entry k.entry (sym h.whole ∙ k.whole)) [
      | inl both ↦
          let same_rule : IsFirstRule i (reverse k.before) k.entry rule =
          subst (λ (e : Entry). IsFirstRule i (reverse k.before) e rule) both.1 (subst (λ (l : List Entry). IsFirstRule i (reverse l) h.entry rule) both.0 h.refused) in
          (h.place ∙ ap length both.0 ∙ sym k.place, rules_decide.once i (reverse k.before) k.entry rule another same_rule k.refused)
      | inr past ↦ elim past [
        | inl one ↦ absurd (never_past i entries k.before index rule h one k.legal)
        | inr two ↦ absurd (never_past i entries h.before other another k two h.legal)
      ]
    ]

-- ---- one refusal

both_illegal : (i : Premises) (bytes : List ℕ) (index other : ℕ) (rule another : Rule) → IsIllegalJournal i bytes index rule → IsIllegalJournal i bytes other another → Illegal index rule ≡ Illegal other another
both_illegal i bytes index other rule another h k =
    let same = illegal_once i k.entries index other rule another (subst (λ (l : List Entry). IsFirstIllegal i l index rule) (read_once bytes h.entries k.entries h.read k.read) h.illegal) k.illegal in
    λ j. Illegal (same.0 j) (same.1 j)

refusal_once : (i : Premises) (bytes : List ℕ) (e f : ResumeError) → e ≢ Memory → f ≢ Memory → IsResumeRefused i bytes e → IsResumeRefused i bytes f → e ≡ f
refusal_once i bytes (BadLine number) (BadLine other) some more one two = ap BadLine (number_once bytes number other one two)
refusal_once i bytes (BadLine number) (Illegal index rule) some more one two = absurd (not_refused bytes two.entries number two.read one)
refusal_once i bytes (Illegal index rule) (BadLine number) some more one two = absurd (not_refused bytes one.entries number one.read two)
refusal_once i bytes (Illegal index rule) (Illegal other another) some more one two = both_illegal i bytes index other rule another one two
refusal_once i bytes Memory f some more one two = absurd (some refl)
refusal_once i bytes (BadLine number) Memory some more one two = absurd (more refl)
refusal_once i bytes (Illegal index rule) Memory some more one two = absurd (more refl)

pub one_answer : ResumesHaveOneAnswer
one_answer = record {
  entries = same_history;
  refusal = refusal_once;
  either = λ i bytes entries e some h refused. some (no_refusal i bytes entries e h refused);
}
