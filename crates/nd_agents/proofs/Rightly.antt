-- What calls come to by what the reader has left, and why lines answer in turn.
use Rattle.std.proofs.Common.{◌≡◌, ◌≢◌, ℕ, suc, ◌≤◌, ◌<◌, Bool, true, false, true≢false, List, [], ◌∷◌, ◌++◌, Option, Some, None, refl, sym, ap, subst, ◌∙◌, arith, inl, inr, append_assoc, length, length-append}
use Rattle.std.specs.Io.KnownBytes.{Consumes}
use Rattle.std.specs.List.{All, AllZip}
use Rattle.std.proofs.lemmas.List.Elements.{All-nil, All-cons, All-head, All-tail}
use Rattle.nd_transports.specs.Calls.{calls_of}
use Rattle.nd_transports.specs.declared.kinds.Answer.{Answer}
use Rattle.nd_transports.specs.declared.kinds.Call.{Call}
use Rattle.nd_transports.specs.declared.kinds.Call.TheVariants.{Connect, Copy, Build}
use Rattle.nd_agents.specs.CallTexts.{line_with}
use Rattle.nd_agents.specs.AnswerTexts.{word, word_line, IsAnswerFor, IsListing}
use Rattle.nd_agents.specs.Heard.{IsNeither, IsPlain, longest, HasNoLine}
use Rattle.nd_agents.specs.Wires.{Wired, HasNoWord, IsForgotten, IsNoAnswer, HasNoAnswer}
use Rattle.nd_agents.specs.Spoken.{Naming, IsAnswered, answer_text}
use Rattle.nd_agents.specs.Rightly.{IsUnhindered, BeginsWith, IsWant, WordsAreTold, OthersAreRefused, AnswersAreTold, OthersAreLost, NoLineIsLost, EndIsLost, LinesAnswerInTurn}
use Rattle.nd_agents.proofs.Hearings.{some_is, head_same, tail_same, split_line}
use Rattle.nd_agents.proofs.Once.{for_once}

-- ---- lines that stand at one place

-- what is left behind known bytes that were read
left_known : (old new : Option (List ℕ)) (text xs : List ℕ) → old ≡ Some xs → Consumes old new text → (ys : List ℕ) × (new ≡ Some ys) × (xs ≡ text ++ ys)
left_known None new text xs e took = cc
left_known (Some zs) None text xs e took = absurd took
left_known (Some zs) (Some ys) text xs e took = (ys, refl, sym (some_is zs xs e) ∙ took)

same_line : (line other more rest : List ℕ) → IsPlain line → IsPlain other → line ++ 10 ∷ more ≡ other ++ 10 ∷ rest → (line ≡ other) × (more ≡ rest)
same_line [] [] more rest p q e = (refl, tail_same 10 10 more rest e)
same_line [] (c ∷ other) more rest p q e = absurd (All-head (λ b. b ≢ 10) c other q (sym (head_same 10 c more (other ++ 10 ∷ rest) e)))
same_line (b ∷ line) [] more rest p q e = absurd (All-head (λ b. b ≢ 10) b line p (head_same b 10 (line ++ 10 ∷ more) rest e))
same_line (b ∷ line) (c ∷ other) more rest p q e =
    let first : b ≡ c = head_same b c (line ++ 10 ∷ more) (other ++ 10 ∷ rest) e in
    let others = same_line line other more rest (All-tail (λ b. b ≢ 10) b line p) (All-tail (λ b. b ≢ 10) c other q) (tail_same b c (line ++ 10 ∷ more) (other ++ 10 ∷ rest) e) in
    let tails : line ≡ other = others.0 in
    (cc, others.1)

-- the line that was read is the one that stood there
same_read : (old new : Option (List ℕ)) (line more other : List ℕ) → BeginsWith old line more → IsPlain other → Consumes old new (line_with other) → (line ≡ other) × (new ≡ Some more)
same_read old new line more other begins plain read =
    let took = left_known old new (line_with other) (line_with line ++ more) begins.is read in
    let same = same_line line other more took.0 begins.plain plain (sym (split_line line more) ∙ took.2 ∙ split_line other took.0) in
    (same.0, took.1 ∙ ap Some (sym same.1))

-- ---- a yes or a no

word_plain : (answered : Bool) → IsPlain (word answered)
word_plain true =
    All-cons (λ b. b ≢ 10) 121 (101 ∷ 115 ∷ []) (λ e. omega (arith, e))
    (All-cons (λ b. b ≢ 10) 101 (115 ∷ []) (λ e. omega (arith, e)) (All-cons (λ b. b ≢ 10) 115 [] (λ e. omega (arith, e)) (All-nil (λ b. b ≢ 10))))
word_plain false = All-cons (λ b. b ≢ 10) 110 (111 ∷ []) (λ e. omega (arith, e)) (All-cons (λ b. b ≢ 10) 111 [] (λ e. omega (arith, e)) (All-nil (λ b. b ≢ 10)))

same_word : (said answered : Bool) → word said ≡ word answered → answered ≡ said
same_word true true e = refl
same_word true false e = absurd (omega (arith, head_same 121 110 (101 ∷ 115 ∷ []) (111 ∷ []) e))
same_word false true e = absurd (omega (arith, head_same 110 121 (111 ∷ []) (101 ∷ 115 ∷ []) e))
same_word false false e = refl

begins_with_neither : (known : Option (List ℕ)) (said : Bool) (more : List ℕ) → known ≡ Some (word_line said ++ more) → IsNeither known → ⊥
begins_with_neither known true more is neither = neither.yes.never more is
begins_with_neither known false more is neither = neither.no.never more is

-- a line has its newline
some_line : (line : List ℕ) → 0 < length (line_with line)
some_line line = omega (arith, length-append line (10 ∷ []))

module _ {R W : Type 0} (remaining : R → Option (List ℕ)) (contents : W → Option (List ℕ)) where
  has_word : (old new : Wired R W) (said : Bool) (more : List ℕ) → IsUnhindered old new → remaining old.answers.device ≡ Some (word_line said ++ more) → HasNoWord remaining old new → ⊥
  has_word old new said more free is cause = elim cause [
    | inl mark ↦ true≢false (sym mark ∙ free.calls)
    | inr other ↦ elim other [
      | inl mark ↦ true≢false (sym mark ∙ free.answers)
      | inr neither ↦ begins_with_neither (remaining old.answers.device) said more is neither
    ]
  ]

  pub words_are_told : WordsAreTold remaining contents
  words_are_told old new call more said answered asked free is = elim (asked.here free.here) [
    | inl told ↦
        let took = left_known (remaining old.answers.device) (remaining new.answers.device) (word_line answered) (word_line said ++ more) is told.read in
        let same = same_line (word said) (word answered) more took.0 (word_plain said) (word_plain answered)
        (sym (split_line (word said) more) ∙ took.2 ∙ split_line (word answered) took.0) in
        (same_word said answered same.0, record { here = told.here; left = took.1 ∙ ap Some (sym same.1) })
    | inr unworded ↦ absurd (has_word old new said more free is unworded.cause)
  ]

  pub others_are_refused : OthersAreRefused remaining contents
  others_are_refused old new call text answered asked free is neither = elim (asked.here free.here) [
    | inl told ↦
        let took = left_known (remaining old.answers.device) (remaining new.answers.device) (word_line answered) text is told.read in
        absurd (begins_with_neither (Some text) answered took.0 (ap Some took.2) neither)
    | inr unworded ↦ (unworded.no, unworded.broken.gone)
  ]

  -- ---- a build of so many outputs

  has_answer : (old new : Wired R W) (outputs : ℕ) (line more : List ℕ) → IsUnhindered old new → BeginsWith (remaining old.answers.device) line more
      → (IsNoAnswer outputs (remaining old.answers.device) (remaining new.answers.device) → ⊥) → HasNoAnswer remaining outputs old new → ⊥
  has_answer old new outputs line more free begins some cause = elim cause [
    | inl mark ↦ true≢false (sym mark ∙ free.calls)
    | inr other ↦ elim other [
      | inl mark ↦ true≢false (sym mark ∙ free.answers)
      | inr unread ↦ elim unread [
        | inl none ↦ none.never line more begins.plain begins.within begins.is
        | inr none ↦ some none
      ]
    ]
  ]

  -- the line answers the build, so it isn't one that doesn't
  some_answer : (outputs : ℕ) (old new : Option (List ℕ)) (line more : List ℕ) (said : Answer) → BeginsWith old line more → IsAnswerFor outputs line said → IsNoAnswer outputs old new → ⊥
  some_answer outputs old new line more said begins says none =
      let same = same_read old new line more none.line begins none.read.plain none.read.consumed in
      none.never said (subst (λ (l : List ℕ). IsAnswerFor outputs l said) same.0 says)

  wants_lists : (old new : Wired R W) (call line more : List ℕ) (answer : Answer) → BeginsWith (remaining old.answers.device) line more
      → IsForgotten remaining contents old new call answer → IsWant remaining new line answer more
  wants_lists old new call line more answer begins forgotten =
      let same = same_read (remaining old.answers.device) (remaining new.answers.device) line more forgotten.line begins forgotten.plain forgotten.exchanged.read in
      record {
        memory = forgotten.memory;
        either = inr (subst IsListing (sym same.0) forgotten.listing, record { here = forgotten.exchanged.here; left = same.1 });
      }

  pub answers_are_told : AnswersAreTold remaining contents
  answers_are_told old new outputs call line more said answer asked free begins says =
      let left = remaining old.answers.device in
      let after = remaining new.answers.device in
      elim (asked.here free.here) [
        | inl told ↦
            let same = same_read left after line more told.line begins told.plain told.exchanged.read in
            let here = told.exchanged.here in
            inl (record {
              is = for_once outputs told.line answer said told.says (subst (λ (l : List ℕ). IsAnswerFor outputs l said) same.0 says);
              on = record { here = here; left = same.1 };
            })
        | inr other ↦ elim other [
          | inl forgotten ↦ inr (wants_lists old new call line more answer begins forgotten)
          | inr unread ↦ elim unread [
            | inl broken ↦ absurd (has_answer old new outputs line more free begins (some_answer outputs left after line more said begins says) broken.cause)
            | inr short ↦ inr (record { memory = short.memory; either = inl short.gone })
          ]
        ]
      ]

  pub others_are_lost : OthersAreLost remaining contents
  others_are_lost old new outputs call line more answer asked free begins none = elim (asked.here free.here) [
    | inl told ↦
        let same = same_read (remaining old.answers.device) (remaining new.answers.device) line more told.line begins told.plain told.exchanged.read in
        absurd (none answer (subst (λ (l : List ℕ). IsAnswerFor outputs l answer) (sym same.0) told.says))
    | inr other ↦ elim other [
      | inl forgotten ↦ inr (wants_lists old new call line more answer begins forgotten)
      | inr unread ↦ elim unread [
        | inl broken ↦ inl (record { lost = broken.lost; gone = broken.broken.gone })
        | inr short ↦ inr (record { memory = short.memory; either = inl short.gone })
      ]
    ]
  ]

  unlined : (old new : Wired R W) (text line : List ℕ) → remaining old.answers.device ≡ Some text → HasNoLine (Some text) → IsPlain line → length line ≤ longest
      → Consumes (remaining old.answers.device) (remaining new.answers.device) (line_with line) → ⊥
  unlined old new text line is none plain within read =
      let took = left_known (remaining old.answers.device) (remaining new.answers.device) (line_with line) text is read in
      none.never line took.0 plain within (ap Some took.2)

  pub no_line_is_lost : NoLineIsLost remaining contents
  no_line_is_lost old new outputs call text answer asked free is none = elim (asked.here free.here) [
    | inl told ↦ absurd (unlined old new text told.line is none told.plain told.within told.exchanged.read)
    | inr other ↦ elim other [
      | inl forgotten ↦ absurd (unlined old new text forgotten.line is none forgotten.plain forgotten.within forgotten.exchanged.read)
      | inr unread ↦ elim unread [ inl broken ↦ (broken.broken.gone, inl broken.lost) | inr short ↦ (short.gone, inr short.memory) ]
    ]
  ]

  nothing_begins : (old new : Wired R W) (text : List ℕ) → remaining old.answers.device ≡ Some [] → 0 < length text → Consumes (remaining old.answers.device) (remaining new.answers.device) text → ⊥
  nothing_begins old new text is some read =
      let took = left_known (remaining old.answers.device) (remaining new.answers.device) text [] is read in
      omega (arith, some, ap length took.2, length-append text took.0)

  pub end_is_lost : EndIsLost remaining contents
  end_is_lost old new outputs call answer asked free is = elim (asked.here free.here) [
    | inl told ↦ absurd (nothing_begins old new (line_with told.line) is (some_line told.line) told.exchanged.read)
    | inr other ↦ elim other [
      | inl forgotten ↦ absurd (nothing_begins old new (line_with forgotten.line) is (some_line forgotten.line) forgotten.exchanged.read)
      | inr unread ↦ elim unread [
        | inl broken ↦ record { lost = broken.lost; gone = broken.broken.gone }
        | inr short ↦ absurd (nothing_begins old new short.read.opening is short.read.begun short.read.consumed)
      ]
    ]
  ]

-- ---- one line after another

text_apart : (x : List ℕ) (xs : List (List ℕ)) (more : List ℕ) → answer_text (x ∷ xs) ++ more ≡ x ++ 10 ∷ (answer_text xs ++ more)
text_apart x xs more = append_assoc (line_with x) (answer_text xs) more ∙ split_line x (answer_text xs ++ more)

same_lines : (xs ys : List (List ℕ)) (more rest : List ℕ) → length xs ≡ length ys → All IsPlain xs → All IsPlain ys → answer_text xs ++ more ≡ answer_text ys ++ rest
    → (xs ≡ ys) × (more ≡ rest)
same_lines [] [] more rest n p q e = (refl, e)
same_lines [] (y ∷ ys) more rest n p q e = absurd (omega (arith, n))
same_lines (x ∷ xs) [] more rest n p q e = absurd (omega (arith, n))
same_lines (x ∷ xs) (y ∷ ys) more rest n p q e =
    let one = same_line x y (answer_text xs ++ more) (answer_text ys ++ rest) (All-head IsPlain x xs p) (All-head IsPlain y ys q)
    (sym (text_apart x xs more) ∙ e ∙ text_apart y ys rest) in
    let others = same_lines xs ys more rest (omega (arith, n)) (All-tail IsPlain x xs p) (All-tail IsPlain y ys q) one.1 in
    let first : x ≡ y = one.0 in
    let tails : xs ≡ ys = others.0 in
    (cc, others.1)

zip_length : {X Y : Type 0} (P : X → Y → Type 0) (xs : List X) (ys : List Y) → AllZip P xs ys → length xs ≡ length ys
zip_length P [] [] h = refl
zip_length P [] (y ∷ ys) h = absurd h
zip_length P (x ∷ xs) [] h = absurd h
zip_length P (x ∷ xs) (y ∷ ys) h = ap suc (zip_length P xs ys h.1)

module _ (n : Naming) where
  answer_plain : (c : Call) (line : List ℕ) → IsAnswered n c line → IsPlain line
  answer_plain (Connect answered) line is = subst IsPlain (sym is) (word_plain answered)
  answer_plain (Copy paths done) line is = subst IsPlain (sym is) (word_plain done)
  answer_plain (Build drv answer) line is = is.plain

  answers_plain : (calls : List Call) (lines : List (List ℕ)) → AllZip (IsAnswered n) calls lines → All IsPlain lines
  answers_plain [] [] h = All-nil IsPlain
  answers_plain [] (line ∷ lines) h = absurd h
  answers_plain (c ∷ calls) [] h = absurd h
  answers_plain (c ∷ calls) (line ∷ lines) h = All-cons IsPlain line lines (answer_plain c line h.0) (answers_plain calls lines h.1)

pub lines_answer_in_turn : {R W : Type 0} (remaining : R → Option (List ℕ)) (contents : W → Option (List ℕ)) → LinesAnswerInTurn remaining contents
lines_answer_in_turn remaining contents n answers calls a lines more lives here number plain is =
    let are = lives.spoken.here here in
    let took = left_known (remaining answers) (remaining a.wire.answers.device) (answer_text are.lines) (answer_text lines ++ more) is are.read in
    let same = same_lines lines are.lines more took.0 (number ∙ zip_length (IsAnswered n) (calls_of a.state.deeds) are.lines are.each) plain
    (answers_plain n (calls_of a.state.deeds) are.lines are.each) took.2 in
    (subst (λ (ls : List (List ℕ)). AllZip (IsAnswered n) (calls_of a.state.deeds) ls) (sym same.0) are.each, took.1 ∙ ap Some (sym same.1))
