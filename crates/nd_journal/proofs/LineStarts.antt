-- What is left of an entry's line.
use Rattle.std.proofs.Common.{◌≡◌, ◌∙◌, ◌⊎◌, ◌==◌, ◌&&◌, ℕ, ◌<◌, ◌≤◌, Bool, true, false, List, [], ◌∷◌, ◌++◌, length, refl, sym, ap, subst, arith, append_assoc, append-nil, length-append, true≢false, inl, inr, nat_le}
use Rattle.std.specs.Prelude.{MatchBool}
use Rattle.std.specs.Cmp.{first_so, second_so}
use Rattle.std.specs.Fmt.{decimal}
use Rattle.std.specs.List.{All, list_all, list_any, flat_map, join_with_byte}
use Rattle.std.proofs.lemmas.Bool.{eqb-true}
use Rattle.std.proofs.lemmas.Fmt.{length-decimal-le}
use Rattle.std.proofs.lemmas.Grind.{common_steps}
use Rattle.std.proofs.lemmas.List.Folds.{list_all-append}
use Rattle.std.proofs.lemmas.List.Elements.{All-head, All-tail}
use Rattle.nd_bytes.specs.Decimal.{is_digit}
use Rattle.nd_path.specs.StorePath.{alphabet, is_digest_byte, is_name_byte}
use Rattle.nd_path.specs.Refusals.{IsPath, IsSpelled}
use Rattle.nd_path.proofs.Spelling.{spelled}
use Rattle.nd_history.specs.declared.entry.Why.{Why}
use Rattle.nd_history.specs.declared.entry.Why.TheVariants.{Status, Lost, BadReferences, NoWorker, Memory}
use Rattle.nd_history.specs.declared.entry.Entry.{Entry}
use Rattle.nd_history.specs.declared.entry.Entry.TheVariants.{Chosen, NoBuilder, Started, Down, Built, Failed, Stop, Drain, Enable}
use Rattle.nd_history_text.specs.HistoryTexts.{cause_words, output_words, words_of, line_of}
use Rattle.nd_history_text.specs.Lines.{word_of, kind_of, others_of}
use Rattle.nd_history_text.specs.Sound.{greatest, IsPathSet, IsSound, IsSoundCause}
use Rattle.nd_history_text.specs.declared.kinds.Kind.{Kind}
use Rattle.nd_history_text.specs.declared.kinds.Kind.TheVariants.{Choice, NoChoice, Start, Return, Finish, Failure, Halt, Drained, Enabled}
use Rattle.nd_history_text.proofs.Decimals.{decimal_digits}
use Rattle.nd_history_text.proofs.Once.{same_head, same_tail}
use Rattle.nd_history_text.proofs.Spelled.{words_in_parts}
use Rattle.nd_journal.specs.BegunLines.{is_line_byte, head_of, may_have, IsBegunAs, IsNotBegunAs, IsBegunLine, IsNoBegunLine}
use Rattle.nd_journal.specs.JournalLaws.{CutLinesAreBegun}
use Rattle.nd_journal.specs.WholeLines.{IsBeginning, IsNoBeginning}

-- a line without its newline
abbrev pub bare : Entry → List ℕ
bare e = join_with_byte 32 (words_of e)

-- ---- bytes of lines

both_so : (a b : Bool) → a ≡ true → b ≡ true → (a && b) ≡ true
both_so a b e f = rw (e, f) refl

lined : (p : ℕ → Bool) → ((b : ℕ) → p b ≡ true → is_line_byte b ≡ true) → (xs : List ℕ) → list_all p xs ≡ true → list_all is_line_byte xs ≡ true
lined p own [] h = refl
lined p own (x ∷ xs) h =
    both_so (is_line_byte x) (list_all is_line_byte xs) (own x (first_so (p x) (list_all p xs) h)) (lined p own xs (second_so (p x) (list_all p xs) h))

name_lined : (b : ℕ) → is_name_byte b ≡ true → is_line_byte b ≡ true
name_lined b h = rw h refl

digit_lined : (b : ℕ) → is_digit b ≡ true → is_line_byte b ≡ true
digit_lined b h = rw h refl

among_lined : (xs : List ℕ) (b : ℕ) → list_all is_line_byte xs ≡ true → list_any (λ x. x == b) xs ≡ true → is_line_byte b ≡ true
among_lined [] b h none = absurd (true≢false (sym none))
among_lined (x ∷ xs) b h some =
    by (x == b) refl (λ behind. among_lined xs b (second_so (is_line_byte x) (list_all is_line_byte xs) h) behind)
  where
    by : (t : Bool) → (x == b) ≡ t → (list_any (λ y. y == b) xs ≡ true → is_line_byte b ≡ true) → is_line_byte b ≡ true
    by true e later = subst (λ (c : ℕ). is_line_byte c ≡ true) (eqb-true x b e) (first_so (is_line_byte x) (list_all is_line_byte xs) h)
    by false e later = later (rw e at some)

digest_lined : (b : ℕ) → is_digest_byte b ≡ true → is_line_byte b ≡ true
unfolding is_digest_byte
digest_lined b h = among_lined alphabet b refl h

decimal_lined : (n : ℕ) → n ≤ greatest → list_all is_line_byte (decimal n) ≡ true
decimal_lined n small = lined is_digit digit_lined (decimal n) (decimal_digits n small)

spelled_lined : (path : List ℕ) → IsSpelled path → list_all is_line_byte path ≡ true
spelled_lined path s =
    let digest = lined is_digest_byte digest_lined s.digest s.digits in
    let name = lined is_name_byte name_lined s.name (second_so _ (list_all is_name_byte s.name) s.named) in
    rw s.text (rw (list_all-append is_line_byte s.digest (45 ∷ s.name), digest, name) refl)

path_lined : (path : List ℕ) → IsPath path → list_all is_line_byte path ≡ true
path_lined path h = spelled_lined path (spelled path h)

-- ---- words of lines

abbrev are_lined : List (List ℕ) → Bool
are_lined words = list_all (list_all is_line_byte) words

paths_lined : (paths : List (List ℕ)) → All IsPath paths → are_lined paths ≡ true
paths_lined [] h = refl
paths_lined (path ∷ paths) h =
    both_so (list_all is_line_byte path) (are_lined paths) (path_lined path (All-head IsPath path paths h)) (paths_lined paths (All-tail IsPath path paths h))

outputs_lined : (refs : List (List (List ℕ))) → All IsPathSet refs → are_lined (flat_map output_words refs) ≡ true
outputs_lined [] h = refl
outputs_lined (set ∷ refs) h =
    let head = All-head IsPathSet set refs h in
    rw (list_all-append (list_all is_line_byte) set (flat_map output_words refs), paths_lined set head.paths) (outputs_lined refs (All-tail IsPathSet set refs h))

cause_lined : (why : Why) → IsSoundCause why → are_lined (cause_words why) ≡ true
cause_lined (Status c) h = rw (decimal_lined c (omega arith)) refl
cause_lined Lost h = refl
cause_lined BadReferences h = refl
cause_lined NoWorker h = refl
cause_lined Memory h = refl

words_lined : (e : Entry) → IsSound e → are_lined (words_of e) ≡ true
words_lined (Chosen d m s) h = rw (decimal_lined d h.0, decimal_lined m h.1, decimal_lined s h.2) refl
words_lined (NoBuilder d) h = rw (decimal_lined d h) refl
words_lined (Started d paths) h = rw (decimal_lined d h.0, paths_lined paths h.1.paths) refl
words_lined (Down d) h = rw (decimal_lined d h) refl
words_lined (Built d refs) h = rw (decimal_lined d h.0, outputs_lined refs h.1) refl
words_lined (Failed d why) h = rw (decimal_lined d h.0, cause_lined why h.1) refl
words_lined Stop h = refl
words_lined (Drain m) h = rw (decimal_lined m h) refl
words_lined (Enable m) h = rw (decimal_lined m h) refl

joined_lined : (words : List (List ℕ)) → are_lined words ≡ true → list_all is_line_byte (join_with_byte 32 words) ≡ true
joined_lined [] h = refl
joined_lined (word ∷ []) h = first_so (list_all is_line_byte word) true h
joined_lined (word ∷ (next ∷ words)) h =
    rw (list_all-append is_line_byte word (32 ∷ join_with_byte 32 (next ∷ words)))
    (both_so (list_all is_line_byte word) (list_all is_line_byte (32 ∷ join_with_byte 32 (next ∷ words)))
    (first_so (list_all is_line_byte word) (are_lined (next ∷ words)) h)
    (joined_lined (next ∷ words) (second_so (list_all is_line_byte word) (are_lined (next ∷ words)) h)))

front_lined : (left lost : List ℕ) → list_all is_line_byte (left ++ lost) ≡ true → list_all is_line_byte left ≡ true
front_lined left lost h = first_so (list_all is_line_byte left) (list_all is_line_byte lost) (sym (list_all-append is_line_byte left lost) ∙ h)

-- ---- how long lines are

le_so : (n m : ℕ) → n ≤ m → nat_le n m ≡ true
le_so n m h = grind (arith, common_steps)

so_le : (n m : ℕ) → nat_le n m ≡ true → n ≤ m
so_le n m h = grind (arith, common_steps)

short : (n : ℕ) → n ≤ greatest → length (decimal n) ≤ 10
short n small = length-decimal-le 10 n (omega arith) (omega arith) (omega arith)

status_short : (c : ℕ) → c ≤ 255 → length (decimal c) ≤ 3
status_short c small = length-decimal-le 3 c (omega arith) (omega arith) (omega arith)

cause_short : (why : Why) → IsSoundCause why → length (join_with_byte 32 (cause_words why)) ≤ 10
cause_short (Status c) h = omega (arith, status_short c h)
cause_short Lost h = omega arith
cause_short BadReferences h = omega arith
cause_short NoWorker h = omega arith
cause_short Memory h = omega arith

-- two words, of which the second is some others joined
join_cause : (word : List ℕ) (why : Why) → join_with_byte 32 (word ∷ cause_words why) ≡ word ++ 32 ∷ join_with_byte 32 (cause_words why)
join_cause word (Status c) = refl
join_cause word Lost = refl
join_cause word BadReferences = refl
join_cause word NoWorker = refl
join_cause word Memory = refl

line_fits : (e : Entry) → IsSound e → may_have (kind_of e) (length (bare e)) ≡ true
line_fits (Chosen d m s) h =
    let behind : List ℕ = decimal m ++ 32 ∷ decimal s in
    le_so (length (bare (Chosen d m s))) 39
    (omega (arith, short d h.0, short m h.1, short s h.2, length-append (decimal d) (32 ∷ behind), length-append (decimal m) (32 ∷ decimal s)))
line_fits (NoBuilder d) h = le_so (length (bare (NoBuilder d))) 20 (omega (arith, short d h))
line_fits (Started d paths) h = refl
line_fits (Down d) h = le_so (length (bare (Down d))) 15 (omega (arith, short d h))
line_fits (Built d refs) h = refl
line_fits (Failed d why) h =
    let cause : List ℕ = join_with_byte 32 (cause_words why) in
    le_so (length (bare (Failed d why))) 28
    (omega (arith, short d h.0, cause_short why h.1, ap length (join_cause (decimal d) why), length-append (decimal d) (32 ∷ cause)))
line_fits Stop h = refl
line_fits (Drain m) h = le_so (length (bare (Drain m))) 16 (omega (arith, short m h))
line_fits (Enable m) h = le_so (length (bare (Enable m))) 17 (omega (arith, short m h))

fewer : (n m most : ℕ) → m ≤ n → nat_le n most ≡ true → nat_le m most ≡ true
fewer n m most less h = le_so m most (let all : n ≤ most = so_le n most h in omega arith)

fewer_fit : (kind : Kind) (n m : ℕ) → m ≤ n → may_have kind n ≡ true → may_have kind m ≡ true
fewer_fit Choice n m less h = fewer n m 39 less h
fewer_fit NoChoice n m less h = fewer n m 20 less h
fewer_fit Start n m less h = refl
fewer_fit Return n m less h = fewer n m 15 less h
fewer_fit Finish n m less h = refl
fewer_fit Failure n m less h = fewer n m 28 less h
fewer_fit Halt n m less h = fewer n m 4 less h
fewer_fit Drained n m less h = fewer n m 16 less h
fewer_fit Enabled n m less h = fewer n m 17 less h

-- ---- what lines begin with

-- of two beginnings of a text one is a beginning of the other
two_fronts : (one other more rest : List ℕ) → one ++ more ≡ other ++ rest → IsBeginning other one ⊎ IsBeginning one other
two_fronts [] other more rest same = inr (record { rest = other; is = refl })
two_fronts (x ∷ one) [] more rest same = inl (record { rest = x ∷ one; is = refl })
two_fronts (x ∷ one) (y ∷ other) more rest same =
    let here : x ≡ y = same_head same in
    elim (two_fronts one other more rest (same_tail same)) [
      | inl front ↦ inl (record { rest = front.rest; is = λ j. here j ∷ front.is j })
      | inr front ↦ inr (record { rest = front.rest; is = λ j. sym here j ∷ front.is j })
    ]

heads_agree : (word : List ℕ) (words : List (List ℕ)) (left lost : List ℕ) → join_with_byte 32 (word ∷ words) ≡ left ++ lost
    → IsBeginning left (word ++ 32 ∷ []) ⊎ IsBeginning (word ++ 32 ∷ []) left
heads_agree word [] left lost same =
    inl (record { rest = lost ++ 32 ∷ []; is = ap (λ (l : List ℕ). l ++ 32 ∷ []) same ∙ append_assoc left lost (32 ∷ []) })
heads_agree word (next ∷ words) left lost same =
    let behind : List ℕ = join_with_byte 32 (next ∷ words) in
    two_fronts (word ++ 32 ∷ []) left behind lost (append_assoc word (32 ∷ []) behind ∙ same)

-- ---- so the beginning of a line is one

pub cut_begun : (e : Entry) (left lost : List ℕ) → IsSound e → bare e ≡ left ++ lost → IsBegunLine left
cut_begun e left lost sound same = record {
  kind = kind_of e;
  begun = record {
    head = heads_agree (word_of (kind_of e)) (others_of e) left lost (sym (ap (join_with_byte 32) (words_in_parts e)) ∙ same);
    plain = front_lined left lost (ap (list_all is_line_byte) (sym same) ∙ joined_lined (words_of e) (words_lined e sound));
    fits =
        fewer_fit (kind_of e) (length (bare e)) (length left) (omega (arith, ap length same, length-append left lost)) (line_fits e sound);
  };
}

pub begun_none : IsBegunLine []
begun_none = record { kind = Choice; begun = record { head = inl (record { rest = head_of Choice; is = refl }); plain = refl; fits = refl } }

line_is : (e : Entry) → line_of e ≡ bare e ++ 10 ∷ []
unfolding line_of
line_is e = refl

none_lost : (rest lost : List ℕ) → 10 ∷ [] ≡ rest ++ lost → 0 < length lost → rest ≡ []
none_lost [] lost same some = refl
none_lost (b ∷ rest) lost same some = absurd (omega (arith, ap length (same_tail same), length-append rest lost))

pub same_behind : (front one other : List ℕ) → front ++ one ≡ front ++ other → one ≡ other
same_behind [] one other same = same
same_behind (b ∷ front) one other same = same_behind front one other (same_tail same)

pub cut_lines : CutLinesAreBegun
cut_lines e left lost sound same some =
    elim (two_fronts (bare e) left (10 ∷ []) lost (sym (line_is e) ∙ same)) [
      | inl within ↦ cut_begun e left within.rest sound within.is
      | inr whole ↦
          let behind : 10 ∷ [] ≡ whole.rest ++ lost =
          same_behind (bare e) (10 ∷ []) (whole.rest ++ lost)
          (sym (line_is e) ∙ same ∙ ap (λ (l : List ℕ). l ++ lost) whole.is ∙ append_assoc (bare e) whole.rest lost) in
          let all : left ≡ bare e ++ [] = whole.is ∙ ap (λ (l : List ℕ). bare e ++ l) (none_lost whole.rest lost behind some) in
          cut_begun e left [] sound (sym (append-nil (bare e)) ∙ sym all ∙ sym (append-nil left))
    ]

-- ---- what the code finds

pub begun_by : (kind : Kind) (bytes : List ℕ) → IsBegunAs kind bytes → IsBegunLine bytes
begun_by kind bytes h = record { kind = kind; begun = h }

pub other_bytes : (bytes : List ℕ) → list_all is_line_byte bytes ≡ false → IsNoBegunLine bytes
other_bytes bytes other = record { never = λ h. true≢false (sym h.begun.plain ∙ other) }

no_kind : (bytes : List ℕ) → IsNotBegunAs Choice bytes → IsNotBegunAs NoChoice bytes → IsNotBegunAs Start bytes → IsNotBegunAs Return bytes → IsNotBegunAs Finish bytes
    → IsNotBegunAs Failure bytes → IsNotBegunAs Halt bytes → IsNotBegunAs Drained bytes → IsNotBegunAs Enabled bytes → (kind : Kind) → IsBegunAs kind bytes → ⊥
no_kind bytes a b c d e f g h i Choice begun = a.never begun
no_kind bytes a b c d e f g h i NoChoice begun = b.never begun
no_kind bytes a b c d e f g h i Start begun = c.never begun
no_kind bytes a b c d e f g h i Return begun = d.never begun
no_kind bytes a b c d e f g h i Finish begun = e.never begun
no_kind bytes a b c d e f g h i Failure begun = f.never begun
no_kind bytes a b c d e f g h i Halt begun = g.never begun
no_kind bytes a b c d e f g h i Drained begun = h.never begun
no_kind bytes a b c d e f g h i Enabled begun = i.never begun

-- the last kind decides
pub by_last : (bytes : List ℕ) (last : Bool) → IsNotBegunAs Choice bytes → IsNotBegunAs NoChoice bytes → IsNotBegunAs Start bytes → IsNotBegunAs Return bytes
    → IsNotBegunAs Finish bytes → IsNotBegunAs Failure bytes → IsNotBegunAs Halt bytes → IsNotBegunAs Drained bytes
    → MatchBool last (IsBegunAs Enabled bytes) (IsNotBegunAs Enabled bytes) → MatchBool last (IsBegunLine bytes) (IsNoBegunLine bytes)
by_last bytes true a b c d e f g h last = begun_by Enabled bytes last
by_last bytes false a b c d e f g h last = record { never = λ begun. no_kind bytes a b c d e f g h last begun.kind begun.begun }

pub ruleset lines = (begun_by, other_bytes, by_last)

pub too_many : (kind : Kind) (bytes : List ℕ) → may_have kind (length bytes) ≡ false → IsNotBegunAs kind bytes
too_many kind bytes many = record { never = λ h. true≢false (sym h.fits ∙ many) }

pub within_head : (kind : Kind) (bytes head : List ℕ) → head ≡ head_of kind → list_all is_line_byte bytes ≡ true → may_have kind (length bytes) ≡ true → IsBeginning bytes head
    → IsBegunAs kind bytes
within_head kind bytes head is plain fits begins = record { head = inl (subst (IsBeginning bytes) is begins); plain = plain; fits = fits }

pub by_head : (kind : Kind) (bytes head : List ℕ) (behind : Bool) → head ≡ head_of kind → list_all is_line_byte bytes ≡ true → may_have kind (length bytes) ≡ true
    → IsNoBeginning bytes head → MatchBool behind (IsBeginning head bytes) (IsNoBeginning head bytes) → MatchBool behind (IsBegunAs kind bytes) (IsNotBegunAs kind bytes)
by_head kind bytes head true is plain fits none begins = record { head = inr (subst (λ (l : List ℕ). IsBeginning l bytes) is begins); plain = plain; fits = fits }
by_head kind bytes head false is plain fits none neither = record {
  never = λ h. elim h.head [
    | inl within ↦ none.never (subst (IsBeginning bytes) (sym is) within)
    | inr behind ↦ neither.never (subst (λ (l : List ℕ). IsBeginning l bytes) (sym is) behind)
  ];
}

pub ruleset kinds = (too_many, within_head, by_head)
