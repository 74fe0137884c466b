-- The words of a line have neither spaces nor newlines, so a line falls into its words, and a text into its lines.
use Rattle.std.proofs.Common.{◌≡◌, ◌∙◌, ℕ, arith, ◌≤◌, ◌==◌, Bool, true, false, ◌&&◌, List, [], ◌∷◌, ◌++◌, refl, sym, ap, append_assoc, true≢false, Some, nat_eq}
use Rattle.std.specs.Prelude.{codes, not}
use Rattle.std.specs.Cmp.{first_so, second_so}
use Rattle.std.specs.Cmp.Lexicographic.{pointwise}
use Rattle.std.specs.Fmt.{decimal}
use Rattle.std.specs.List.{All, list_all, flat_map, slice_split, join_with_byte}
use Rattle.std.proofs.lemmas.Bool.{eqb-true}
use Rattle.std.proofs.lemmas.List.Folds.{list_all-append}
use Rattle.std.proofs.lemmas.List.Elements.{All-head, All-tail, All-nil, All-cons}
use Rattle.std.proofs.lemmas.List.Splits.{slice_split_at, slice_split_none, join_with_byte-slice_split}
use Rattle.nd_bytes.specs.Cut.{until, behind}
use Rattle.nd_bytes.specs.Decimal.{is_digit}
use Rattle.nd_bytes.proofs.Cuts.{until-append, behind-append}
use Rattle.nd_path.specs.StorePath.{is_digest_byte, is_name_byte}
use Rattle.nd_path.specs.Refusals.{IsPath, IsSpelled}
use Rattle.nd_path.proofs.Spelling.{spelled}
use Rattle.nd_history.specs.declared.entry.Why.{Why}
use Rattle.nd_history.specs.declared.entry.Why.TheVariants.{Status, Lost, BadReferences, NoWorker, Memory}
use Rattle.nd_history.specs.declared.entry.Entry.{Entry}
use Rattle.nd_history.specs.declared.entry.Entry.TheVariants.{Chosen, NoBuilder, Started, Down, Built, Failed, Stop, Drain, Enable}
use Rattle.nd_history_text.specs.HistoryTexts.{cause_words, output_words, words_of, line_of}
use Rattle.nd_history_text.specs.Sound.{greatest, IsPathSet, IsSound, IsSoundCause}
use Rattle.nd_history_text.proofs.Decimals.{decimal_digits}

-- neither a space nor a newline
abbrev pub plain : ℕ → Bool
plain b = not (b == 32) && not (b == 10)

abbrev pub is_plain : List ℕ → Bool
is_plain word = list_all plain word

both_so : (a b : Bool) → a ≡ true → b ≡ true → (a && b) ≡ true
both_so a b e f = rw (e, f) refl

-- a byte that passes a test differs from one that doesn't
differs : (p : ℕ → Bool) (n b : ℕ) → p n ≡ false → p b ≡ true → (b == n) ≡ false
differs p n b e h = told (b == n) refl
  where
    told : (t : Bool) → (b == n) ≡ t → (b == n) ≡ false
    told true same = absurd (true≢false (sym h ∙ ap p (eqb-true b n same) ∙ e))
    told false other = other

all_plain : (p : ℕ → Bool) → p 32 ≡ false → p 10 ≡ false → (xs : List ℕ) → list_all p xs ≡ true → is_plain xs ≡ true
all_plain p space newline [] h = refl
all_plain p space newline (x ∷ xs) h =
    let here = first_so (p x) (list_all p xs) h in
    rw (differs p 32 x space here, differs p 10 x newline here) (all_plain p space newline xs (second_so (p x) (list_all p xs) h))

decimal_plain : (n : ℕ) → n ≤ greatest → is_plain (decimal n) ≡ true
decimal_plain n small = all_plain is_digit refl refl (decimal n) (decimal_digits n small)

spelled_plain : (path : List ℕ) → IsSpelled path → is_plain path ≡ true
unfolding is_digest_byte
spelled_plain path s =
    let digest = all_plain is_digest_byte refl refl s.digest s.digits in
    let name = all_plain is_name_byte refl refl s.name (second_so _ (list_all is_name_byte s.name) s.named) in
    rw s.text (rw (list_all-append plain s.digest (45 ∷ s.name), digest, name) refl)

pub path_plain : (path : List ℕ) → IsPath path → is_plain path ≡ true
path_plain path h = spelled_plain path (spelled path h)

spelled_no_output : (path : List ℕ) → IsSpelled path → pointwise nat_eq path (111 ∷ []) ≡ false
spelled_no_output path s = rw s.text refl

-- a store path is not the word before the references of an output
pub path_is_no_output : (path : List ℕ) → IsPath path → pointwise nat_eq path (111 ∷ []) ≡ false
path_is_no_output path h = spelled_no_output path (spelled path h)

-- ---- the words of an entry's line are plain

abbrev pub are_plain : List (List ℕ) → Bool
are_plain words = list_all is_plain words

paths_plain : (paths : List (List ℕ)) → All IsPath paths → are_plain paths ≡ true
paths_plain [] h = refl
paths_plain (path ∷ paths) h =
    both_so (is_plain path) (are_plain paths) (path_plain path (All-head IsPath path paths h)) (paths_plain paths (All-tail IsPath path paths h))

outputs_plain : (refs : List (List (List ℕ))) → All IsPathSet refs → are_plain (flat_map output_words refs) ≡ true
outputs_plain [] h = refl
outputs_plain (set ∷ refs) h =
    let head = All-head IsPathSet set refs h in
    rw (list_all-append is_plain set (flat_map output_words refs), paths_plain set head.paths) (outputs_plain refs (All-tail IsPathSet set refs h))

cause_plain : (why : Why) → IsSoundCause why → are_plain (cause_words why) ≡ true
cause_plain (Status c) h = rw (decimal_plain c (omega arith)) refl
cause_plain Lost h = refl
cause_plain BadReferences h = refl
cause_plain NoWorker h = refl
cause_plain Memory h = refl

pub words_plain : (e : Entry) → IsSound e → are_plain (words_of e) ≡ true
words_plain (Chosen d m s) h = rw (decimal_plain d h.0, decimal_plain m h.1, decimal_plain s h.2) refl
words_plain (NoBuilder d) h = rw (decimal_plain d h) refl
words_plain (Started d paths) h = rw (decimal_plain d h.0, paths_plain paths h.1.paths) refl
words_plain (Down d) h = rw (decimal_plain d h) refl
words_plain (Built d refs) h = rw (decimal_plain d h.0, outputs_plain refs h.1) refl
words_plain (Failed d why) h = rw (decimal_plain d h.0, cause_plain why h.1) refl
words_plain Stop h = refl
words_plain (Drain m) h = rw (decimal_plain m h) refl
words_plain (Enable m) h = rw (decimal_plain m h) refl

-- ---- cutting lines

not_so : (b : Bool) → not b ≡ true → b ≡ false
not_so true h = absurd (true≢false (sym h))
not_so false h = refl

none_at : (n : ℕ) (xs : List ℕ) → list_all (λ b. not (b == n)) xs ≡ true → All (λ b. (b == n) ≡ false) xs
none_at n [] h = All-nil (λ (b : ℕ). (b == n) ≡ false)
none_at n (x ∷ xs) h = All-cons (λ (b : ℕ). (b == n) ≡ false) x xs
    (not_so (x == n) (first_so (not (x == n)) (list_all (λ b. not (b == n)) xs) h))
    (none_at n xs (second_so (not (x == n)) (list_all (λ b. not (b == n)) xs) h))

no_spaces : (word : List ℕ) → is_plain word ≡ true → list_all (λ b. not (b == 32)) word ≡ true
no_spaces [] h = refl
no_spaces (b ∷ word) h =
    both_so (not (b == 32)) (list_all (λ b. not (b == 32)) word) (first_so (not (b == 32)) (not (b == 10)) (first_so (plain b) (is_plain word) h))
    (no_spaces word (second_so (plain b) (is_plain word) h))

no_newlines : (word : List ℕ) → is_plain word ≡ true → list_all (λ b. not (b == 10)) word ≡ true
no_newlines [] h = refl
no_newlines (b ∷ word) h =
    both_so (not (b == 10)) (list_all (λ b. not (b == 10)) word) (second_so (not (b == 32)) (not (b == 10)) (first_so (plain b) (is_plain word) h))
    (no_newlines word (second_so (plain b) (is_plain word) h))

-- words that are joined fall into these words again
pub split_joined : (word : List ℕ) (words : List (List ℕ)) → are_plain (word ∷ words) ≡ true
    → slice_split (λ b. b == 32) (join_with_byte 32 (word ∷ words)) ≡ word ∷ words
split_joined word [] h = slice_split_none (λ b. b == 32) word (none_at 32 word (no_spaces word (first_so (is_plain word) true h)))
split_joined word (next ∷ words) h =
    slice_split_at (λ b. b == 32) word 32 (join_with_byte 32 (next ∷ words)) (none_at 32 word (no_spaces word (first_so (is_plain word) (are_plain (next ∷ words)) h))) refl
    ∙ ap (λ (ws : List (List ℕ)). word ∷ ws) (split_joined next words (second_so (is_plain word) (are_plain (next ∷ words)) h))

-- .. and have no newline
joined_plain : (words : List (List ℕ)) → are_plain words ≡ true → list_all (λ b. not (b == 10)) (join_with_byte 32 words) ≡ true
joined_plain [] h = refl
joined_plain (word ∷ []) h = no_newlines word (first_so (is_plain word) true h)
joined_plain (word ∷ (next ∷ words)) h =
    rw (list_all-append (λ b. not (b == 10)) word (32 ∷ join_with_byte 32 (next ∷ words)))
    (both_so (list_all (λ b. not (b == 10)) word) (list_all (λ b. not (b == 10)) (32 ∷ join_with_byte 32 (next ∷ words)))
    (no_newlines word (first_so (is_plain word) (are_plain (next ∷ words)) h))
    (joined_plain (next ∷ words) (second_so (is_plain word) (are_plain (next ∷ words)) h)))

-- the words of an entry, in its line
pub line_words : (e : Entry) → IsSound e → slice_split (λ b. b == 32) (join_with_byte 32 (words_of e)) ≡ words_of e
line_words (Chosen d m s) h = split_joined (codes "chosen") (decimal d ∷ decimal m ∷ decimal s ∷ []) (words_plain (Chosen d m s) h)
line_words (NoBuilder d) h = split_joined (codes "nobuilder") (decimal d ∷ []) (words_plain (NoBuilder d) h)
line_words (Started d paths) h = split_joined (codes "started") (decimal d ∷ paths) (words_plain (Started d paths) h)
line_words (Down d) h = split_joined (codes "down") (decimal d ∷ []) (words_plain (Down d) h)
line_words (Built d refs) h = split_joined (codes "built") (decimal d ∷ flat_map output_words refs) (words_plain (Built d refs) h)
line_words (Failed d why) h = split_joined (codes "failed") (decimal d ∷ cause_words why) (words_plain (Failed d why) h)
line_words Stop h = split_joined (codes "stop") [] (words_plain Stop tt)
line_words (Drain m) h = split_joined (codes "drain") (decimal m ∷ []) (words_plain (Drain m) h)
line_words (Enable m) h = split_joined (codes "enable") (decimal m ∷ []) (words_plain (Enable m) h)

-- a text that begins with a line: what stands before and behind its first newline
spread : (e : Entry) (rest : List ℕ) → line_of e ++ rest ≡ join_with_byte 32 (words_of e) ++ 10 ∷ rest
unfolding line_of
spread e rest = append_assoc (join_with_byte 32 (words_of e)) (10 ∷ []) rest

pub line_front : (e : Entry) (rest : List ℕ) → IsSound e → until (λ b. b == 10) (line_of e ++ rest) ≡ join_with_byte 32 (words_of e)
line_front e rest h =
    ap (until (λ b. b == 10)) (spread e rest)
    ∙ until-append (λ b. b == 10) (join_with_byte 32 (words_of e)) 10 rest (none_at 10 _ (joined_plain (words_of e) (words_plain e h))) refl

pub line_behind : (e : Entry) (rest : List ℕ) → IsSound e → behind (λ b. b == 10) (line_of e ++ rest) ≡ Some rest
line_behind e rest h =
    ap (behind (λ b. b == 10)) (spread e rest)
    ∙ behind-append (λ b. b == 10) (join_with_byte 32 (words_of e)) 10 rest (none_at 10 _ (joined_plain (words_of e) (words_plain e h))) refl

-- a text with a newline is what stands before it, it and what stands behind
next_byte : (b : ℕ) (bytes rest : List ℕ) → behind (λ b. b == 10) (b ∷ bytes) ≡ Some rest → (t : Bool) → (b == 10) ≡ t
    → (behind (λ b. b == 10) bytes ≡ Some rest → bytes ≡ until (λ b. b == 10) bytes ++ 10 ∷ rest)
    → b ∷ bytes ≡ until (λ b. b == 10) (b ∷ bytes) ++ 10 ∷ rest
next_byte b bytes rest h true e more =
    let behind_it : Some bytes ≡ Some rest = rw e at h in
    let here : b ≡ 10 = eqb-true b 10 e in rw e (cc (here, behind_it))
next_byte b bytes rest h false e more = rw e (ap (λ (l : List ℕ). b ∷ l) (more (rw e at h)))

pub parted : (bytes rest : List ℕ) → behind (λ b. b == 10) bytes ≡ Some rest → bytes ≡ until (λ b. b == 10) bytes ++ 10 ∷ rest
parted [] rest h = cc
parted (b ∷ bytes) rest h = next_byte b bytes rest h (b == 10) refl (parted bytes rest)

-- a line with these words, and its newline, is the entry's line
pub line_from_words : (e : Entry) (line rest : List ℕ) → slice_split (λ b. b == 32) line ≡ words_of e → line ++ 10 ∷ rest ≡ line_of e ++ rest
line_from_words e line rest h =
    ap (λ (l : List ℕ). l ++ 10 ∷ rest) (sym (join_with_byte-slice_split 32 line) ∙ ap (join_with_byte 32) h) ∙ sym (spread e rest)
