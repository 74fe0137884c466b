-- A text is read in one way: entries with the same line are the same.
use Rattle.std.proofs.Common.{◌≡◌, ◌∙◌, ℕ, ◌≤◌, ◌==◌, Bool, true, false, List, [], ◌∷◌, ◌++◌, drop, get_or, refl, sym, ap, subst, arith, append_assoc, true≢false, Option, Some, None, nat_eq}
use Rattle.std.specs.Cmp.Lexicographic.{pointwise}
use Rattle.std.specs.Fmt.{decimal}
use Rattle.std.specs.List.{All, flat_map, slice_split, join_with_byte}
use Rattle.std.proofs.lemmas.Bool.{eqb-false}
use Rattle.std.proofs.lemmas.Fmt.{decimal_injective}
use Rattle.std.proofs.lemmas.List.Elements.{All-head, All-tail}
use Rattle.nd_bytes.specs.Cut.{until, behind}
use Rattle.nd_path.specs.Refusals.{IsPath}
use Rattle.nd_history.specs.declared.entry.Why.{Why}
use Rattle.nd_history.specs.declared.entry.Why.TheVariants.{Status, Lost, BadReferences, NoWorker, Memory}
use Rattle.nd_history.specs.declared.entry.Entry.{Entry}
use Rattle.nd_history.specs.declared.entry.Entry.TheVariants.{Chosen, NoBuilder, Started, Down, Built, Failed, Stop, Drain, Enable}
use Rattle.nd_history_text.specs.HistoryTexts.{cause_words, output_words, words_of, line_of, first_line, history_text, is_told_in}
use Rattle.nd_history_text.specs.Lines.{word_of, kind_of, others_of}
use Rattle.nd_history_text.specs.Sound.{greatest, IsPathSet, IsSound, IsSoundCause, IsTold}
use Rattle.nd_history_text.specs.Reading.{is_end, kind_at, ArePathsFirst}
use Rattle.nd_history_text.specs.declared.kinds.Kind.{Kind}
use Rattle.nd_history_text.specs.declared.kinds.Kind.TheVariants.{Choice, NoChoice, Start, Return, Finish, Failure, Halt, Drained, Enabled}
use Rattle.nd_history_text.specs.declared.kinds.Version.{Version}
use Rattle.nd_history_text.specs.declared.kinds.Version.TheVariants.{First, Second}
use Rattle.nd_history_text.proofs.Plain.{path_is_no_output, line_words, line_front, line_behind}
use Rattle.nd_history_text.proofs.Spelled.{words_in_parts}

first_of : {X : Type 0} → List X → Option X
first_of [] = None
first_of (x ∷ xs) = Some x

same_some : {X : Type 0} {x y : X} → Some x ≡ Some y → x ≡ y
same_some h = cc

tail_of : {X : Type 0} → List X → List X
tail_of [] = []
tail_of (x ∷ xs) = xs

pub same_head : {X : Type 0} {x y : X} {xs ys : List X} → x ∷ xs ≡ y ∷ ys → x ≡ y
unfolding first_of
same_head h = same_some (ap first_of h)

pub same_tail : {X : Type 0} {x y : X} {xs ys : List X} → x ∷ xs ≡ y ∷ ys → xs ≡ ys
unfolding tail_of
same_tail h = ap tail_of h

-- words that a test tells apart
pub apart : {word other : List ℕ} → word ≡ other → pointwise nat_eq word other ≡ false → pointwise nat_eq other other ≡ true → ⊥
apart same differ self = true≢false (sym self ∙ rw same at differ)

-- ---- numbers and sets of paths

same_number : (m n : ℕ) → m ≤ greatest → n ≤ greatest → decimal m ≡ decimal n → m ≡ n
same_number m n small low h = decimal_injective m n (omega arith) (omega arith) h

-- sets of paths up to an end
pub paths_once : (paths others rest more : List (List ℕ)) → All IsPath paths → All IsPath others → is_end rest ≡ true → is_end more ≡ true
    → paths ++ rest ≡ others ++ more → (paths ≡ others) × (rest ≡ more)
paths_once [] [] rest more h k end last same = (refl, same)
paths_once [] (other ∷ others) rest more h k end last same =
    absurd (true≢false (sym end ∙ ap is_end same ∙ path_is_no_output other (All-head IsPath other others k)))
paths_once (path ∷ paths) [] rest more h k end last same =
    absurd (true≢false (sym last ∙ ap is_end (sym same) ∙ path_is_no_output path (All-head IsPath path paths h)))
paths_once (path ∷ paths) (other ∷ others) rest more h k end last same =
    let here = same_head same in
    let later = paths_once paths others rest more (All-tail IsPath path paths h) (All-tail IsPath other others k) end last (same_tail same) in
    (λ i. here i ∷ later.0 i, later.1)

pub same_paths : (words paths rest others more : List (List ℕ)) → ArePathsFirst words paths rest → ArePathsFirst words others more
    → (paths ≡ others) × (rest ≡ more)
same_paths words paths rest others more h k = paths_once paths others rest more h.set.paths k.set.paths h.end k.end (sym h.whole ∙ k.whole)

pub outputs_end : (refs : List (List (List ℕ))) → is_end (flat_map output_words refs) ≡ true
outputs_end [] = refl
outputs_end (set ∷ refs) = refl

outputs_once : (refs others : List (List (List ℕ))) → All IsPathSet refs → All IsPathSet others → flat_map output_words refs ≡ flat_map output_words others
    → refs ≡ others
outputs_once [] [] h k same = refl
outputs_once [] (other ∷ others) h k same = cc
outputs_once (set ∷ refs) [] h k same = cc
outputs_once (set ∷ refs) (other ∷ others) h k same =
    let first = All-head IsPathSet set refs h in
    let second = All-head IsPathSet other others k in
    let here = paths_once set other (flat_map output_words refs) (flat_map output_words others) first.paths second.paths (outputs_end refs) (outputs_end others) (same_tail same) in
    let later = outputs_once refs others (All-tail IsPathSet set refs h) (All-tail IsPathSet other others k) here.1 in
    λ i. here.0 i ∷ later i

-- ---- causes

cause_once : (why other : Why) → IsSoundCause why → IsSoundCause other → cause_words why ≡ cause_words other → why ≡ other
cause_once (Status c) (Status d) h k same = ap Status (same_number c d (omega arith) (omega arith) (same_head (same_tail same)))
cause_once Lost Lost h k same = refl
cause_once BadReferences BadReferences h k same = refl
cause_once NoWorker NoWorker h k same = refl
cause_once Memory Memory h k same = refl
cause_once (Status c) other h k same = absurd (apart (same_head same) refl refl)
cause_once Lost other h k same = absurd (apart (same_head same) refl refl)
cause_once BadReferences other h k same = absurd (apart (same_head same) refl refl)
cause_once NoWorker other h k same = absurd (apart (same_head same) refl refl)
cause_once Memory other h k same = absurd (apart (same_head same) refl refl)

-- ---- kinds

pub kind_again : (kind : Kind) → kind_at (word_of kind) ≡ Some kind
unfolding kind_at word_of
kind_again Choice = refl
kind_again NoChoice = refl
kind_again Start = refl
kind_again Return = refl
kind_again Finish = refl
kind_again Failure = refl
kind_again Halt = refl
kind_again Drained = refl
kind_again Enabled = refl

-- a word begins lines of one kind
pub same_kind : (kind other : Kind) → word_of kind ≡ word_of other → kind ≡ other
same_kind kind other same = let both : Some kind ≡ Some other = sym (kind_again kind) ∙ ap kind_at same ∙ kind_again other in cc

pub kind_from_words : (e : Entry) (word : List ℕ) (words : List (List ℕ)) → words_of e ≡ word ∷ words → (word_of (kind_of e) ≡ word) × (others_of e ≡ words)
kind_from_words e word words h = let both = sym (words_in_parts e) ∙ h in (same_head both, same_tail both)

-- whether a version tells an entry is a matter of its kind
tells : Version → Kind → Bool
tells First Drained = false
tells First Enabled = false
tells version kind = true

tells_kind : (version : Version) (e : Entry) → is_told_in version e ≡ tells version (kind_of e)
unfolding tells
tells_kind First (Drain m) = refl
tells_kind First (Enable m) = refl
tells_kind First e = refl
tells_kind Second e = refl

pub told_alike : (version : Version) (e f : Entry) → kind_of e ≡ kind_of f → is_told_in version e ≡ is_told_in version f
told_alike version e f same = tells_kind version e ∙ ap (tells version) same ∙ sym (tells_kind version f)

-- ---- entries

entry_once : (e f : Entry) → IsSound e → IsSound f → kind_of e ≡ kind_of f → others_of e ≡ others_of f → e ≡ f
entry_once (Chosen d m s) (Chosen x y z) h k kind same =
    let drv = same_number d x h.0 k.0 (same_head same) in
    let machine = same_number m y h.1 k.1 (same_head (same_tail same)) in
    let slot = same_number s z h.2 k.2 (same_head (same_tail (same_tail same))) in
    λ i. Chosen (drv i) (machine i) (slot i)
entry_once (NoBuilder d) (NoBuilder x) h k kind same = ap NoBuilder (same_number d x h k (same_head same))
entry_once (Started d paths) (Started x others) h k kind same =
    let drv = same_number d x h.0 k.0 (same_head same) in
    let all = same_tail same in
    λ i. Started (drv i) (all i)
entry_once (Down d) (Down x) h k kind same = ap Down (same_number d x h k (same_head same))
entry_once (Built d refs) (Built x others) h k kind same =
    let drv = same_number d x h.0 k.0 (same_head same) in
    let all = outputs_once refs others h.1 k.1 (same_tail same) in
    λ i. Built (drv i) (all i)
entry_once (Failed d why) (Failed x other) h k kind same =
    let drv = same_number d x h.0 k.0 (same_head same) in
    let cause = cause_once why other h.1 k.1 (same_tail same) in
    λ i. Failed (drv i) (cause i)
entry_once Stop Stop h k kind same = refl
entry_once (Drain m) (Drain y) h k kind same = ap Drain (same_number m y h k (same_head same))
entry_once (Enable m) (Enable y) h k kind same = ap Enable (same_number m y h k (same_head same))
entry_once (Chosen d m s) f h k kind same = cc
entry_once (NoBuilder d) f h k kind same = cc
entry_once (Started d paths) f h k kind same = cc
entry_once (Down d) f h k kind same = cc
entry_once (Built d refs) f h k kind same = cc
entry_once (Failed d why) f h k kind same = cc
entry_once Stop f h k kind same = cc
entry_once (Drain m) f h k kind same = cc
entry_once (Enable m) f h k kind same = cc

pub words_once : (e f : Entry) → IsSound e → IsSound f → words_of e ≡ words_of f → e ≡ f
words_once e f h k same =
    let parts = kind_from_words e (word_of (kind_of f)) (others_of f) (same ∙ words_in_parts f) in
    entry_once e f h k (same_kind (kind_of e) (kind_of f) parts.0) parts.1

pub line_once : (e f : Entry) (rest more : List ℕ) → IsSound e → IsSound f → line_of e ++ rest ≡ line_of f ++ more → (e ≡ f) × (rest ≡ more)
line_once e f rest more h k same =
    let joined : join_with_byte 32 (words_of e) ≡ join_with_byte 32 (words_of f) = sym (line_front e rest h) ∙ ap (until (λ b. b == 10)) same ∙ line_front f more k in
    let words : words_of e ≡ words_of f = sym (line_words e h) ∙ ap (slice_split (λ b. b == 32)) joined ∙ line_words f k in
    let behind_it : Some rest ≡ Some more = sym (line_behind e rest h) ∙ ap (behind (λ b. b == 10)) same ∙ line_behind f more k in
    (words_once e f h k words, cc)

-- ---- whole texts

line_some : (e : Entry) (rest : List ℕ) → IsSound e → line_of e ++ rest ≡ [] → ⊥
line_some e rest h none = let both : None ≡ Some rest = ap (behind (λ b. b == 10)) (sym none) ∙ line_behind e rest h in cc

-- what is left where a history goes on after some entries
pub record GoesOn (version : Version) (rest : List ℕ) (before entries : List Entry) : Type 0 where
  pub more : List Entry
  pub all : entries ≡ before ++ more
  pub told : All (IsTold version) more
  pub left : rest ≡ flat_map line_of more

pub lines_go_on : (version : Version) (before entries : List Entry) (rest : List ℕ) → All (IsTold version) before → All (IsTold version) entries
    → flat_map line_of before ++ rest ≡ flat_map line_of entries → GoesOn version rest before entries
lines_go_on version [] entries rest h k same = record { more = entries; all = refl; told = k; left = same }
lines_go_on version (e ∷ before) [] rest h k same =
    absurd (line_some e (flat_map line_of before ++ rest) (All-head (IsTold version) e before h).sound (sym (append_assoc (line_of e) (flat_map line_of before) rest) ∙ same))
lines_go_on version (e ∷ before) (f ∷ entries) rest h k same =
    let here = line_once e f (flat_map line_of before ++ rest) (flat_map line_of entries) (All-head (IsTold version) e before h).sound
    (All-head (IsTold version) f entries k).sound (sym (append_assoc (line_of e) (flat_map line_of before) rest) ∙ same) in
    let later = lines_go_on version before entries rest (All-tail (IsTold version) e before h) (All-tail (IsTold version) f entries k) here.1 in
    record { more = later.more; all = λ i. (sym here.0) i ∷ later.all i; told = later.told; left = later.left }

-- the first line tells the version
first_line_once : (version other : Version) (rest more : List ℕ) → first_line version ++ rest ≡ first_line other ++ more → (version ≡ other) × (rest ≡ more)
unfolding first_line
first_line_once First First rest more same = (refl, ap (drop 23) same)
first_line_once Second Second rest more same = (refl, ap (drop 23) same)
first_line_once First Second rest more same = absurd (eqb-false 49 50 refl (ap (λ (l : List ℕ). get_or l 21 0) same))
first_line_once Second First rest more same = absurd (eqb-false 50 49 refl (ap (λ (l : List ℕ). get_or l 21 0) same))

pub texts_go_on : (version other : Version) (before entries : List Entry) (rest : List ℕ) → All (IsTold version) before → All (IsTold other) entries
    → history_text version before ++ rest ≡ history_text other entries → (version ≡ other) × GoesOn version rest before entries
texts_go_on version other before entries rest h k same =
    let split = first_line_once version other (flat_map line_of before ++ rest) (flat_map line_of entries)
    (sym (append_assoc (first_line version) (flat_map line_of before) rest) ∙ same) in
    (split.0, lines_go_on version before entries rest h (subst (λ (v : Version). All (IsTold v) entries) (sym split.0) k) split.1)
