-- Cutting a text into its lines, and into pieces of whole lines.
use Rattle.std.proofs.Common.{◌≡◌, ℕ, ◌==◌, ◌<◌, ◌+◌, ◌-◌, List, [], ◌∷◌, ◌++◌, length, get_or, take, drop, take-append-drop, Bool, true, false, true≢false, if◌then◌else◌, Option, Some, map, inl, inr, refl, ap, sym, ◌∙◌, arith, append_assoc, Bor}
use Rattle.std.proofs.lemmas.List.{append-nil, map-append, length-append, take_more}
use Rattle.std.proofs.Math.Seq.{drop-append_seam, take-append_seam}
use Rattle.std.proofs.lemmas.List.Splits.{length-slice_split, slice_split-cons_no, slice_split-cons_yes}
use Rattle.std.proofs.lemmas.Bool.{cases_Bool, eqb-true}
use Rattle.std.specs.Prelude.{is_none}
use Rattle.std.specs.Option.{unwrap_or}
use Rattle.std.specs.List.{onto_first, slice_split}
use Rattle.nd_bytes.specs.Cut.{behind, pieces, until}
use Rattle.nd_bytes.specs.Lines.{lines_of, without_empty_end}
use Rattle.nd_bytes.proofs.TextLines.{no_lines, lines_more}
use Rattle.nd_bundle.specs.Lines.{lines, lines_in}
use Rattle.nd_bundle.specs.Parts.{HasWholeLines, IsLineEnd}

-- what the found lines are
abbrev pub shown : List (Bor (List ℕ)) → List (List ℕ)
shown found = map (λ (line : Bor (List ℕ)). line.now) found

not_none : (left : List ℕ) → (length left == 0) ≡ false → 0 < length left
not_none [] some = absurd (true≢false some)
not_none (b ∷ left) some = omega arith

pub one_more : (text left : List ℕ) (found more : List (Bor (List ℕ))) (line : Bor (List ℕ)) (rest : Option (List ℕ)) → (length left == 0) ≡ false → slice_split (λ b. b == 10) left ≡ line.now ∷ pieces 10 rest
    → more ≡ found ++ line ∷ [] → shown found ++ lines left ≡ lines text → shown more ++ lines (unwrap_or rest []) ≡ lines text
one_more text left found more line rest some cut pushed so_far =
    ap (λ (ls : List (Bor (List ℕ))). shown ls ++ lines (unwrap_or rest [])) pushed ∙ ap (λ (ls : List (List ℕ)). ls ++ lines (unwrap_or rest [])) (map-append (λ (b : Bor (List ℕ)). b.now) found (line ∷ []))
    ∙ append_assoc (shown found) (line.now ∷ []) (lines (unwrap_or rest [])) ∙ ap (λ (ls : List (List ℕ)). shown found ++ ls) (sym (lines_more left line.now rest (not_none left some) cut)) ∙ so_far

pub all_found : (text left : List ℕ) (found : List (Bor (List ℕ))) → (length left == 0) ≡ true → shown found ++ lines left ≡ lines text → shown found ≡ lines text
all_found text [] found none so_far = sym (append-nil (shown found)) ∙ ap (λ (ls : List (List ℕ)). shown found ++ ls) (sym no_lines) ∙ so_far
all_found text (b ∷ left) found none so_far = let empty : length (b ∷ left) ≡ 0 = eqb-true (length (b ∷ left)) 0 none in absurd (omega arith)

-- ---- pieces of whole lines

-- where a newline is the last byte of a piece, the lines are those of the piece and those behind it
abbrev pub newline : ℕ → Bool
newline b = b == 10

onto_append : (x : ℕ) (parts others : List (List ℕ)) → 0 < length parts → onto_first x (parts ++ others) ≡ onto_first x parts ++ others
onto_append x [] others some = absurd (omega arith)
onto_append x (part ∷ parts) others some = refl

split_at_newline : (front rest : List ℕ) → slice_split newline (front ++ 10 ∷ rest) ≡ slice_split newline front ++ slice_split newline rest
split_at_newline [] rest = refl
split_at_newline (b ∷ front) rest = elim (cases_Bool (b == 10)) [
  | inl here ↦ slice_split-cons_yes newline b (front ++ 10 ∷ rest) here ∙ ap (λ (ps : List (List ℕ)). [] ∷ ps) (split_at_newline front rest)
      ∙ sym (ap (λ (ps : List (List ℕ)). ps ++ slice_split newline rest) (slice_split-cons_yes newline b front here))
  | inr other ↦ slice_split-cons_no newline b (front ++ 10 ∷ rest) other ∙ ap (λ (ps : List (List ℕ)). onto_first b ps) (split_at_newline front rest)
      ∙ onto_append b (slice_split newline front) (slice_split newline rest) (omega (arith, length-slice_split newline front))
      ∙ sym (ap (λ (ps : List (List ℕ)). ps ++ slice_split newline rest) (slice_split-cons_no newline b front other))
]

end_behind : (parts others : List (List ℕ)) → 0 < length others → without_empty_end (parts ++ others) ≡ parts ++ without_empty_end others
end_behind [] others some = refl
end_behind (part ∷ []) [] some = absurd (omega arith)
end_behind (part ∷ []) (other ∷ others) some = refl
end_behind (part ∷ (next ∷ parts)) others some = ap (λ (ps : List (List ℕ)). part ∷ ps) (end_behind (next ∷ parts) others some)

lines_behind : (front rest : List ℕ) → lines (front ++ 10 ∷ []) ++ lines rest ≡ lines (front ++ 10 ∷ rest)
unfolding lines_of
lines_behind front rest =
    let parts : List (List ℕ) = slice_split newline front in
    let others : List (List ℕ) = slice_split newline rest in
    let one : without_empty_end (slice_split newline (front ++ 10 ∷ [])) ≡ parts =
    ap without_empty_end (split_at_newline front []) ∙ end_behind parts ([] ∷ []) (omega arith) ∙ append-nil parts in
    let two : without_empty_end (slice_split newline (front ++ 10 ∷ rest)) ≡ parts ++ without_empty_end others =
    ap without_empty_end (split_at_newline front rest) ∙ end_behind parts others (omega (arith, length-slice_split newline rest)) in
    ap (λ (ls : List (List ℕ)). ls ++ without_empty_end others) one ∙ sym two

-- what stands up to a newline, and behind it
at_newline : (bytes rest : List ℕ) → behind newline bytes ≡ Some rest → bytes ≡ until newline bytes ++ 10 ∷ rest
at_newline [] rest is = absurd (true≢false (ap (λ (o : Option (List ℕ)). is_none o) is))
at_newline (b ∷ bytes) rest is = elim (cases_Bool (b == 10)) [
  | inl here ↦
      let found : Some bytes ≡ Some rest = sym (ap (λ (t : Bool). if t then Some bytes else behind newline bytes) here) ∙ is in
      let same : bytes ≡ rest = ap (λ (o : Option (List ℕ)). unwrap_or o []) found in
      let first : b ≡ 10 = eqb-true b 10 here in
      ap (λ (x : ℕ). x ∷ bytes) first ∙ ap (λ (xs : List ℕ). 10 ∷ xs) same ∙ sym (ap (λ (t : Bool). (if t then [] else b ∷ until newline bytes) ++ 10 ∷ rest) here)
  | inr other ↦
      let found : behind newline bytes ≡ Some rest = sym (ap (λ (t : Bool). if t then Some bytes else behind newline bytes) other) ∙ is in
      ap (λ (xs : List ℕ). b ∷ xs) (at_newline bytes rest found) ∙ sym (ap (λ (t : Bool). (if t then [] else b ∷ until newline bytes) ++ 10 ∷ rest) other)
]

-- a text is cut behind the newline that comes first from some place on
pub cut_behind : (text rest : List ℕ) (least : ℕ) → behind newline (drop least text) ≡ Some rest
    → lines (take (length text - length rest) text) ++ lines (drop (length text - length rest) text) ≡ lines text
cut_behind text rest least is =
    let front : List ℕ = take least text ++ until newline (drop least text) in
    let parts : text ≡ (front ++ 10 ∷ []) ++ rest = sym (take-append-drop least text) ∙ ap (λ (xs : List ℕ). take least text ++ xs) (at_newline (drop least text) rest is)
    ∙ sym (append_assoc (take least text) (until newline (drop least text)) (10 ∷ rest)) ∙ sym (append_assoc front (10 ∷ []) rest) in
    let long : length text ≡ length (front ++ 10 ∷ []) + length rest = ap (λ (xs : List ℕ). length xs) parts ∙ length-append (front ++ 10 ∷ []) rest in
    let at : length text - length rest ≡ length (front ++ 10 ∷ []) = omega arith in
    let piece : take (length text - length rest) text ≡ front ++ 10 ∷ [] = ap (λ (n : ℕ). take n text) at ∙ ap (λ (xs : List ℕ). take (length (front ++ 10 ∷ [])) xs) parts ∙ take-append_seam (front ++ 10 ∷ []) rest in
    let left : drop (length text - length rest) text ≡ rest = ap (λ (n : ℕ). drop n text) at ∙ ap (λ (xs : List ℕ). drop (length (front ++ 10 ∷ [])) xs) parts ∙ drop-append_seam (front ++ 10 ∷ []) rest in
    ap (λ (xs : List ℕ). lines xs ++ lines (drop (length text - length rest) text)) piece ∙ ap (λ (xs : List ℕ). lines (front ++ 10 ∷ []) ++ lines xs) left
    ∙ lines_behind front rest ∙ ap (λ (xs : List ℕ). lines xs) (sym (append_assoc front (10 ∷ []) rest) ∙ sym parts)

-- .. which the text before is with it
abbrev pub up_to : List ℕ → List ℕ → List ℕ
up_to text rest = take (length text - length rest) text

pub line_end : (text rest end : List ℕ) → behind newline text ≡ Some rest → end ≡ up_to text rest → IsLineEnd end
line_end text rest end is cut =
    let front : List ℕ = until newline text in
    let parts : text ≡ (front ++ 10 ∷ []) ++ rest = at_newline text rest is ∙ sym (append_assoc front (10 ∷ []) rest) in
    let long : length text ≡ length (front ++ 10 ∷ []) + length rest = ap (λ (xs : List ℕ). length xs) parts ∙ length-append (front ++ 10 ∷ []) rest in
    let at : length text - length rest ≡ length (front ++ 10 ∷ []) = omega arith in
    record { front = front; is = cut ∙ ap (λ (n : ℕ). take n text) at ∙ ap (λ (xs : List ℕ). take (length (front ++ 10 ∷ [])) xs) parts ∙ take-append_seam (front ++ 10 ∷ []) rest }

-- whole lines end with a newline
has_whole : (text front : List ℕ) → text ≡ front ++ 10 ∷ [] → HasWholeLines text
has_whole text front is = record {
  whole = λ rest.
      ap (λ (xs : List ℕ). lines (xs ++ rest)) is ∙ ap (λ (xs : List ℕ). lines xs) (append_assoc front (10 ∷ []) rest) ∙ sym (lines_behind front rest) ∙ ap (λ (xs : List ℕ). lines xs ++ lines rest) (sym is);
}

-- .. with what stands before the line too
pub line_ends : (rest end : List ℕ) → IsLineEnd end → HasWholeLines (rest ++ end)
line_ends rest end ended = has_whole (rest ++ end) (rest ++ ended.front) (ap (λ (xs : List ℕ). rest ++ xs) ended.is ∙ sym (append_assoc rest ended.front (10 ∷ [])))

pub no_line : (text : List ℕ) → text ≡ [] → HasWholeLines text
no_line text is = record { whole = λ rest. ap (λ (xs : List ℕ). lines (xs ++ rest)) is ∙ ap (λ (ls : List (List ℕ)). ls ++ lines rest) (sym no_lines) ∙ ap (λ (xs : List ℕ). lines xs ++ lines rest) (sym is) }

pub whole_to : (text front : List ℕ) (at : ℕ) → at < length text → get_or text at 0 ≡ 10 → front ≡ take (at + 1) text → HasWholeLines front
whole_to text front at within is cut = has_whole front (take at text) (cut ∙ take_more text at 0 within ∙ ap (λ (b : ℕ). take at text ++ b ∷ []) is)

-- .. or it is one piece
pub whole_piece : (text : List ℕ) → lines text ++ lines [] ≡ lines text
whole_piece text = ap (λ (ls : List (List ℕ)). lines text ++ ls) no_lines ∙ append-nil (lines text)

-- ---- the lines of texts, one text after another

pub lines_in-append : (texts others : List (List ℕ)) → lines_in (texts ++ others) ≡ lines_in texts ++ lines_in others
lines_in-append [] others = refl
lines_in-append (text ∷ texts) others = ap (λ (ls : List (List ℕ)). lines text ++ ls) (lines_in-append texts others) ∙ sym (append_assoc (lines text) (lines_in texts) (lines_in others))

lines_in-push : (texts : List (List ℕ)) (text : List ℕ) → lines_in (texts ++ text ∷ []) ≡ lines_in texts ++ lines text
lines_in-push texts text = lines_in-append texts (text ∷ []) ∙ ap (λ (ls : List (List ℕ)). lines_in texts ++ ls) (append-nil (lines text))

pub one_more_piece : (text left : List ℕ) (found more : List (Bor (List ℕ))) (piece rest : Bor (List ℕ)) → more ≡ found ++ piece ∷ [] → lines piece.now ++ lines rest.now ≡ lines left → lines_in (shown found) ++ lines left ≡ lines text
    → lines_in (shown more) ++ lines rest.now ≡ lines text
one_more_piece text left found more piece rest pushed cut so_far =
    ap (λ (ps : List (Bor (List ℕ))). lines_in (shown ps) ++ lines rest.now) pushed
    ∙ ap (λ (ps : List (List ℕ)). lines_in ps ++ lines rest.now) (map-append (λ (b : Bor (List ℕ)). b.now) found (piece ∷ []))
    ∙ ap (λ (ls : List (List ℕ)). ls ++ lines rest.now) (lines_in-push (shown found) piece.now)
    ∙ append_assoc (lines_in (shown found)) (lines piece.now) (lines rest.now) ∙ ap (λ (ls : List (List ℕ)). lines_in (shown found) ++ ls) cut ∙ so_far

pub all_pieces : (text left : List ℕ) (found : List (Bor (List ℕ))) → (length left == 0) ≡ true → lines_in (shown found) ++ lines left ≡ lines text → lines_in (shown found) ≡ lines text
all_pieces text [] found none so_far = sym (append-nil (lines_in (shown found))) ∙ ap (λ (ls : List (List ℕ)). lines_in (shown found) ++ ls) (sym no_lines) ∙ so_far
all_pieces text (b ∷ left) found none so_far = let empty : length (b ∷ left) ≡ 0 = eqb-true (length (b ∷ left)) 0 none in absurd (omega arith)
