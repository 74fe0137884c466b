-- Reading an info text line by line.
use Rattle.std.proofs.Common.{◌≡◌, ◌==◌, ℕ, ◌+◌, ◌-◌, ◌<◌, ◌≤◌, Bool, true, false, List, [], ◌∷◌, ◌++◌, length, take, drop, get_or, Option, Some, None, refl, sym, ap, ◌∙◌, subst, arith, inl, inr, zero, suc, length-append, length-drop, add-one, true≢false, Bor}
use Rattle.std.specs.List.{slice_split}
use Rattle.std.specs.Option.{unwrap_or, option_copied}
use Rattle.std.specs.Prelude.{not}
use Rattle.std.proofs.Math.Dec.{eqb-suc-zero}
use Rattle.std.proofs.Math.Seq.{get_or-append_seam}
use Rattle.std.proofs.lemmas.Bool.{cases_lt}
use Rattle.std.proofs.lemmas.List.{get_or_append_left, take-append-le, take_all, take_more}
use Rattle.nd_bytes.specs.Cut.{pieces, left_over}
use Rattle.nd_bytes.specs.Lines.{lines_of}
use Rattle.nd_bytes.proofs.TextLines.{lines_more, no_lines}
use Rattle.nd_closure.specs.Info.{IsLine, AreListed, IsFirstBad, IsRefused, no_entry}
use Rattle.nd_closure.specs.Tables.{is_listed}
use Rattle.nd_path.specs.declared.path_error.PathError.{PathError}
use Rattle.nd_path.specs.declared.path_error.PathError.TheVariants.{Prefix, Digest, Name, Memory}
use Rattle.nd_closure.specs.Lines.{IsBadFor, refusal_of}
use Rattle.nd_closure.proofs.Words.{same_path}

-- the next of the items that are left
next_at : {X : Type 0} (xs : List X) (n : ℕ) (x : X) (more : List X) (d : X) → drop n xs ≡ x ∷ more → (n < length xs) × (get_or xs n d ≡ x) × (drop (suc n) xs ≡ more)
next_at [] zero x more d h = cc
next_at [] (suc n) x more d h = cc
next_at (y ∷ xs) zero x more d h = (omega arith, cc, cc)
next_at (y ∷ xs) (suc n) x more d h = let later = next_at xs n x more d h in (omega (arith, later.0), later.1, later.2)

at_end : {X : Type 0} (xs : List X) (y d : X) (n : ℕ) → n ≡ length xs → get_or (xs ++ y ∷ []) n d ≡ y
at_end xs y d n e = rw e (get_or-append_seam xs y [] d)

-- one line more
pub listed_more : (lines : List (List ℕ)) (entries : List (List ℕ × List (List ℕ))) (line : List ℕ) (entry : List ℕ × List (List ℕ))
    → AreListed lines entries → IsLine line entry → is_listed entries entry.0 ≡ false → AreListed (lines ++ line ∷ []) (entries ++ entry ∷ [])
listed_more lines entries line entry h read new = record {
  size = omega (arith, h.size, length-append entries (entry ∷ []), length-append lines (line ∷ []));
  line = λ n lt. elim (cases_lt n (length lines)) [
    | inl before ↦
        (let lt' : n < length entries = omega (arith, h.size) in
        rw (get_or_append_left lines (line ∷ []) [] n before, get_or_append_left entries (entry ∷ []) no_entry n lt') (h.line n before))
    | inr after ↦
        (let here : n ≡ length lines = omega (arith, length-append lines (line ∷ [])) in
        rw (at_end lines line [] n here, at_end entries entry no_entry n (here ∙ sym h.size)) read)
  ];
  fresh = λ n lt. elim (cases_lt n (length lines)) [
    | inl before ↦
        (let lt' : n < length entries = omega (arith, h.size) in
        let le : n ≤ length entries = omega arith in
        rw (take-append-le n entries (entry ∷ []) le, get_or_append_left entries (entry ∷ []) no_entry n lt') (h.fresh n before))
    | inr after ↦
        (let here : n ≡ length entries = omega (arith, h.size, length-append lines (line ∷ [])) in
        let le : n ≤ length entries = omega arith in
        let all : length entries ≤ n = omega arith in
        rw (take-append-le n entries (entry ∷ []) le, take_all n entries all, at_end entries entry no_entry n here) new)
  ];
}

-- so many lines of a text have been read to these entries, and this is left
pub record IsReading (text : List ℕ) (entries : List (List ℕ × List (List ℕ))) (left : List ℕ) (number : ℕ) : Type 0 where
  pub fits : number + length left ≤ length text
  pub listed : AreListed (take number (lines_of text)) entries
  pub rest : drop number (lines_of text) ≡ lines_of left

pub reading_begun : (text : List ℕ) → IsReading text [] text 0
reading_begun text = record {
  fits = omega arith;
  listed = record { size = refl; line = λ n lt. absurd (omega arith); fresh = λ n lt. absurd (omega arith) };
  rest = refl;
}

pub read_on : (text : List ℕ) (entries : List (List ℕ × List (List ℕ))) (left line : List ℕ) (rest : Option (List ℕ)) (number : ℕ) (entry : List ℕ × List (List ℕ))
    → IsReading text entries left number → 0 < length left → slice_split (λ b. b == 10) left ≡ line ∷ pieces 10 rest → left_over rest ≤ length left
    → IsLine line entry → is_listed entries entry.0 ≡ false → IsReading text (entries ++ entry ∷ []) (unwrap_or rest []) (number + 1)
read_on text entries left line rest number entry h some cut shorter read new =
    let next = next_at (lines_of text) number line (lines_of (unwrap_or rest [])) [] (h.rest ∙ lines_more left line rest some cut) in
    record {
      fits = omega (arith, h.fits, left_less rest (length left) some shorter);
      listed =
          let front : take (number + 1) (lines_of text) ≡ take number (lines_of text) ++ line ∷ [] =
          take_more (lines_of text) number [] next.0 ∙ ap (λ (l : List ℕ). take number (lines_of text) ++ l ∷ []) next.1 in
          rw front (listed_more (take number (lines_of text)) entries line entry h.listed read new);
      rest = rw (add-one number) next.2;
    }
  where
    left_less : (rest : Option (List ℕ)) (n : ℕ) → 0 < n → left_over rest ≤ n → suc (length (unwrap_or rest [])) ≤ n
    left_less None n some shorter = omega arith
    left_less (Some bytes) n some shorter = shorter

pub first_bad : (text : List ℕ) (entries : List (List ℕ × List (List ℕ))) (left line : List ℕ) (rest : Option (List ℕ)) (number : ℕ)
    → IsReading text entries left number → 0 < length left → slice_split (λ b. b == 10) left ≡ line ∷ pieces 10 rest
    → ((entry : List ℕ × List (List ℕ)) → IsLine line entry → is_listed entries entry.0 ≡ false → ⊥) → IsFirstBad (lines_of text) (number + 1)
first_bad text entries left line rest number h some cut bad =
    let next = next_at (lines_of text) number line (lines_of (unwrap_or rest [])) [] (h.rest ∙ lines_more left line rest some cut) in
    let less : number ≡ number + 1 - 1 = omega arith in
    record {
      counted = omega arith;
      within = omega (arith, next.0);
      entries = entries;
      before = subst (λ (n : ℕ). AreListed (take n (lines_of text)) entries) less h.listed;
      bad = λ entry read new. bad entry
          (subst (λ (l : List ℕ). IsLine l entry) (ap (λ (n : ℕ). get_or (lines_of text) n []) (sym less) ∙ next.1) read) new;
    }

pub all_read : (text : List ℕ) (entries : List (List ℕ × List (List ℕ))) (left : List ℕ) (number : ℕ) → IsReading text entries left number → left ≡ []
    → AreListed (lines_of text) entries
all_read text entries left number h empty =
    let none : drop number (lines_of text) ≡ [] = h.rest ∙ ap lines_of empty ∙ no_lines in
    let past : length (lines_of text) ≤ number = omega (arith, ap length none, length-drop number (lines_of text)) in
    subst (λ (ls : List (List ℕ)). AreListed ls entries) (take_all number (lines_of text) past) h.listed

-- a line that lists nothing is the first bad one
pub refused_by : (text : List ℕ) (entries : List (List ℕ × List (List ℕ))) (left line : List ℕ) (rest : Option (List ℕ)) (number : ℕ) (fault : PathError)
    → IsReading text entries left number → 0 < length left → slice_split (λ b. b == 10) left ≡ line ∷ pieces 10 rest → IsBadFor line fault
    → IsRefused text (refusal_of fault (number + 1))
refused_by text entries left line rest number Prefix h some cut bad = first_bad text entries left line rest number h some cut (λ entry read new. bad entry read)
refused_by text entries left line rest number Digest h some cut bad = first_bad text entries left line rest number h some cut (λ entry read new. bad entry read)
refused_by text entries left line rest number Name h some cut bad = first_bad text entries left line rest number h some cut (λ entry read new. bad entry read)
refused_by text entries left line rest number Memory h some cut bad = tt

-- and so is one whose path is listed before
pub refused_again : (text : List ℕ) (entries : List (List ℕ × List (List ℕ))) (left line : List ℕ) (rest : Option (List ℕ)) (number : ℕ) (entry : List ℕ × List (List ℕ))
    → IsReading text entries left number → 0 < length left → slice_split (λ b. b == 10) left ≡ line ∷ pieces 10 rest → IsLine line entry → is_listed entries entry.0 ≡ true
    → IsFirstBad (lines_of text) (number + 1)
refused_again text entries left line rest number entry h some cut read listed =
    first_bad text entries left line rest number h some cut
    (λ other also new.
    let same : other.0 ≡ entry.0 = same_path line entry.0 read.others other read.words also in
    true≢false (sym listed ∙ ap (is_listed entries) (sym same) ∙ new))

-- tests on what is left, and on whether an entry was added
pub some_left : (bytes : List ℕ) → false ≡ (length bytes == 0) → 0 < length bytes
some_left [] h = absurd (true≢false (sym h))
some_left (b ∷ bytes) h = omega arith

pub none_left : (bytes : List ℕ) → true ≡ (length bytes == 0) → bytes ≡ []
none_left [] h = refl
none_left (b ∷ bytes) h = absurd (true≢false (h ∙ eqb-suc-zero (length bytes)))

pub rest_now : (rest : Option (Bor (List ℕ))) (none : Bor (List ℕ)) → (unwrap_or rest none).now ≡ unwrap_or (option_copied rest) none.now
rest_now None none = refl
rest_now (Some bytes) none = refl

pub not_added : (added listed : Bool) → added ≡ not listed → added ≡ false → listed ≡ true
not_added added true h e = refl
not_added added false h e = absurd (true≢false (sym h ∙ e))

pub was_added : (added listed : Bool) → added ≡ not listed → added ≡ true → listed ≡ false
was_added added true h e = absurd (true≢false (sym e ∙ h))
was_added added false h e = refl
