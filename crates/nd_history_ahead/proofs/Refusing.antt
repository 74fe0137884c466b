-- What refuses a piece of a text refuses the text.
use Rattle.std.proofs.Common.{◌≡◌, ◌∙◌, ◌==◌, ℕ, ◌+◌, ◌-◌, ◌<◌, Bool, true, false, List, [], ◌∷◌, ◌++◌, length, take, drop, take-append-drop, refl, sym, ap, subst, arith, append_assoc, append-nil, length-append, None, Some}
use Rattle.std.proofs.Math.Seq.{take-append_seam}
use Rattle.std.specs.List.{All, flat_map}
use Rattle.std.proofs.lemmas.Grind.{flat_map-append}
use Rattle.std.proofs.lemmas.List.{append_cancel_right}
use Rattle.std.proofs.lemmas.List.Elements.{All-append}
use Rattle.nd_bytes.specs.Cut.{behind, until}
use Rattle.nd_history.specs.declared.entry.Entry.{Entry}
use Rattle.nd_history_text.specs.HistoryTexts.{line_of, first_line}
use Rattle.nd_history_text.specs.Sound.{IsTold, IsHistoryText, IsFirstBad, IsRefused}
use Rattle.nd_history_text.specs.declared.history_error.HistoryError.{HistoryError}
use Rattle.nd_history_text.specs.declared.history_error.HistoryError.TheVariants.{Version as NoVersion, BadLine, Memory}
use Rattle.nd_history_text.specs.declared.kinds.Version.{Version}
use Rattle.nd_history_text.proofs.Plain.{line_behind, parted}
use Rattle.nd_history_text.proofs.Texts.{no_version, no_history}
use Rattle.nd_history_ahead.specs.Ahead.{GoesOn, IsEnded, IsEndedBefore, IsMoved, IsReadFrom, moved_by}
use Rattle.nd_history_ahead.specs.declared.reading.Progress.{Progress}
use Rattle.nd_history_ahead.specs.declared.reading.Progress.TheVariants.{Whole, Refused, Stopped}
use Rattle.nd_history_ahead.proofs.Joined.{first_taken, first_dropped, one_version, opens}

-- ---- newlines

some_same : (xs ys : List ℕ) → Some xs ≡ Some ys → xs ≡ ys
some_same xs ys h = cc

-- what stands behind the first newline, where more stands behind the text
behind_more : (xs rest more : List ℕ) → behind (λ b. b == 10) xs ≡ Some rest → behind (λ b. b == 10) (xs ++ more) ≡ Some (rest ++ more)
behind_more [] rest more h = let none : None ≡ Some rest = h in cc
behind_more (b ∷ xs) rest more h = by (behind_more xs rest more) (b == 10) refl
  where
    by : (behind (λ c. c == 10) xs ≡ Some rest → behind (λ c. c == 10) (xs ++ more) ≡ Some (rest ++ more)) → (t : Bool) → (b == 10) ≡ t
        → behind (λ c. c == 10) (b ∷ (xs ++ more)) ≡ Some (rest ++ more)
    by later true e = let here : Some xs ≡ Some rest = rw e at h in rw e (ap (λ (ys : List ℕ). Some (ys ++ more)) (some_same xs rest here))
    by later false e = let there : behind (λ c. c == 10) xs ≡ Some rest = rw e at h in rw e (later there)

-- something stands behind the first newline of what ends with one
newline_in : (xs : List ℕ) → (rest : List ℕ) × (behind (λ b. b == 10) (xs ++ 10 ∷ []) ≡ Some rest)
newline_in [] = ([], refl)
newline_in (b ∷ xs) = by (newline_in xs) (b == 10) refl
  where
    by : (rest : List ℕ) × (behind (λ c. c == 10) (xs ++ 10 ∷ []) ≡ Some rest) → (t : Bool) → (b == 10) ≡ t
        → (rest : List ℕ) × (behind (λ c. c == 10) (b ∷ (xs ++ 10 ∷ [])) ≡ Some rest)
    by later true e = (xs ++ 10 ∷ [], rw e refl)
    by later false e = (later.0, rw e later.1)

-- the end of a text that ends with a newline
end_ended : (xs ys zs : List ℕ) → xs ++ ys ≡ zs ++ 10 ∷ [] → 0 < length ys → IsEnded ys
end_ended [] ys zs h some = record { front = zs; parts = h }
end_ended (x ∷ xs) ys [] h some =
    let none : length (xs ++ ys) ≡ 0 = ap (λ (l : List ℕ). length (drop 1 l)) h in absurd (omega (arith, some, none, length-append xs ys))
end_ended (x ∷ xs) ys (z ∷ zs) h some = end_ended xs ys zs (ap (drop 1) h) some

-- what stands before a rest that stands behind a newline
pub front_ended : (text rest : List ℕ) (least : ℕ) → behind (λ b. b == 10) (drop least text) ≡ Some rest → IsEnded (take (length text - length rest) text)
front_ended text rest least is =
    let line : List ℕ = until (λ b. b == 10) (drop least text) in
    let front : List ℕ = take least text ++ line in
    let parts : text ≡ (front ++ 10 ∷ []) ++ rest =
    sym (take-append-drop least text) ∙ ap (λ (l : List ℕ). take least text ++ l) (parted (drop least text) rest is) ∙ sym (append_assoc (take least text) line (10 ∷ rest))
    ∙ sym (append_assoc front (10 ∷ []) rest) in
    let long : length text ≡ length (front ++ 10 ∷ []) + length rest = ap (λ (l : List ℕ). length l) parts ∙ length-append (front ++ 10 ∷ []) rest in
    let at : length text - length rest ≡ length (front ++ 10 ∷ []) = omega arith in
    record {
      front = front;
      parts = ap (λ (n : ℕ). take n text) at ∙ ap (take (length (front ++ 10 ∷ []))) parts ∙ take-append_seam (front ++ 10 ∷ []) rest;
    }

pub ended_before : (bytes more : List ℕ) → IsEnded bytes → IsEndedBefore bytes more
ended_before bytes [] ended = tt
ended_before bytes (byte ∷ more) ended = ended

-- ---- bad lines

-- what begins with no entry's line, and ends with a newline, doesn't with more behind it
still_bad : (version : Version) (rest more : List ℕ) → IsEnded rest → ((e : Entry) (after : List ℕ) → IsTold version e → rest ≡ line_of e ++ after → ⊥)
    → (e : Entry) (after : List ℕ) → IsTold version e → rest ++ more ≡ line_of e ++ after → ⊥
still_bad version rest more ended bad e after told whole =
    let found = newline_in ended.front in
    let here : behind (λ b. b == 10) rest ≡ Some found.0 = ap (behind (λ b. b == 10)) ended.parts ∙ found.1 in
    let both : Some (found.0 ++ more) ≡ Some after = sym (behind_more rest found.0 more here) ∙ ap (behind (λ b. b == 10)) whole ∙ line_behind e after told.sound in
    let split : rest ++ more ≡ (line_of e ++ found.0) ++ more =
    whole ∙ ap (λ (l : List ℕ). line_of e ++ l) (sym (some_same (found.0 ++ more) after both)) ∙ sym (append_assoc (line_of e) found.0 more) in
    bad e found.0 told (append_cancel_right rest (line_of e ++ found.0) more split)

bad_before : (version : Version) (piece front rest more : List ℕ) → piece ≡ front ++ rest → 0 < length rest → IsEndedBefore piece more
    → ((e : Entry) (after : List ℕ) → IsTold version e → rest ≡ line_of e ++ after → ⊥) → (e : Entry) (after : List ℕ) → IsTold version e → rest ++ more ≡ line_of e ++ after → ⊥
bad_before version piece front rest [] parts some ended bad e after told whole = bad e after told (sym (append-nil rest) ∙ whole)
bad_before version piece front rest (byte ∷ more) parts some ended bad e after told whole =
    still_bad version rest (byte ∷ more) (end_ended front rest ended.front (sym parts ∙ ended.parts) some) bad e after told whole

-- the first bad line of a piece, behind the text that was read before it
bad_behind : (done first piece more : List ℕ) (entries : List Entry) (number : ℕ) → take 23 done ≡ first → IsHistoryText done entries → IsEndedBefore piece more → IsFirstBad (first ++ piece) number
    → IsFirstBad (done ++ (piece ++ more)) (number + length entries)
bad_behind done first piece more entries number begins reads ended h =
    let v : Version = reads.version in
    let w : Version = h.version in
    let lines : List ℕ = flat_map line_of h.before in
    let whole : first_line v ++ piece ≡ first_line w ++ (lines ++ h.rest) =
    ap (λ (l : List ℕ). l ++ piece) (sym (opens done first entries begins reads)) ∙ h.whole ∙ append_assoc (first_line w) lines h.rest in
    let same : first_line v ≡ first_line w = sym (first_taken v piece) ∙ ap (take 23) whole ∙ first_taken w (lines ++ h.rest) in
    let version : w ≡ v = one_version w v (sym same) in
    let parts : piece ≡ lines ++ h.rest = sym (first_dropped v piece) ∙ ap (drop 23) whole ∙ first_dropped w (lines ++ h.rest) in
    let bad : (e : Entry) (after : List ℕ) → IsTold v e → h.rest ≡ line_of e ++ after → ⊥ =
    subst (λ (u : Version). (e : Entry) (after : List ℕ) → IsTold u e → h.rest ≡ line_of e ++ after → ⊥) version h.bad in
    record {
      version = v;
      before = entries ++ h.before;
      rest = h.rest ++ more;
      told = All-append (IsTold v) entries h.before reads.told (subst (λ (u : Version). All (IsTold u) h.before) version h.told);
      whole =
          ap (λ (l : List ℕ). l ++ (piece ++ more)) reads.text
          ∙ append_assoc (first_line v) (flat_map line_of entries) (piece ++ more)
          ∙ ap (λ (l : List ℕ). first_line v ++ l)
          (ap (λ (l : List ℕ). flat_map line_of entries ++ (l ++ more)) parts
          ∙ ap (λ (l : List ℕ). flat_map line_of entries ++ l) (append_assoc lines h.rest more)
          ∙ sym (append_assoc (flat_map line_of entries) lines (h.rest ++ more))
          ∙ ap (λ (l : List ℕ). l ++ (h.rest ++ more)) (sym (flat_map-append line_of entries h.before)))
          ∙ sym (append_assoc (first_line v) (flat_map line_of (entries ++ h.before)) (h.rest ++ more));
      place = omega (arith, h.place, length-append entries h.before);
      more = omega (arith, h.more, length-append h.rest more);
      bad = bad_before v piece lines h.rest more parts h.more ended bad;
    }

refused_behind : (done first piece more : List ℕ) (entries : List Entry) (fault : HistoryError) → take 23 done ≡ first → IsHistoryText done entries → IsEndedBefore piece more
    → IsRefused (first ++ piece) fault → IsRefused (done ++ (piece ++ more)) (moved_by (length entries) fault)
refused_behind done first piece more entries NoVersion begins reads ended h =
    absurd (h reads.version piece (ap (λ (l : List ℕ). l ++ piece) (opens done first entries begins reads)))
refused_behind done first piece more entries (BadLine number) begins reads ended h = bad_behind done first piece more entries number begins reads ended h
refused_behind done first piece more entries Memory begins reads ended h = tt

pub ends_refused : (first lines rest piece behind : List ℕ) (before entries : List Entry) (fault : HistoryError) (read : Progress) → GoesOn first lines before rest entries → rest ≡ piece ++ behind
    → IsEndedBefore piece behind → IsRefused (first ++ piece) fault → IsMoved fault (length entries) read → IsReadFrom first lines before read
ends_refused first lines rest piece behind before entries fault (Whole others) so parts ended refused moved = absurd moved
ends_refused first lines rest piece behind before entries fault (Refused other) so parts ended refused moved = record {
  reads = λ text h.
      let here = so.goes text h in
      let whole : text ≡ here.done ++ (piece ++ behind) = here.parts ∙ ap (λ (l : List ℕ). here.done ++ l) parts in
      rw whole (subst (IsRefused (here.done ++ (piece ++ behind))) (sym moved) (refused_behind here.done first piece behind entries fault here.begins here.reads ended refused));
}
ends_refused first lines rest piece behind before entries fault Stopped so parts ended refused moved = record { reads = λ text h. tt }

-- ---- a history's text is refused for nothing

pub memory_alone : (text : List ℕ) (fault : HistoryError) → IsRefused text fault → (entries : List Entry) → IsHistoryText text entries → fault ≡ Memory
memory_alone text NoVersion refused entries is = absurd (no_version text entries refused is)
memory_alone text (BadLine number) refused entries is = absurd (no_history text number entries refused is)
memory_alone text Memory refused entries is = refl
