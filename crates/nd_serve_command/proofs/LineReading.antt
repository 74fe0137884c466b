-- A line of a reader.
use Rattle.std.proofs.Common.{◌≡◌, ◌≢◌, ◌∙◌, ◌==◌, ℕ, Bool, true, false, List, [], ◌∷◌, ◌++◌, length, take, Option, None, Some, refl, sym, ap, subst, append_assoc, eqb-true}
use Rattle.std.proofs.lemmas.Bool.{eqb-false}
use Rattle.std.proofs.lemmas.List.Elements.{All-nil, All-cons}
use Rattle.std.specs.Prelude.{IfSome}
use Rattle.std.specs.Io.BufRead.{take_through, drop_through, DropsThrough}
use Rattle.std.specs.Io.KnownBytes.{Consumes}
use Rattle.nd_bytes.specs.Cut.{behind}
use Rattle.nd_desk.specs.Hearing.{IsPlain, IsLineHeard, line_with}
use Rattle.nd_serve_command.specs.Lines.{front, EndsAt, IsEndless}

-- ---- what stands before the first newline

take_front : (text : List ℕ) → take (length (front text)) text ≡ front text
take_front [] = refl
take_front (b ∷ text) = by (b == 10) refl (take_front text)
  where
    by : (t : Bool) → (b == 10) ≡ t → take (length (front text)) text ≡ front text → take (length (front (b ∷ text))) (b ∷ text) ≡ front (b ∷ text)
    by true e later = rw e refl
    by false e later = rw e (ap (λ (l : List ℕ). b ∷ l) later)

front_through : (text : List ℕ) → front (take_through 10 text) ≡ front text
front_through [] = refl
front_through (b ∷ text) = by (b == 10) refl (front_through text)
  where
    by : (t : Bool) → (b == 10) ≡ t → front (take_through 10 text) ≡ front text → front (take_through 10 (b ∷ text)) ≡ front (b ∷ text)
    by true e later = rw (e, e) refl
    by false e later = rw (e, e) (ap (λ (l : List ℕ). b ∷ l) later)

front_plain : (text : List ℕ) → IsPlain (front text)
front_plain [] = All-nil (λ b. b ≢ 10)
front_plain (b ∷ text) = by (b == 10) refl (front_plain text)
  where
    by : (t : Bool) → (b == 10) ≡ t → IsPlain (front text) → IsPlain (front (b ∷ text))
    by true e later = rw e (All-nil (λ c. c ≢ 10))
    by false e later = rw e (All-cons (λ c. c ≢ 10) b (front text) (eqb-false b 10 e) later)

-- what isn't a newline is passed
passed : (b : ℕ) (text : List ℕ) → (b == 10) ≡ false → behind (λ c. c == 10) (take_through 10 (b ∷ text)) ≡ behind (λ c. c == 10) (take_through 10 text)
passed b text is = rw (is, is) refl

-- .. and what is one is found
found : (b : ℕ) (text : List ℕ) → (b == 10) ≡ true → behind (λ c. c == 10) (take_through 10 (b ∷ text)) ≡ Some []
found b text is = rw (is, is) refl

-- a text with a newline is what stands before it, the newline, and what stands behind it
split_there : (text more : List ℕ) → behind (λ b. b == 10) (take_through 10 text) ≡ Some more → text ≡ front text ++ 10 ∷ drop_through 10 text
split_there [] more newline = cc
split_there (b ∷ text) more newline = by (b == 10) refl (split_there text more)
  where
    by : (t : Bool) → (b == 10) ≡ t → (behind (λ c. c == 10) (take_through 10 text) ≡ Some more → text ≡ front text ++ 10 ∷ drop_through 10 text)
        → b ∷ text ≡ front (b ∷ text) ++ 10 ∷ drop_through 10 (b ∷ text)
    by true e later = rw e (ap (λ (c : ℕ). c ∷ text) (eqb-true b 10 e))
    by false e later = rw e (ap (λ (l : List ℕ). b ∷ l) (later (sym (passed b text e) ∙ newline)))

-- .. and one without any is plain
plain_there : (text : List ℕ) → behind (λ b. b == 10) (take_through 10 text) ≡ None → IsPlain text
plain_there [] none = All-nil (λ b. b ≢ 10)
plain_there (b ∷ text) none = by (b == 10) refl (plain_there text)
  where
    by : (t : Bool) → (b == 10) ≡ t → (behind (λ c. c == 10) (take_through 10 text) ≡ None → IsPlain text) → IsPlain (b ∷ text)
    by true e later = let some = found b text e in cc
    by false e later = All-cons (λ c. c ≢ 10) b text (eqb-false b 10 e) (later (sym (passed b text e) ∙ none))

-- ---- a reader's line

-- what was read up to the first newline, and what is left behind that
pub line_heard : (old new : Option (List ℕ)) (before bytes : List ℕ) (n : ℕ) → before ≡ [] → IfSome old (λ xs. bytes ≡ before ++ take_through 10 xs) → DropsThrough old new 10 → EndsAt bytes n
    → IsLineHeard old new (Some (take n bytes))
line_heard None new before bytes n none is rest ends = tt
line_heard (Some text) new before bytes n none is rest ends =
    let read : bytes ≡ take_through 10 text = is ∙ ap (λ (l : List ℕ). l ++ take_through 10 text) none in
    let line : take n bytes ≡ front text = ap (λ (k : ℕ). take k bytes) ends.at ∙ take_front bytes ∙ ap front read ∙ front_through text in
    let whole : text ≡ front text ++ 10 ∷ drop_through 10 text =
    split_there text ends.more (ap (behind (λ b. b == 10)) (sym read) ∙ ends.newline) in
    subst (λ (l : List ℕ). IsLineHeard (Some text) new (Some l)) (sym line)
    (record {
      plain = front_plain text;
      read =
          subst (λ (left : Option (List ℕ)). Consumes (Some text) left (line_with (front text))) (sym rest)
          (whole ∙ sym (append_assoc (front text) (10 ∷ []) (drop_through 10 text)));
    })

-- there was no newline
pub none_heard : (old new : Option (List ℕ)) (before bytes text : List ℕ) → IfSome old (λ xs. bytes ≡ before ++ take_through 10 xs) → IsEndless text → text ≡ bytes → before ≡ []
    → IsLineHeard old new None
none_heard None new before bytes text is endless same none = tt
none_heard (Some left) new before bytes text is endless same none =
    let read : text ≡ take_through 10 left = same ∙ is ∙ ap (λ (l : List ℕ). l ++ take_through 10 left) none in
    record { plain = plain_there left (ap (behind (λ b. b == 10)) (sym read) ∙ endless.none) }

-- where the first newline stands
pub ends_there : (text before : List ℕ) (rest : Option (List ℕ)) (more : List ℕ) → before ≡ front text → rest ≡ behind (λ b. b == 10) text → rest ≡ Some more → EndsAt text (length before)
ends_there text before rest more one other there = record { at = ap length one; more = more; newline = sym other ∙ there }

pub ruleset readings = (line_heard, none_heard)
