-- Reading a text line by line.
use Rattle.std.proofs.Common.{◌≡◌, ◌==◌, ℕ, ◌+◌, ◌-◌, ◌<◌, ◌≤◌, List, [], ◌∷◌, ◌++◌, length, take, drop, get_or, Option, Some, None, refl, sym, ap, ◌∙◌, subst, arith, zero, suc, length-drop, add-one}
use Rattle.std.specs.List.{slice_split}
use Rattle.std.specs.Option.{unwrap_or}
use Rattle.std.proofs.lemmas.List.{take_all, take_more}
use Rattle.nd_bytes.specs.Cut.{pieces, left_over}
use Rattle.nd_bytes.specs.Lines.{lines_of}
use Rattle.nd_bytes.proofs.TextLines.{lines_more, no_lines}
use Rattle.nd_script.specs.declared.line_error.LineError.{LineError}
use Rattle.nd_script.specs.declared.line_error.LineError.TheVariants.{Bad, Memory}
use Rattle.nd_script.specs.Lines.{AreItems, IsRefusedBy}
use Rattle.nd_script.specs.Faults.{RulesOut, refusal_of}
use Rattle.nd_script.proofs.Lists.{AllZip-snoc}

-- the next of the items that are left
next_at : {X : Type 0} (xs : List X) (n : ℕ) (x : X) (more : List X) (d : X) → drop n xs ≡ x ∷ more → (n < length xs) × (get_or xs n d ≡ x) × (drop (suc n) xs ≡ more)
next_at [] zero x more d h = cc
next_at [] (suc n) x more d h = cc
next_at (y ∷ xs) zero x more d h = (omega arith, cc, cc)
next_at (y ∷ xs) (suc n) x more d h = let later = next_at xs n x more d h in (omega (arith, later.0), later.1, later.2)

-- so many lines of a text have been read to these items, and this is left
pub record IsReading {X : Type 0} (Says : List ℕ → X → Type 0) (text : List ℕ) (items : List X) (left : List ℕ) (number : ℕ) : Type 0 where
  pub fits : number + length left ≤ length text
  pub read : AreItems Says (take number (lines_of text)) items
  pub rest : drop number (lines_of text) ≡ lines_of left

pub reading_begun : {X : Type 0} (Says : List ℕ → X → Type 0) (text : List ℕ) → IsReading Says text [] text 0
reading_begun Says text = record { fits = omega arith; read = record { each = tt }; rest = refl }

pub read_on : {X : Type 0} (Says : List ℕ → X → Type 0) (text : List ℕ) (items : List X) (left line : List ℕ) (rest : Option (List ℕ)) (number : ℕ) (item : X) → IsReading Says text items left number
    → 0 < length left → slice_split (λ b. b == 10) left ≡ line ∷ pieces 10 rest → left_over rest ≤ length left → Says line item
    → IsReading Says text (items ++ item ∷ []) (unwrap_or rest []) (number + 1)
read_on Says text items left line rest number item h some cut shorter read =
    let next = next_at (lines_of text) number line (lines_of (unwrap_or rest [])) [] (h.rest ∙ lines_more left line rest some cut) in
    record {
      fits = omega (arith, h.fits, left_less rest (length left) some shorter);
      read =
          let front : take (number + 1) (lines_of text) ≡ take number (lines_of text) ++ line ∷ [] =
          take_more (lines_of text) number [] next.0 ∙ ap (λ (l : List ℕ). take number (lines_of text) ++ l ∷ []) next.1 in
          rw front (record { each = AllZip-snoc Says (take number (lines_of text)) items line item h.read.each read });
      rest = rw (add-one number) next.2;
    }
  where
    left_less : (rest : Option (List ℕ)) (n : ℕ) → 0 < n → left_over rest ≤ n → suc (length (unwrap_or rest [])) ≤ n
    left_less None n some shorter = omega arith
    left_less (Some bytes) n some shorter = shorter

pub all_read : {X : Type 0} (Says : List ℕ → X → Type 0) (text : List ℕ) (items : List X) (left : List ℕ) (number : ℕ) → IsReading Says text items left number → left ≡ []
    → AreItems Says (lines_of text) items
all_read Says text items left number h empty =
    let none : drop number (lines_of text) ≡ [] = h.rest ∙ ap lines_of empty ∙ no_lines in
    let past : length (lines_of text) ≤ number = omega (arith, ap length none, length-drop number (lines_of text)) in
    subst (λ (ls : List (List ℕ)). AreItems Says ls items) (take_all number (lines_of text) past) h.read

-- a line that says nothing is the first bad one
pub refused_by : {X : Type 0} (Says : List ℕ → X → Type 0) (text : List ℕ) (items : List X) (left line : List ℕ) (rest : Option (List ℕ)) (number : ℕ) (fault : LineError)
    → IsReading Says text items left number → 0 < length left → slice_split (λ b. b == 10) left ≡ line ∷ pieces 10 rest → RulesOut (Says line) fault
    → IsRefusedBy Says text (refusal_of fault (number + 1))
refused_by Says text items left line rest number Bad h some cut none =
    let next = next_at (lines_of text) number line (lines_of (unwrap_or rest [])) [] (h.rest ∙ lines_more left line rest some cut) in
    let less : number ≡ number + 1 - 1 = omega arith in
    record {
      counted = omega arith;
      within = omega (arith, next.0);
      items = items;
      before = subst (λ (n : ℕ). AreItems Says (take n (lines_of text)) items) less h.read;
      bad = λ item is. none item
          (subst (λ (l : List ℕ). Says l item) (ap (λ (n : ℕ). get_or (lines_of text) n []) (sym less) ∙ next.1) is);
    }
refused_by Says text items left line rest number Memory h some cut none = tt
