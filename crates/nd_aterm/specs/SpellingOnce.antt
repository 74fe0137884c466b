-- That strings and lists are read in one way: a text that begins with the text of x begins with no other's.
-- No public clause cites this: it serves private clauses and proofs alone.
use Rattle.std.specs.Prelude.{◌≡◌, ℕ, ◌==◌, false, List, [], ◌∷◌, ◌++◌, refl, Option, None, Some}
use Rattle.std.proofs.Common.{ap, sym, ◌∙◌, arith}
use Rattle.std.proofs.lemmas.Bool.{eqb-false}
use Rattle.std.proofs.lemmas.Grind.{common_steps}
use Rattle.nd_aterm.specs.Spelling.{quote, comma, left_bracket, right_bracket, letter_of, spelled, character, characters, string, others, listed, list}

-- Two texts that begin a text are of one value, and leave the same rest.
abbrev pub IsOnce : {X : Type 0} → (X → List ℕ → List ℕ) → Type 0
IsOnce {X} item = (x y : X) (r s : List ℕ) → item x r ≡ item y s → (x ≡ y) × (r ≡ s)

-- No text begins as the end of a list does.
abbrev pub Opens : {X : Type 0} → (X → List ℕ → List ℕ) → Type 0
Opens {X} item = (x : X) (r s : List ℕ) → item x r ≡ right_bracket ∷ s → ⊥

-- What stands behind a text is no part of it.
abbrev pub GoesOn : {X : Type 0} → (X → List ℕ → List ℕ) → Type 0
GoesOn {X} item = (x : X) (r s : List ℕ) → item x r ++ s ≡ item x (r ++ s)

abbrev pub head_of : List ℕ → ℕ
head_of [] = 0
head_of (c ∷ cs) = c

abbrev pub tail_of : List ℕ → List ℕ
tail_of [] = []
tail_of (c ∷ cs) = cs

pub tail_is : {a b : ℕ} {r s : List ℕ} → a ∷ r ≡ b ∷ s → r ≡ s
tail_is e = ap tail_of e

-- lists that begin with different bytes are different
pub differ : (a b : ℕ) (r s : List ℕ) → (a == b) ≡ false → a ∷ r ≡ b ∷ s → ⊥
differ a b r s apart e = eqb-false a b apart (ap head_of e)

pub character_once : IsOnce character
unfolding character
character_once c d r s e = grind (arith, common_steps)

pub character_quote : (c : ℕ) (r s : List ℕ) → character c r ≡ quote ∷ s → ⊥
unfolding character
character_quote c r s e = grind (arith, common_steps)

pub characters_once : (cs ds : List ℕ) (r s : List ℕ) → characters cs (quote ∷ r) ≡ characters ds (quote ∷ s) → (cs ≡ ds) × (r ≡ s)
characters_once [] [] r s e = (refl, tail_is e)
characters_once [] (d ∷ ds) r s e = absurd (character_quote d _ r (sym e))
characters_once (c ∷ cs) [] r s e = absurd (character_quote c _ s e)
characters_once (c ∷ cs) (d ∷ ds) r s e =
    let here = character_once c d _ _ e in
    let more = characters_once cs ds r s here.1 in
    (cc (here.0, more.0), more.1)

pub string_once : IsOnce string
unfolding string
string_once cs ds r s e = characters_once cs ds r s (tail_is e)

pub string_opens : Opens string
unfolding string
string_opens cs r s e = differ quote right_bracket _ _ refl e

pub spelled-goes : (letter : Option ℕ) (c : ℕ) (r s : List ℕ) → spelled letter c r ++ s ≡ spelled letter c (r ++ s)
spelled-goes None c r s = refl
spelled-goes (Some letter) c r s = refl

pub characters-goes : (cs r s : List ℕ) → characters cs r ++ s ≡ characters cs (r ++ s)
unfolding character
characters-goes [] r s = refl
characters-goes (c ∷ cs) r s = spelled-goes (letter_of c) c _ s ∙ ap (spelled (letter_of c) c) (characters-goes cs r s)

pub string_goes : GoesOn string
unfolding string
string_goes cs r s = ap (λ t. quote ∷ t) (characters-goes cs _ s)

module _ {X : Type 0} (item : X → List ℕ → List ℕ) (once : IsOnce item) where
  pub others_once : (xs ys : List X) (r s : List ℕ) → others item xs (right_bracket ∷ r) ≡ others item ys (right_bracket ∷ s) → (xs ≡ ys) × (r ≡ s)
  others_once [] [] r s e = (refl, tail_is e)
  others_once [] (y ∷ ys) r s e = absurd (differ right_bracket comma _ _ refl e)
  others_once (x ∷ xs) [] r s e = absurd (differ comma right_bracket _ _ refl e)
  others_once (x ∷ xs) (y ∷ ys) r s e =
      let here = once x y _ _ (tail_is e) in
      let more = others_once xs ys r s here.1 in
      (cc (here.0, more.0), more.1)

  module _ (opens : Opens item) where
    pub listed_once : (xs ys : List X) (r s : List ℕ) → listed item xs (right_bracket ∷ r) ≡ listed item ys (right_bracket ∷ s) → (xs ≡ ys) × (r ≡ s)
    listed_once [] [] r s e = (refl, tail_is e)
    listed_once [] (y ∷ ys) r s e = absurd (opens y _ r (sym e))
    listed_once (x ∷ xs) [] r s e = absurd (opens x _ s e)
    listed_once (x ∷ xs) (y ∷ ys) r s e =
        let here = once x y _ _ e in
        let more = others_once xs ys r s here.1 in
        (cc (here.0, more.0), more.1)

    pub list_once : IsOnce (list item)
    unfolding list
    list_once xs ys r s e = listed_once xs ys r s (tail_is e)

pub list_opens : {X : Type 0} (item : X → List ℕ → List ℕ) → Opens (list item)
unfolding list
list_opens item xs r s e = differ left_bracket right_bracket _ _ refl e

module _ {X : Type 0} (item : X → List ℕ → List ℕ) (goes : GoesOn item) where
  pub others-goes : (xs : List X) (r s : List ℕ) → others item xs r ++ s ≡ others item xs (r ++ s)
  others-goes [] r s = refl
  others-goes (x ∷ xs) r s = ap (λ t. comma ∷ t) (goes x _ s ∙ ap (item x) (others-goes xs r s))

  pub listed-goes : (xs : List X) (r s : List ℕ) → listed item xs r ++ s ≡ listed item xs (r ++ s)
  listed-goes [] r s = refl
  listed-goes (x ∷ xs) r s = goes x _ s ∙ ap (item x) (others-goes xs r s)

  pub list_goes : GoesOn (list item)
  unfolding list
  list_goes xs r s = ap (λ t. left_bracket ∷ t) (listed-goes xs _ s)
