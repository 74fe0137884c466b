-- Lemmas on the spelling of lists.
use Rattle.std.proofs.Common.{◌≡◌, ℕ, ◌<◌, List, [], ◌∷◌, ◌++◌, length, refl, sym, ap, ◌∙◌, arith}
use Rattle.nd_aterm.specs.declared.fault.AtermError.{AtermError}
use Rattle.nd_aterm.specs.Refusals.{Refuses}
use Rattle.nd_aterm.proofs.RefusalLemmas.{Refuses-weaker}
use Rattle.nd_aterm.specs.Spelling.{comma, right_bracket, others, listed}
use Rattle.nd_aterm.specs.SpellingOnce.{IsOnce, Opens, tail_is, differ}

module _ {X : Type 0} (item : X → List ℕ → List ℕ) where
  pub others-push : (xs : List X) (x : X) (rest : List ℕ) → others item (xs ++ x ∷ []) rest ≡ others item xs (comma ∷ item x rest)
  others-push [] x rest = refl
  others-push (y ∷ ys) x rest = ap (λ t. comma ∷ item y t) (others-push ys x rest)

  pub listed-push : (xs : List X) (x : X) (rest : List ℕ) → 0 < length xs → listed item (xs ++ x ∷ []) rest ≡ listed item xs (comma ∷ item x rest)
  listed-push [] x rest some = absurd (omega arith)
  listed-push (y ∷ ys) x rest some = ap (item y) (others-push ys x rest)

  module _ (once : IsOnce item) where
    -- Where neither a comma with an item nor the end comes next, what is read so far goes on to no list.
    pub others_end : (xs : List X) (rest : List ℕ) → ((x : X) (r : List ℕ) → rest ≡ comma ∷ item x r → ⊥) → ((r : List ℕ) → rest ≡ right_bracket ∷ r → ⊥)
        → (ys : List X) (r : List ℕ) → others item xs rest ≡ others item ys (right_bracket ∷ r) → ⊥
    others_end [] rest no_item no_end [] r e = no_end r e
    others_end [] rest no_item no_end (y ∷ ys) r e = no_item y _ e
    others_end (x ∷ xs) rest no_item no_end [] r e = differ comma right_bracket _ _ refl e
    others_end (x ∷ xs) rest no_item no_end (y ∷ ys) r e = others_end xs rest no_item no_end ys r (once x y _ _ (tail_is e)).1

    pub listed_end : Opens item → (xs : List X) (rest : List ℕ) → 0 < length xs → ((x : X) (r : List ℕ) → rest ≡ comma ∷ item x r → ⊥) → ((r : List ℕ) → rest ≡ right_bracket ∷ r → ⊥)
        → (ys : List X) (r : List ℕ) → listed item xs rest ≡ listed item ys (right_bracket ∷ r) → ⊥
    listed_end opens [] rest some no_item no_end ys r e = absurd (omega arith)
    listed_end opens (x ∷ xs) rest some no_item no_end [] r e = opens x _ r e
    listed_end opens (x ∷ xs) rest some no_item no_end (y ∷ ys) r e = others_end xs rest no_item no_end ys r (once x y _ _ e).1

    -- Where no item follows the comma, there is no such list.
    pub listed_refused : Opens item → (e : AtermError) (text : List ℕ) (xs : List X) (rest after : List ℕ) → text ≡ listed item xs rest → 0 < length xs → rest ≡ comma ∷ after
        → Refuses e ((x : X) (r : List ℕ) → after ≡ item x r → ⊥) → Refuses e ((ys : List X) (r : List ℕ) → text ≡ listed item ys (right_bracket ∷ r) → ⊥)
    listed_refused opens e text xs rest after is some next =
        Refuses-weaker e
        ((x : X) (r : List ℕ) → after ≡ item x r → ⊥)
        ((ys : List X) (r : List ℕ) → text ≡ listed item ys (right_bracket ∷ r) → ⊥)
        (
        λ none ys r f.
        listed_end opens xs rest some
        (λ x t g. none x t (tail_is (sym next ∙ g)))
        (λ t g. differ comma right_bracket after t refl (sym next ∙ g))
        ys r (sym is ∙ f)
        )
