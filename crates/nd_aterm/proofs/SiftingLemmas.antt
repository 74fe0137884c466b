-- Lemmas on lists of which not all is kept.
use Rattle.std.proofs.Common.{◌≡◌, ℕ, ◌<◌, List, [], ◌∷◌, ◌++◌, length, refl, sym, ap, ◌∙◌, arith}
use Rattle.nd_aterm.specs.Sifting.{Begins, BeginsListed, NoneListed}
use Rattle.nd_aterm.specs.Spelling.{comma, left_bracket, right_bracket, listed, list}
use Rattle.nd_aterm.specs.SpellingOnce.{IsOnce, Opens, tail_is, differ}
use Rattle.nd_aterm.proofs.ListLemmas.{listed-push, listed_end}

module _ {X : Type 0} (item : X → List ℕ → List ℕ) where
  -- one more item, behind a comma
  pub listed_more : (bytes : List ℕ) (xs : List X) (rest after next : List ℕ) (x : X) → 0 < length xs → bytes ≡ listed item xs rest → rest ≡ comma ∷ after → after ≡ item x next
      → bytes ≡ listed item (xs ++ x ∷ []) next
  listed_more bytes xs rest after next x some is comma_is more =
      is ∙ ap (listed item xs) (comma_is ∙ ap (λ (t : List ℕ). comma ∷ t) more) ∙ sym (listed-push item xs x next some)

  pub some_more : (xs : List X) (x : X) → 0 < length (xs ++ x ∷ [])
  some_more [] x = omega arith
  some_more (y ∷ ys) x = omega arith

  -- a first item
  pub begins_first : (bytes rest : List ℕ) → Begins item bytes rest → BeginsListed item bytes rest
  begins_first bytes rest first = record { whole = first.whole ∷ []; some = omega arith; spelled = first.spelled }

  -- and one more
  pub begins_more : (bytes rest after next : List ℕ) → BeginsListed item bytes rest → rest ≡ comma ∷ after → Begins item after next → BeginsListed item bytes next
  begins_more bytes rest after next so_far comma_is more = record {
    whole = so_far.whole ++ more.whole ∷ [];
    some = some_more so_far.whole more.whole;
    spelled = listed_more bytes so_far.whole rest after next more.whole so_far.some so_far.spelled comma_is more.spelled;
  }

  -- where no item comes first
  pub no_first : (bytes : List ℕ) → ((x : X) (r : List ℕ) → bytes ≡ item x r → ⊥) → NoneListed item bytes
  no_first bytes none [] rest some is = absurd (omega arith)
  no_first bytes none (x ∷ xs) rest some is = none x _ is

  -- where the brackets have nothing between them
  pub none_between : (bytes inner rest : List ℕ) → bytes ≡ left_bracket ∷ inner → inner ≡ right_bracket ∷ rest → bytes ≡ list item [] rest
  unfolding list
  none_between bytes inner rest first last = first ∙ ap (λ (t : List ℕ). left_bracket ∷ t) last

  pub some_between : (bytes inner rest : List ℕ) (xs : List X) → bytes ≡ left_bracket ∷ inner → inner ≡ listed item xs (right_bracket ∷ rest) → bytes ≡ list item xs rest
  unfolding list
  some_between bytes inner rest xs first last = first ∙ ap (λ (t : List ℕ). left_bracket ∷ t) last

  -- where there is no bracket
  pub no_bracket : (bytes : List ℕ) → ((r : List ℕ) → bytes ≡ left_bracket ∷ r → ⊥) → (xs : List X) (r : List ℕ) → bytes ≡ list item xs r → ⊥
  unfolding list
  no_bracket bytes none xs r is = none _ is

  -- where neither the closing bracket nor items stand behind it
  pub no_list : (bytes inner : List ℕ) → bytes ≡ left_bracket ∷ inner → ((r : List ℕ) → inner ≡ right_bracket ∷ r → ⊥) → NoneListed item inner → (xs : List X) (r : List ℕ) → bytes ≡ list item xs r → ⊥
  unfolding list
  no_list bytes inner first no_end none [] r is = no_end r (tail_is (sym first ∙ is))
  no_list bytes inner first no_end none (x ∷ xs) r is = none (x ∷ xs) r (omega arith) (tail_is (sym first ∙ is))

  module _ (once : IsOnce item) (opens : Opens item) where
    -- where no item stands behind a comma
    pub no_next : (bytes : List ℕ) (xs : List X) (rest after : List ℕ) → 0 < length xs → bytes ≡ listed item xs rest → rest ≡ comma ∷ after
        → ((x : X) (r : List ℕ) → after ≡ item x r → ⊥) → NoneListed item bytes
    no_next bytes xs rest after some is next none ys r more f =
        listed_end item once opens xs rest some
        (λ x t g. none x t (tail_is (sym next ∙ g)))
        (λ t g. differ comma right_bracket after t refl (sym next ∙ g))
        ys r (sym is ∙ f)

    -- where neither a comma nor the closing bracket comes next
    pub no_end : (bytes : List ℕ) (xs : List X) (rest : List ℕ) → 0 < length xs → bytes ≡ listed item xs rest
        → ((r : List ℕ) → rest ≡ comma ∷ r → ⊥) → ((r : List ℕ) → rest ≡ right_bracket ∷ r → ⊥) → NoneListed item bytes
    no_end bytes xs rest some is no_comma no_bracket ys r more f =
        listed_end item once opens xs rest some (λ x t g. no_comma _ g) no_bracket ys r (sym is ∙ f)
