-- Lemmas on lists that agree place by place.
use Rattle.std.proofs.Common.{◌≡◌, ◌≢◌, List, [], ◌∷◌, ◌++◌, length, get_or, refl, sym, ap, ◌∙◌, subst, arith, ℕ, sum_by}
use Rattle.std.proofs.lemmas.List.{get_or_default}
use Rattle.std.proofs.lemmas.List.Sums.{sum_by_push}
use Rattle.std.specs.Prelude.{All}
use Rattle.std.specs.List.{AllZip, zip}
use Rattle.std.proofs.lemmas.List.Elements.{All-head, All-tail}
use Rattle.std.proofs.Common.{◌<◌, ◌+◌, ◌⊎◌, inl, inr}
use Rattle.std.proofs.lemmas.Bool.{cases_eq}

pub zip_more : {A B : Type 0} (R : A → B → Type 0) (xs : List A) (ys : List B) (x : A) (y : B) → AllZip R xs ys → R x y → AllZip R (xs ++ x ∷ []) (ys ++ y ∷ [])
zip_more R [] [] x y all one = (one, tt)
zip_more R [] (b ∷ ys) x y all one = absurd all
zip_more R (a ∷ xs) [] x y all one = absurd all
zip_more R (a ∷ xs) (b ∷ ys) x y all one = (all.0, zip_more R xs ys x y all.1 one)

-- by way of a list between them
pub zip_through : {A B C : Type 0} (P : A → B → Type 0) (Q : B → C → Type 0) (R : A → C → Type 0) → ((x : A) (y : B) (z : C) → P x y → Q y z → R x z) → (xs : List A) (ys : List B) (zs : List C) → AllZip P xs ys → AllZip Q ys zs → AllZip R xs zs
zip_through P Q R step [] [] [] p q = tt
zip_through P Q R step [] [] (z ∷ zs) p q = absurd q
zip_through P Q R step [] (y ∷ ys) zs p q = absurd p
zip_through P Q R step (x ∷ xs) [] zs p q = absurd p
zip_through P Q R step (x ∷ xs) (y ∷ ys) [] p q = absurd q
zip_through P Q R step (x ∷ xs) (y ∷ ys) (z ∷ zs) p q = (step x y z p.0 q.0, zip_through P Q R step xs ys zs p.1 q.1)

-- .. where what lies between them is known, too
pub zip_known : {A B C : Type 0} (P : A → B → Type 0) (S : B → Type 0) (Q : B → C → Type 0) (R : A → C → Type 0) → ((x : A) (y : B) (z : C) → P x y → S y → Q y z → R x z) → (xs : List A) (ys : List B) (zs : List C) → AllZip P xs ys → All S ys → AllZip Q ys zs → AllZip R xs zs
zip_known P S Q R step [] [] [] p s q = tt
zip_known P S Q R step [] [] (z ∷ zs) p s q = absurd q
zip_known P S Q R step [] (y ∷ ys) zs p s q = absurd p
zip_known P S Q R step (x ∷ xs) [] zs p s q = absurd p
zip_known P S Q R step (x ∷ xs) (y ∷ ys) [] p s q = absurd q
zip_known P S Q R step (x ∷ xs) (y ∷ ys) (z ∷ zs) p s q = (step x y z p.0 (All-head S y ys s) q.0, zip_known P S Q R step xs ys zs p.1 (All-tail S y ys s) q.1)

pub zip_via : {A B C : Type 0} {P : A → B → Type 0} {Q : B → C → Type 0} {R : A → C → Type 0} (xs : List A) (ys : List B) (zs : List C) → AllZip P xs ys → AllZip Q ys zs → ((x : A) (y : B) (z : C) → P x y → Q y z → R x z) → AllZip R xs zs
zip_via {P = P} {Q = Q} {R = R} xs ys zs p q step = zip_through P Q R step xs ys zs p q

pub zip_known_via : {A B C : Type 0} {P : A → B → Type 0} {S : B → Type 0} {Q : B → C → Type 0} {R : A → C → Type 0} (xs : List A) (ys : List B) (zs : List C) → AllZip P xs ys → All S ys → AllZip Q ys zs → ((x : A) (y : B) (z : C) → P x y → S y → Q y z → R x z) → AllZip R xs zs
zip_known_via {P = P} {S = S} {Q = Q} {R = R} xs ys zs p s q step = zip_known P S Q R step xs ys zs p s q

pub each_below : (P : ℕ → Type 0) (n : ℕ) → ((s : ℕ) → s < n → P s) → P n → (s : ℕ) → s < n + 1 → P s
each_below P n before here s lt = by (cases_eq s n)
  where
    by : (s ≡ n) ⊎ (s ≡ n → ⊥) → P s
    by (inl same) = subst P (sym same) here
    by (inr other) = before s (let ne : s ≢ n = other in omega arith)

-- what holds at each place so far, and at the next one
pub all_more : {A : Type 0} (P : A → Type 0) (xs : List A) (i : ℕ) (x : A) → i < length xs → x ≡ get_or xs i x → P x → ((k : ℕ) (d : A) → k < i → P (get_or xs k d)) → (k : ℕ) (d : A) → k < i + 1 → P (get_or xs k d)
all_more {A = A} P xs i x lt is here before k d =
    λ less. each_below (λ j. (e : A) → P (get_or xs j e)) i (λ j under e. before j e under) (λ e. subst P (is ∙ get_or_default xs i x e lt) here) k less d

-- one more pair
pub zip_last : {A B : Type 0} (xs : List A) (ys : List B) (x : A) (y : B) → length xs ≡ length ys → zip (xs ++ x ∷ []) (ys ++ y ∷ []) ≡ zip xs ys ++ (x, y) ∷ []
zip_last [] [] x y same = refl
zip_last [] (b ∷ ys) x y same = absurd (omega arith)
zip_last (a ∷ xs) [] x y same = absurd (omega arith)
zip_last (a ∷ xs) (b ∷ ys) x y same = ap (λ ps. (a, b) ∷ ps) (zip_last xs ys x y (omega arith))

-- one more place of a list and of two lists taken together
pub zip_pair : {A B C : Type 0} (R : A → B × C → Type 0) (xs : List A) (ys : List B) (zs : List C) (x : A) (y : B) (z : C) → length ys ≡ length zs → AllZip R xs (zip ys zs) → R x (y, z) → AllZip R (xs ++ x ∷ []) (zip (ys ++ y ∷ []) (zs ++ z ∷ []))
zip_pair {B = B} {C = C} R xs ys zs x y z same all one =
    let P : List (B × C) → Type 0 = λ ps. AllZip R (xs ++ x ∷ []) ps in
    subst P (sym (zip_last ys zs y z same)) (zip_more R xs (zip ys zs) x (y, z) all one)

-- one more number
pub sum_last : {A : Type 0} (f : A → ℕ) (xs ys : List A) (x : A) → ys ≡ xs ++ x ∷ [] → sum_by f ys ≡ sum_by f xs + f x
sum_last f xs ys x is = ap (sum_by f) is ∙ sum_by_push f xs x

pub ruleset zips = (zip_more, zip_pair)
