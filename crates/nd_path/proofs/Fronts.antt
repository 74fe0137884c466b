-- Lists of bytes stand in the order of the numbers that their first eight bytes spell.
use Rattle.std.proofs.Common.{◌≡◌, ℕ, ◌+◌, ◌*◌, ◌<◌, ◌≤◌, List, [], ◌∷◌, ◌++◌, length, get_or, drop, refl, sym, ap, subst, ◌∙◌, arith}
use Rattle.std.specs.declared.cmp.Ordering.TheVariants.{Less, Equal, Greater}
use Rattle.std.specs.declared.cmp.Ordering.{Ordering}
use Rattle.std.specs.Ordering.{nat_cmp, ordering_then, ordering_reverse, MatchOrdering}
use Rattle.std.specs.Cmp.{ranks}
use Rattle.std.specs.Cmp.Lexicographic.{nat_list_cmp_total}
use Rattle.nd_path.specs.StorePath.{path_cmp}
use Rattle.nd_path.specs.Fronts.{AreBytes, number_behind, IsFrontOf}

-- the lesser of two numbers stays so, whatever bytes come behind
rises : (a b : ℕ) (xs ys : List ℕ) → length xs ≡ length ys → AreBytes xs → a < b → number_behind a xs < number_behind b ys
rises a b [] [] same small less = less
rises a b [] (y ∷ ys) same small less = absurd (omega arith)
rises a b (x ∷ xs) [] same small less = absurd (omega arith)
rises a b (x ∷ xs) (y ∷ ys) same small less =
    let byte : x < 256 = small.0 in
    rises (a * 256 + x) (b * 256 + y) xs ys (omega arith) small.1 (omega arith)

-- the lesser number is that of the lesser bytes
less_front : (a : ℕ) (xs ys more others : List ℕ) → length xs ≡ length ys → AreBytes xs → AreBytes ys
    → number_behind a xs < number_behind a ys → path_cmp (xs ++ more) (ys ++ others) ≡ Less
less_front a [] [] more others same small smalls less = absurd (omega arith)
less_front a [] (y ∷ ys) more others same small smalls less = absurd (omega arith)
less_front a (x ∷ xs) [] more others same small smalls less = absurd (omega arith)
less_front a (x ∷ xs) (y ∷ ys) more others same small smalls less = by (nat_cmp x y) refl (ranks x y)
    (λ behind. less_front (a * 256 + x) xs ys more others (omega arith) small.1 smalls.1 behind)
  where
    by : (o : Ordering) → nat_cmp x y ≡ o → MatchOrdering o (x < y) (x ≡ y) (y < x)
        → (number_behind (a * 256 + x) xs < number_behind (a * 256 + x) ys → path_cmp (xs ++ more) (ys ++ others) ≡ Less)
        → path_cmp (x ∷ (xs ++ more)) (y ∷ (ys ++ others)) ≡ Less
    by Less is ranked later = ap (λ (o : Ordering). ordering_then o (path_cmp (xs ++ more) (ys ++ others))) is
    by Equal is ranked later =
        let equal : x ≡ y = ranked in
        let behind : number_behind (a * 256 + x) xs < number_behind (a * 256 + x) ys =
        subst (λ (b : ℕ). number_behind (a * 256 + x) xs < number_behind (a * 256 + b) ys) (sym equal) less in
        ap (λ (o : Ordering). ordering_then o (path_cmp (xs ++ more) (ys ++ others))) is ∙ later behind
    by Greater is ranked later =
        let over : y < x = ranked in
        let turned = rises (a * 256 + y) (a * 256 + x) ys xs (omega arith) smalls.1 (omega arith) in
        absurd (omega arith)

less_by_front : (xs ys : List ℕ) (x y : ℕ) → IsFrontOf xs x → IsFrontOf ys y → x < y → path_cmp xs ys ≡ Less
less_by_front xs ys x y one other less =
    let spelled : number_behind 0 one.front < number_behind 0 other.front = omega arith in
    rw (one.text, other.text) (less_front 0 one.front other.front one.rest other.rest (one.size ∙ sym other.size) one.small other.small spelled)

-- unequal fronts tell the order
pub unequal_by_front : (xs ys : List ℕ) (x y : ℕ) (o : Ordering) → IsFrontOf xs x → IsFrontOf ys y → o ≡ nat_cmp x y → (o ≡ Equal → ⊥) → o ≡ path_cmp xs ys
unequal_by_front xs ys x y o one other is unequal = is ∙ by (nat_cmp x y) refl (ranks x y)
  where
    by : (r : Ordering) → nat_cmp x y ≡ r → MatchOrdering r (x < y) (x ≡ y) (y < x) → r ≡ path_cmp xs ys
    by Less is_r less = sym (less_by_front xs ys x y one other less)
    by Equal is_r level = absurd (unequal (is ∙ is_r))
    by Greater is_r greater = sym (nat_list_cmp_total.antisymm xs ys ∙ ap ordering_reverse (less_by_front ys xs y x other one greater))

-- the first eight of a list, and the rest
pub eight_and_rest : (xs : List ℕ) → 8 ≤ length xs
    → xs ≡ (get_or xs 0 0 ∷ get_or xs 1 0 ∷ get_or xs 2 0 ∷ get_or xs 3 0 ∷ get_or xs 4 0 ∷ get_or xs 5 0 ∷ get_or xs 6 0 ∷ get_or xs 7 0 ∷ []) ++ drop 8 xs
eight_and_rest [] long = absurd (omega arith)
eight_and_rest (a ∷ []) long = absurd (omega arith)
eight_and_rest (a ∷ b ∷ []) long = absurd (omega arith)
eight_and_rest (a ∷ b ∷ c ∷ []) long = absurd (omega arith)
eight_and_rest (a ∷ b ∷ c ∷ d ∷ []) long = absurd (omega arith)
eight_and_rest (a ∷ b ∷ c ∷ d ∷ e ∷ []) long = absurd (omega arith)
eight_and_rest (a ∷ b ∷ c ∷ d ∷ e ∷ f ∷ []) long = absurd (omega arith)
eight_and_rest (a ∷ b ∷ c ∷ d ∷ e ∷ f ∷ g ∷ []) long = absurd (omega arith)
eight_and_rest (a ∷ b ∷ c ∷ d ∷ e ∷ f ∷ g ∷ h ∷ xs) long = refl
