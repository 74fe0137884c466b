-- Needs with the same platform and the same required features are of one class.
use Rattle.std.proofs.Common.{◌≡◌, ◌<◌, ◌+◌, ℕ, zero, suc, Bool, List, [], ◌∷◌, ◌++◌, length, get_or, take, Some, slice_get, append-nil, refl, sym, ap, subst, ◌∙◌, arith}
use Rattle.std.specs.Borrow.{Bor}
use Rattle.std.specs.List.{All, AllZip}
use Rattle.std.specs.Bool.{Decides, IsTrue}
use Rattle.std.proofs.lemmas.Slice.Eq.{slice_eq-Decides}
use Rattle.std.proofs.lemmas.Bool.Decides.{Decides-eqb}
use Rattle.std.proofs.lemmas.List.{get_or_default}
use Rattle.std.proofs.lemmas.Option.{slice_get_read, slice_get_within, get_or_from_slice_get}
use Rattle.nd_bytes.specs.Compared.{bytes_eq}
use Rattle.nd_machines.specs.FeatureSets.{sets_eq, sets_eq-Decides}
use Rattle.nd_eligible.specs.declared.need.Need.{Need}
use Rattle.nd_cli.specs.SharedClasses.{IsSameClass, IsOfClass, MeetsClass, MeetsNeed, IsMade}
use Rattle.nd_cli.proofs.Replying.{zip_more}

pub same_text : (xs ys : List ℕ) (r : Bool) → r ≡ bytes_eq xs ys → IsTrue r → xs ≡ ys
same_text xs ys r is = (slice_eq-Decides Decides-eqb xs ys r is).0

pub same_set : (xs ys : List (List ℕ)) (r : Bool) → r ≡ sets_eq xs ys → IsTrue r → xs ≡ ys
same_set xs ys r is = let P : Bool → Type 0 = λ x. Decides x (xs ≡ ys) in (subst P (sym is) (sets_eq-Decides xs ys)).0

-- what stands in a list stands in a longer one
stands : {X : Type 0} (old more : List X) (i : ℕ) (x : X) → slice_get old i ≡ Some x → slice_get (old ++ more) i ≡ Some x
stands [] more i x is = let none = slice_get_within [] i x is in absurd (omega (arith, none))
stands (y ∷ old) more zero x is = is
stands (y ∷ old) more (suc i) x is = stands old more i x is

-- a need that is of a class by its first one
pub of_class : (firsts : List (Bor Need)) (class : ℕ) (need : Need) (first : Bor Need) → class < length firsts → first ≡ get_or firsts class first → IsSameClass first.now need → IsOfClass firsts need class
of_class firsts class need first within is same = record { first = first; listed = slice_get_read firsts (length firsts) class first refl within is; same = same }

-- the class was known
pub meets_known : (firsts : List (Bor Need)) (class : ℕ) (need : Need) → IsOfClass firsts need class → MeetsNeed need firsts firsts class
meets_known firsts class need of = record { more = []; grown = sym (append-nil firsts); is = of }

-- the class is that of a derivation
pub meets_at : (needs : List Need) (d : ℕ) (old new : List (Bor Need)) (class : ℕ) (need : Need) → d < length needs → need ≡ get_or needs d need → MeetsNeed need old new class → MeetsClass needs d old new class
meets_at needs d old new class need within is meets =
    record { more = meets.more; grown = meets.grown; need = need; here = slice_get_read needs (length needs) d need refl within is; is = meets.is }

-- a class stays what it is while others are met
longer : (old new more : List (Bor Need)) → new ≡ old ++ more → (need : Need) (class : ℕ) → IsOfClass old need class → IsOfClass new need class
longer old new more grown need class at =
    record { first = at.first; listed = ap (λ (fs : List (Bor Need)). slice_get fs class) grown ∙ stands old more class at.first at.listed; same = at.same }

weaker : {A B : Type 0} (R S : A → B → Type 0) → ((x : A) (y : B) → R x y → S x y) → (xs : List A) (ys : List B) → AllZip R xs ys → AllZip S xs ys
weaker R S so [] [] each = tt
weaker R S so [] (y ∷ ys) each = absurd each
weaker R S so (x ∷ xs) [] each = absurd each
weaker R S so (x ∷ xs) (y ∷ ys) each = (so x y each.0, weaker R S so xs ys each.1)

of_more : (old new more : List (Bor Need)) → new ≡ old ++ more → (needs : List Need) (members : List ℕ) → AllZip (IsOfClass old) needs members → AllZip (IsOfClass new) needs members
of_more old new more grown needs members each = weaker (IsOfClass old) (IsOfClass new) (longer old new more grown) needs members each

-- one more derivation
pub one_met : (needs : List Need) (d : ℕ) (old new : List (Bor Need)) (members more : List ℕ) (class : ℕ) → AllZip (IsOfClass old) (take d needs) members → MeetsClass needs d old new class → more ≡ members ++ class ∷ []
    → AllZip (IsOfClass new) (take (d + 1) needs) more
one_met needs d old new members more class each meets grown =
    let here = get_or_from_slice_get needs d meets.need meets.need meets.here in
    zip_more (IsOfClass new) needs members more d meets.need class (slice_get_within needs d meets.need meets.here) (sym here)
    (of_more old new meets.more meets.grown (take d needs) members each) meets.is grown

-- a derivation's class is one of those that are numbered
pub below : (firsts : List (Bor Need)) (count : ℕ) (needs : List Need) (members : List ℕ) → length firsts ≡ count → AllZip (IsOfClass firsts) needs members → (k d : ℕ) → k < length members → get_or members k d < count
below firsts count needs [] is of k d within = absurd (omega arith)
below firsts count [] (class ∷ members) is of k d within = absurd of
below firsts count (need ∷ needs) (class ∷ members) is of zero d within =
    let first = of.0 in
    let there = slice_get_within firsts class first.first first.listed in omega (arith, is, there)
below firsts count (need ∷ needs) (class ∷ members) is of (suc k) d within = below firsts count needs members is of.1 k d (omega (arith, within))

-- what was looked up for one derivation more
pub one_made : {X : Type 0} (made : List X) (members : List ℕ) (old new : List X) (n d : ℕ) (it : X) → n < length members → All (λ class. class < length made) members → AllZip (IsMade made) (take n members) old
    → it ≡ get_or made (get_or members n d) it → new ≡ old ++ it ∷ [] → AllZip (IsMade made) (take (n + 1) members) new
one_made made members old new n d it here there each is grown =
    let class = get_or members n d in
    let within : class < length made = there n d here in
    zip_more (IsMade made) members old new n class it here (get_or_default members n d class here) each (record { is = slice_get_read made (length made) class it refl within is }) grown
