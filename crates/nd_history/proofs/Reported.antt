-- Tables of paths with their references, and what builds reported.
use Rattle.std.proofs.Common.{◌≡◌, ◌⊎◌, ℕ, Bool, true, false, ◌||◌, ◌==◌, if◌then◌else◌, List, [], ◌∷◌, ◌++◌, length, eq-eqb, refl, sym, ap, subst, ◌∙◌, arith, inl, inr}
use Rattle.std.specs.List.{Contains, zip}
use Rattle.std.proofs.lemmas.Bool.{cases_eq, ne_eqb, or_cases, or_right}
use Rattle.std.proofs.lemmas.List.Folds.{list_any-append}
use Rattle.std.proofs.lemmas.List.Elements.{Contains-append_left, Contains-append_right, Contains-append_cases, Contains-push, Contains-push_cases}
use Rattle.nd_path.specs.StorePath.{path_eq}
use Rattle.nd_path.specs.SamePaths.{paths_same}
use Rattle.nd_closure.specs.Sets.{is_held}
use Rattle.nd_closure.specs.Tables.{is_listed, refs_of}
use Rattle.nd_closure.proofs.Members.{member_by_test}
use Rattle.nd_history.specs.declared.entry.Entry.{Entry}
use Rattle.nd_history.specs.declared.entry.Entry.TheVariants.{Built}
use Rattle.nd_history.specs.Premises.{Premises}
use Rattle.nd_history.specs.History.{is_built, builds}
use Rattle.nd_history.specs.Legal.{IsLegal}
use Rattle.nd_history.specs.References.{outputs_of, IsOutputOf, IsBuiltPath, reports}
use Rattle.nd_history.proofs.Legality.{rest_true}

-- ---- lists

pub nothing_in : {X : Type 0} → (x : X) → Contains [] x → ⊥
nothing_in x h = omega (arith, h.1)

pub contains_here : {X : Type 0} → (x : X) (xs : List X) → Contains (x ∷ xs) x
contains_here x xs = Contains-append_left (x ∷ []) xs x (Contains-push [] x)

pub contains_there : {X : Type 0} → (x : X) (xs : List X) (y : X) → Contains xs y → Contains (x ∷ xs) y
contains_there x xs y h = Contains-append_right (x ∷ []) xs y h

pub contains_cases : {X : Type 0} → (x : X) (xs : List X) (y : X) → Contains (x ∷ xs) y → (x ≡ y) ⊎ Contains xs y
contains_cases x xs y h = elim (Contains-append_cases (x ∷ []) xs y h) [
  | inl first ↦ (elim (Contains-push_cases [] x y first) [
    | inl none ↦ absurd (nothing_in y none)
    | inr same ↦ inl same
  ])
  | inr rest ↦ inr rest
]

-- ---- tables

skipped : (b k : Bool) (x y z : List (List ℕ)) → (b || k) ≡ false → (k ≡ false → y ≡ z) → (if b then x else y) ≡ z
skipped true k x y z h rest = cc
skipped false k x y z h rest = rest h

kept : (b k : Bool) (x y z : List (List ℕ)) → (b || k) ≡ true → (k ≡ true → y ≡ z) → (if b then x else y) ≡ (if b then x else z)
kept true k x y z h rest = refl
kept false k x y z h rest = rest h

-- in two tables behind each other a path that the first lists has its references there
pub refs_first : (xs ys : List (List ℕ × List (List ℕ))) (p : List ℕ) → is_listed xs p ≡ true → refs_of (xs ++ ys) p ≡ refs_of xs p
refs_first [] ys p h = cc
refs_first (e ∷ xs) ys p h = kept (path_eq p e.0) (is_listed xs p) e.1 (refs_of (xs ++ ys) p) (refs_of xs p) h (refs_first xs ys p)

-- .. and another path in the second
pub refs_second : (xs ys : List (List ℕ × List (List ℕ))) (p : List ℕ) → is_listed xs p ≡ false → refs_of (xs ++ ys) p ≡ refs_of ys p
refs_second [] ys p h = refl
refs_second (e ∷ xs) ys p h = skipped (path_eq p e.0) (is_listed xs p) e.1 (refs_of (xs ++ ys) p) (refs_of ys p) h (refs_second xs ys p)

-- an unlisted path has none
pub refs_unlisted : (xs : List (List ℕ × List (List ℕ))) (p : List ℕ) → is_listed xs p ≡ false → refs_of xs p ≡ []
refs_unlisted [] p h = refl
refs_unlisted (e ∷ xs) p h = skipped (path_eq p e.0) (is_listed xs p) e.1 (refs_of xs p) [] h (refs_unlisted xs p)

pub listed_both : (xs ys : List (List ℕ × List (List ℕ))) (p : List ℕ) → is_listed (xs ++ ys) p ≡ (is_listed xs p || is_listed ys p)
listed_both xs ys p = list_any-append (λ (e : List ℕ × List (List ℕ)). path_eq p e.0) xs ys

-- outputs beside as many lists of references
pub zip_lists : (outputs : List (List ℕ)) (refs : List (List (List ℕ))) (p : List ℕ) → length refs ≡ length outputs → is_listed (zip outputs refs) p ≡ is_held outputs p
zip_lists [] refs p h = refl
zip_lists (o ∷ outputs) [] p h = absurd (omega (arith, h))
zip_lists (o ∷ outputs) (r ∷ refs) p h = ap (λ (b : Bool). path_eq p o || b) (zip_lists outputs refs p (omega (arith, h)))

pub zip_outputs : (outputs : List (List ℕ)) (refs : List (List (List ℕ))) (p : List ℕ) → is_listed (zip outputs refs) p ≡ true → Contains outputs p
zip_outputs [] refs p h = cc
zip_outputs (o ∷ outputs) [] p h = cc
zip_outputs (o ∷ outputs) (r ∷ refs) p h = elim (or_cases (path_eq p o) (is_listed (zip outputs refs) p) h) [
  | inl same ↦ subst (λ (x : List ℕ). Contains (x ∷ outputs) p) (paths_same p o same) (contains_here p outputs)
  | inr later ↦ contains_there o outputs p (zip_outputs outputs refs p later)
]

-- a list of references, and a reference in it
pub record IsAmong (refs : List (List (List ℕ))) (q : List ℕ) : Type 0 where
  pub list : List (List ℕ)
  pub listed : Contains refs list
  pub there : Contains list q

pub among_later : (r : List (List ℕ)) (refs : List (List (List ℕ))) (q : List ℕ) → IsAmong refs q → IsAmong (r ∷ refs) q
among_later r refs q h = record { list = h.list; listed = contains_there r refs h.list h.listed; there = h.there }

first_or_later : (r rest : List (List ℕ)) (refs : List (List (List ℕ))) (q : List ℕ) (b : Bool) → (Contains rest q → IsAmong refs q) → Contains (if b then r else rest) q → IsAmong (r ∷ refs) q
first_or_later r rest refs q true later h = record { list = r; listed = contains_here r refs; there = h }
first_or_later r rest refs q false later h = among_later r refs q (later h)

pub zip_refs : (outputs : List (List ℕ)) (refs : List (List (List ℕ))) (p q : List ℕ) → Contains (refs_of (zip outputs refs) p) q → IsAmong refs q
zip_refs [] refs p q h = absurd (nothing_in q h)
zip_refs (o ∷ outputs) [] p q h = absurd (nothing_in q h)
zip_refs (o ∷ outputs) (r ∷ refs) p q h = first_or_later r (refs_of (zip outputs refs) p) refs q (path_eq p o) (λ later. zip_refs outputs refs p q later) h

-- ---- what builds reported

-- an output of what is built is in the reports
pub built_listed : (i : Premises) (past : List Entry) → IsLegal i past → (d : ℕ) (p : List ℕ) → is_built d past ≡ true → Contains (outputs_of i d) p → is_listed (reports i past) p ≡ true
built_listed i [] legal d p built out = cc
built_listed i (Built e refs ∷ past) legal d p built out =
    listed_both (reports i past) (zip (outputs_of i e) refs) p
    ∙ elim (cases_eq d e) [
      | inl same ↦ or_right (is_listed (reports i past) p) (is_listed (zip (outputs_of i e) refs) p)
          (zip_lists (outputs_of i e) refs p legal.0.may.right.sized ∙ (member_by_test (outputs_of i e) p).1 (subst (λ (x : ℕ). Contains (outputs_of i x) p) same out))
      | inr other ↦ ap (λ (b : Bool). b || is_listed (zip (outputs_of i e) refs) p)
          (built_listed i past legal.1 d p (rest_true (d == e) (is_built d past) (ne_eqb d e other) built) out)
    ]
built_listed i (e ∷ past) legal d p built out = built_listed i past legal.1 d p built out

pub built_on : (i : Premises) (past : List Entry) (e : Entry) (p : List ℕ) → IsBuiltPath i past p → IsBuiltPath i (e ∷ past) p
built_on i past e p h = record { drv = h.drv; built = or_right (builds h.drv e) (is_built h.drv past) h.built; output = h.output }

-- an output of the derivation that was built last
pub just_built : (i : Premises) (past : List Entry) (d : ℕ) (refs : List (List (List ℕ))) (p : List ℕ) → IsOutputOf i d p → IsBuiltPath i (Built d refs ∷ past) p
just_built i past d refs p out = record { drv = d; built = ap (λ (b : Bool). b || is_built d past) (eq-eqb d d refl); output = out }

-- what the reports list is an output of what is built
pub listed_built : (i : Premises) (past : List Entry) (p : List ℕ) → is_listed (reports i past) p ≡ true → IsBuiltPath i past p
listed_built i [] p h = cc
listed_built i (Built e refs ∷ past) p h = elim (or_cases (is_listed (reports i past) p) (is_listed (zip (outputs_of i e) refs) p) (sym (listed_both (reports i past) (zip (outputs_of i e) refs) p) ∙ h)) [
  | inl before ↦ built_on i past (Built e refs) p (listed_built i past p before)
  | inr new ↦ just_built i past e refs p (record { listed = zip_outputs (outputs_of i e) refs p new })
]
listed_built i (e ∷ past) p h = built_on i past e p (listed_built i past p h)
