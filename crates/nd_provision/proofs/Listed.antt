-- The numbers of paths, as their listings hold them.
use Rattle.std.proofs.Common.{◌≡◌, ℕ, ◌<◌, ◌==◌, if◌then◌else◌, Bool, true, false, List, [], ◌∷◌, length, get_or, map, zero, suc, refl, ap, subst, ◌∙◌, arith}
use Rattle.std.specs.List.{zip}
use Rattle.nd_path_numbers.specs.Numbers.{path_in, AreNumbersOf}
use Rattle.nd_path_numbers.proofs.Growing.{no_numbers}
use Rattle.nd_history.proofs.Reported.{contains_here, contains_there}
use Rattle.nd_provision.specs.declared.copying.Listing.{Listing}
use Rattle.nd_provision.specs.Listed.{number_in}
use Rattle.nd_provision.specs.Stored.{entry_of, IsListing, AreListings, AreGivenEntries}

-- one more path before the others
numbers_before : (known paths : List (List ℕ)) (numbers : List ℕ) (p : List ℕ) (n : ℕ) → n < length known → path_in known n ≡ p → AreNumbersOf known paths numbers → AreNumbersOf known (p ∷ paths) (n ∷ numbers)
numbers_before known paths numbers p n within named are = record {
  known = record { each = λ k h. each k h.0 h.1 h.2 };
  named = rw (named, are.named) refl;
}
  where
    each : (k i : ℕ) → i < length (n ∷ numbers) → get_or (n ∷ numbers) i k ≡ k → k < length known
    each k zero lt at = subst (λ (x : ℕ). x < length known) at within
    each k (suc i) lt at = are.known.each k (i, omega (arith, lt), at)

-- the listed paths have the numbers beside them
numbers_listed : (known : List (List ℕ)) (ls : List Listing) → AreListings known ls → AreNumbersOf known (map (λ (l : Listing). l.path) ls) (map number_in ls)
numbers_listed known [] are = no_numbers known
numbers_listed known (l ∷ ls) are =
    let here : IsListing known l = are.each l (contains_here l ls) in
    numbers_before known (map (λ (l : Listing). l.path) ls) (map number_in ls) l.path l.number here.known here.path
    (numbers_listed known ls (record { each = λ k there. are.each k (contains_there l ls k there) }))

firsts_listed : (ls : List Listing) → map (λ (l : Listing). l.path) ls ≡ map (λ (e : List ℕ × List (List ℕ)). e.0) (map entry_of ls)
firsts_listed [] = refl
firsts_listed (l ∷ ls) = ap (λ (xs : List (List ℕ)). l.path ∷ xs) (firsts_listed ls)

firsts_beside : (paths : List (List ℕ)) (refs : List (List (List ℕ))) → length refs ≡ length paths → map (λ (e : List ℕ × List (List ℕ)). e.0) (zip paths refs) ≡ paths
firsts_beside [] refs sized = refl
firsts_beside (p ∷ paths) [] sized = absurd (omega (arith, sized))
firsts_beside (p ∷ paths) (rs ∷ refs) sized = ap (λ (xs : List (List ℕ)). p ∷ xs) (firsts_beside paths refs (omega (arith, sized)))

-- the outputs have the numbers of their listings
pub own_listed : (known outputs : List (List ℕ)) (refs : List (List (List ℕ))) (ls : List Listing) (own : List ℕ) → length refs ≡ length outputs → map entry_of ls ≡ zip outputs refs → AreListings known ls → own ≡ map number_in ls → AreNumbersOf known outputs own
own_listed known outputs refs ls own sized beside are is =
    let same : map (λ (l : Listing). l.path) ls ≡ outputs = firsts_listed ls ∙ ap (map (λ (e : List ℕ × List (List ℕ)). e.0)) beside ∙ firsts_beside outputs refs sized in
    rw is (subst (λ (xs : List (List ℕ)). AreNumbersOf known xs (map number_in ls)) same (numbers_listed known ls are))

-- a builder gets them too
pub brought_listed : (known outputs : List (List ℕ)) (m : ℕ) (own brought : List ℕ) → AreNumbersOf known outputs own → brought ≡ (if m == 0 then [] else own) → AreNumbersOf known (if m == 0 then [] else outputs) brought
brought_listed known outputs m own brought are is = rw is (either (m == 0))
  where
    either : (b : Bool) → AreNumbersOf known (if b then [] else outputs) (if b then [] else own)
    either true = no_numbers known
    either false = are

firsts_given : (info : List (List ℕ × List (List ℕ))) (given : List (List ℕ)) (ls : List Listing) → AreGivenEntries info given (map entry_of ls) → map (λ (l : Listing). l.path) ls ≡ given
firsts_given info [] [] are = refl
firsts_given info [] (l ∷ ls) are = absurd are
firsts_given info (p ∷ given) [] are = absurd are
firsts_given info (p ∷ given) (l ∷ ls) are =
    ap (λ (x : List ℕ). x ∷ map (λ (k : Listing). k.path) ls) are.0 ∙ ap (λ (xs : List (List ℕ)). p ∷ xs) (firsts_given info given ls are.2)

-- the given paths have the numbers of their listings
pub given_listed : (info : List (List ℕ × List (List ℕ))) (known given : List (List ℕ)) (ls : List Listing) (own : List ℕ) → AreGivenEntries info given (map entry_of ls) → AreListings known ls → own ≡ map number_in ls → AreNumbersOf known given own
given_listed info known given ls own entries are is = rw is (subst (λ (xs : List (List ℕ)). AreNumbersOf known xs (map number_in ls)) (firsts_given info given ls entries) (numbers_listed known ls are))
