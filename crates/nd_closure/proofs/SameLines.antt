-- Paths, sets of paths and lines of tables that compare equal are the same.
use Rattle.std.proofs.Common.{◌≡◌, ℕ, Bool, ◌&&◌, List, refl, ap}
use Rattle.std.specs.Bool.{Decides}
use Rattle.std.specs.Cmp.Lexicographic.{pointwise}
use Rattle.std.proofs.lemmas.Slice.Eq.{slice_eq-Decides}
use Rattle.std.proofs.lemmas.Bool.Decides.{Decides-eqb, Decides-and}
use Rattle.nd_path.specs.StorePath.{path_eq}

pub paths_decide : (xs ys : List ℕ) (r : Bool) → r ≡ path_eq xs ys → Decides r (xs ≡ ys)
paths_decide xs ys r is = slice_eq-Decides Decides-eqb xs ys r is

pub sets_decide : (xs ys : List (List ℕ)) (r : Bool) → r ≡ pointwise path_eq xs ys → Decides r (xs ≡ ys)
sets_decide xs ys r is = slice_eq-Decides (λ x y. paths_decide x y (path_eq x y) refl) xs ys r is

-- a line is a path with its set of references
line_eq : List ℕ × List (List ℕ) → List ℕ × List (List ℕ) → Bool
line_eq p q = path_eq p.0 q.0 && pointwise path_eq p.1 q.1

line_decides : (p q : List ℕ × List (List ℕ)) → Decides (line_eq p q) (p ≡ q)
unfolding line_eq
line_decides p q =
    let both = Decides-and (path_eq p.0 q.0) (pointwise path_eq p.1 q.1) (paths_decide p.0 q.0 (path_eq p.0 q.0) refl) (sets_decide p.1 q.1 (pointwise path_eq p.1 q.1) refl) in (
      λ h. let same = both.0 h in λ i. (same.0 i, same.1 i),
      λ e. both.1 (ap (λ (x : List ℕ × List (List ℕ)). x.0) e, ap (λ (x : List ℕ × List (List ℕ)). x.1) e),
    )

pub lines_decide : (xs ys : List (List ℕ × List (List ℕ))) (r : Bool) → r ≡ pointwise (λ p q. path_eq p.0 q.0 && pointwise path_eq p.1 q.1) xs ys → Decides r (xs ≡ ys)
unfolding line_eq
lines_decide xs ys r is = slice_eq-Decides line_decides xs ys r is
