-- Relations that hold place by place.
use Rattle.std.proofs.Common.{◌≡◌, ℕ, zero, suc, ◌<◌, List, [], ◌∷◌, ◌++◌, length, get_or, refl, ap, ◌∙◌, arith}
use Rattle.std.specs.List.{AllZip}

-- one more at the end of both
pub zip_push : {A B : Type 0} (R : A → B → Type 0) (xs : List A) (ys : List B) (x : A) (y : B) → AllZip R xs ys → R x y → AllZip R (xs ++ x ∷ []) (ys ++ y ∷ [])
zip_push R [] [] x y zip here = (here, tt)
zip_push R [] (b ∷ ys) x y zip here = absurd zip
zip_push R (a ∷ xs) [] x y zip here = absurd zip
zip_push R (a ∷ xs) (b ∷ ys) x y zip here = (zip.0, zip_push R xs ys x y zip.1 here)

-- both are equally long
pub zip_length : {A B : Type 0} (R : A → B → Type 0) (xs : List A) (ys : List B) → AllZip R xs ys → length xs ≡ length ys
zip_length R [] [] zip = refl
zip_length R [] (b ∷ ys) zip = absurd zip
zip_length R (a ∷ xs) [] zip = absurd zip
zip_length R (a ∷ xs) (b ∷ ys) zip = ap (λ (n : ℕ). suc n) (zip_length R xs ys zip.1)

-- it holds at each place
pub zip_at : {A B : Type 0} (R : A → B → Type 0) (xs : List A) (ys : List B) (i : ℕ) (d : A) (e : B) → AllZip R xs ys → i < length xs → R (get_or xs i d) (get_or ys i e)
zip_at R [] ys i d e zip lt = absurd (omega (arith, lt))
zip_at R (a ∷ xs) [] i d e zip lt = absurd zip
zip_at R (a ∷ xs) (b ∷ ys) zero d e zip lt = zip.0
zip_at R (a ∷ xs) (b ∷ ys) (suc i) d e zip lt = zip_at R xs ys i d e zip.1 (omega (arith, lt))

-- where each item has one partner, a list has one list of partners
pub zip_once : {A B : Type 0} (R : A → B → Type 0) → ((a : A) (b c : B) → R a b → R a c → b ≡ c) → (xs : List A) (ys zs : List B) → AllZip R xs ys → AllZip R xs zs → ys ≡ zs
zip_once R once [] [] [] of_ys of_zs = refl
zip_once R once [] [] (c ∷ zs) of_ys of_zs = absurd of_zs
zip_once R once [] (b ∷ ys) zs of_ys of_zs = absurd of_ys
zip_once R once (a ∷ xs) [] zs of_ys of_zs = absurd of_ys
zip_once R once (a ∷ xs) (b ∷ ys) [] of_ys of_zs = absurd of_zs
zip_once R once (a ∷ xs) (b ∷ ys) (c ∷ zs) of_ys of_zs = ap (λ x. x ∷ ys) (once a b c of_ys.0 of_zs.0) ∙ ap (λ xs. c ∷ xs) (zip_once R once xs ys zs of_ys.1 of_zs.1)
