-- Needs with the same fields are the same.
use Rattle.std.proofs.Common.{◌≡◌, ℕ, Bool, List, sym, subst}
use Rattle.std.specs.Bool.{Decides, IsTrue}
use Rattle.std.proofs.lemmas.Slice.Eq.{slice_eq-Decides}
use Rattle.std.proofs.lemmas.Bool.Decides.{Decides-eqb}
use Rattle.nd_bytes.specs.Compared.{bytes_eq}
use Rattle.nd_machines.specs.FeatureSets.{sets_eq, sets_eq-Decides}
use Rattle.nd_eligible.specs.declared.need.Need.{Need}

pub same_need : (a b : Need) → a.prefer_local ≡ b.prefer_local → a.builtin ≡ b.builtin → a.system ≡ b.system → a.features ≡ b.features → a ≡ b
same_need a b p q r s = λ i. record { system = r i; features = s i; prefer_local = p i; builtin = q i }

pub same_text : (xs ys : List ℕ) (r : Bool) → r ≡ bytes_eq xs ys → IsTrue r → xs ≡ ys
same_text xs ys r is = (slice_eq-Decides Decides-eqb xs ys r is).0

pub same_set : (xs ys : List (List ℕ)) (r : Bool) → r ≡ sets_eq xs ys → IsTrue r → xs ≡ ys
same_set xs ys r is = let P : Bool → Type 0 = λ x. Decides x (xs ≡ ys) in (subst P (sym is) (sets_eq-Decides xs ys)).0
