-- Membership by a test, and by a look-up in a table.
use Rattle.std.proofs.Common.{◌≡◌, ℕ, Bool, true, false, List, [], ◌∷◌, refl, ap, ◌∙◌, IsTrue, is_some, Option, Some, None, ◌++◌}
use Rattle.std.specs.Prelude.{◌↔◌}
use Rattle.std.specs.List.{Contains}
use Rattle.std.specs.Option.{unwrap_or}
use Rattle.std.specs.Map.{lookup}
use Rattle.std.specs.Cmp.Lexicographic.{nat_list_eq_equiv}
use Rattle.std.proofs.lemmas.List.Folds.{list_any_at}
use Rattle.indexmap.proofs.CallerLemmas.{Contains-list_any}
use Rattle.indexmap.specs.IndexSet.{insert_key}
use Rattle.nd_path.specs.StorePath.{path_eq}
use Rattle.nd_path.specs.SamePaths.{paths_same}
use Rattle.nd_closure.specs.Sets.{is_held}
use Rattle.nd_closure.specs.Tables.{is_listed, refs_of}

-- the test of a path against a list is membership
pub member_by_test : (paths : List (List ℕ)) (p : List ℕ) → IsTrue (is_held paths p) ↔ Contains paths p
member_by_test paths p = (
  λ h. Contains-list_any path_eq paths_same paths p h,
  λ h. list_any_at (path_eq p) paths h.0 p h.1 (ap (path_eq p) h.2 ∙ nat_list_eq_equiv.refl p),
)

-- a path is listed exactly where a look-up finds an entry
pub listed_by_lookup : (entries : List (List ℕ × List (List ℕ))) (p : List ℕ) → is_some (lookup (path_eq p) entries) ≡ is_listed entries p
listed_by_lookup [] p = refl
listed_by_lookup (e ∷ entries) p = by (path_eq p e.0) refl (listed_by_lookup entries p)
  where
    by : (b : Bool) → path_eq p e.0 ≡ b → is_some (lookup (path_eq p) entries) ≡ is_listed entries p → is_some (lookup (path_eq p) (e ∷ entries)) ≡ is_listed (e ∷ entries) p
    by true h rest = rw h refl
    by false h rest = rw h rest

-- what a look-up finds, or nothing, is what the first entry lists
pub refs_by_lookup : (entries : List (List ℕ × List (List ℕ))) (p : List ℕ) → unwrap_or (lookup (path_eq p) entries) [] ≡ refs_of entries p
refs_by_lookup [] p = refl
refs_by_lookup (e ∷ entries) p = by (path_eq p e.0) refl (refs_by_lookup entries p)
  where
    by : (b : Bool) → path_eq p e.0 ≡ b → unwrap_or (lookup (path_eq p) entries) [] ≡ refs_of entries p → unwrap_or (lookup (path_eq p) (e ∷ entries)) [] ≡ refs_of (e ∷ entries) p
    by true h rest = rw h refl
    by false h rest = rw h rest

-- nothing there
pub none_by : {X : Type 0} (o : Option X) → false ≡ is_some o → o ≡ None
none_by None h = refl
none_by (Some x) h = cc

-- a path that is not held goes behind the others
pub inserted : (keys : List (List ℕ)) (value p : List ℕ) → value ≡ p → is_held keys p ≡ false → insert_key path_eq keys value ≡ keys ++ p ∷ []
inserted keys value p same absent = rw (same, absent) refl
