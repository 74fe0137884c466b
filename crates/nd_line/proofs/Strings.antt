-- Reading an array of strings item by item.
use Rattle.std.proofs.Common.{◌≡◌, ℕ, suc, ◌+◌, ◌<◌, ◌≤◌, List, [], ◌∷◌, ◌++◌, length, drop, get_or, Option, Some, None, option_map, option_and_then, refl, ap, sym, ◌∙◌, append_assoc, add-one, drop-cons}
use Rattle.std.proofs.lemmas.List.{drop_all, append-nil}
use Rattle.serde_json.specs.Find.{as_str}
use Rattle.serde_json.specs.View.{view, items_view}
use Rattle.serde_json.specs.declared.value.Value.{Value}
use Rattle.nd_line.specs.Structured.{strings}

-- the texts that were found, and then those that are still to be found
abbrev pub with_found : List (List ℕ) → Option (List (List ℕ)) → Option (List (List ℕ))
with_found found more = option_map (λ texts. found ++ texts) more

one_more : (found : List (List ℕ)) (text : List ℕ) (more : Option (List (List ℕ))) → with_found found (option_map (λ texts. text ∷ texts) more) ≡ with_found (found ++ text ∷ []) more
one_more found text None = refl
one_more found text (Some texts) = ap Some (sym (append_assoc found (text ∷ []) texts))

-- the strings from a place on: the one there, and then the others
from_place : (values : List Value) (i : ℕ) (value : Value) → i < length values → value ≡ get_or values i value → strings (items_view (drop i values)) ≡ option_and_then (λ text. option_map (λ texts. text ∷ texts) (strings (items_view (drop (i + 1) values)))) (as_str (view value))
from_place values i value within is =
    let front : drop i values ≡ value ∷ drop (i + 1) values = rw (add-one, drop-cons values i value within) (ap (λ (v : Value). v ∷ drop (suc i) values) (sym is)) in
    ap (λ (vs : List Value). strings (items_view vs)) front

pub found_one : (all : Option (List (List ℕ))) (values : List Value) (i : ℕ) (value : Value) (found : List (List ℕ)) (text : List ℕ) → i < length values → value ≡ get_or values i value → as_str (view value) ≡ Some text
    → all ≡ with_found found (strings (items_view (drop i values))) → all ≡ with_found (found ++ text ∷ []) (strings (items_view (drop (i + 1) values)))
found_one all values i value found text within is read so_far =
    so_far ∙ ap (with_found found) (from_place values i value within is ∙ ap (option_and_then (λ text. option_map (λ texts. text ∷ texts) (strings (items_view (drop (i + 1) values))))) read) ∙ one_more found text _

pub found_none : (all : Option (List (List ℕ))) (values : List Value) (i : ℕ) (value : Value) (found : List (List ℕ)) → i < length values → value ≡ get_or values i value → as_str (view value) ≡ None
    → all ≡ with_found found (strings (items_view (drop i values))) → all ≡ None
found_none all values i value found within is read so_far =
    so_far ∙ ap (with_found found) (from_place values i value within is ∙ ap (option_and_then (λ text. option_map (λ texts. text ∷ texts) (strings (items_view (drop (i + 1) values))))) read)

-- at the end nothing is left to be found
pub found_all : (all : Option (List (List ℕ))) (values : List Value) (i : ℕ) (found : List (List ℕ)) → length values ≤ i → all ≡ with_found found (strings (items_view (drop i values))) → all ≡ Some found
found_all all values i found past so_far =
    so_far ∙ ap (λ (vs : List Value). with_found found (strings (items_view vs))) (drop_all i values past) ∙ ap Some (append-nil found)

pub ruleset steps = (found_one, found_none, found_all)
