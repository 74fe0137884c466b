-- Lemmas on paths and the numbers of their nodes.
use Rattle.std.proofs.Common.{◌≡◌, ℕ, List, [], get_or, position, Option, Some, None, is_some, sym, ◌∙◌, true≢false}
use Rattle.std.specs.Cmp.Lexicographic.{nat_list_eq_equiv}
use Rattle.std.specs.List.{list_any}
use Rattle.std.proofs.lemmas.List.Quantifiers.{position-Some}
use Rattle.std.proofs.lemmas.Map.Views.{list_any-from_Contains}
use Rattle.nd_path.specs.StorePath.{path_eq}
use Rattle.nd_path.specs.SamePaths.{paths_same}
use Rattle.nd_graph.specs.Graphs.{IsNumber}

-- the first place of an equal path is the path's number
pub number_found : (paths : List (List ℕ)) (path : List ℕ) (r : Option ℕ) → r ≡ position (path_eq path) paths → is_some r ≡ list_any (path_eq path) paths → IsNumber paths path r
number_found paths path None at found = λ there. true≢false (sym (list_any-from_Contains nat_list_eq_equiv path paths there) ∙ sym found)
number_found paths path (Some i) at found =
    let is = position-Some (path_eq path) paths i [] (sym at) in
    record { within = is.0; is = sym (paths_same path (get_or paths i []) is.1) }
