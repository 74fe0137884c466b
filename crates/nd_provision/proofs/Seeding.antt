-- Numbers of what derivations need, one path after another.
use Rattle.std.proofs.Common.{◌≡◌, ℕ, ◌+◌, ◌<◌, ◌≤◌, List, [], ◌∷◌, ◌++◌, length, map, get_or, take, sym, ap, subst, ◌∙◌}
use Rattle.std.specs.List.{flat_map}
use Rattle.std.proofs.lemmas.List.{append-nil, append_assoc, length-map, get_or-map, take_more, take_all}
use Rattle.nd_graph.specs.declared.graph.Input.{Input}
use Rattle.nd_graph.specs.Graphs.{Nodes, IsSound}
use Rattle.nd_path_numbers.specs.Numbers.{Numbered, path_in, AreNumbersOf, IsNumberOf, HasGrown}
use Rattle.nd_path_numbers.proofs.Growing.{no_numbers, numbers_push, numbers_stay}
use Rattle.nd_history.specs.References.{sources_of, outputs_of, inputs_at}
use Rattle.nd_provision.specs.Stored.{AreNeeded, AreNeededIn, IsSeedRow, named_outputs}
use Rattle.nd_provision.specs.Seeds.{GoesOn, paths_at}
use Rattle.nd_provision.proofs.Joined.{with_graph, needed_joined, needed_more}

-- ---- some paths behind others

pub goes_none : (known : List (List ℕ)) (row : List ℕ) → GoesOn known known row row []
goes_none known row = record { tells = λ others are. subst (λ (ps : List (List ℕ)). AreNumbersOf known ps row) (sym (append-nil others)) are }

pub goes_more : (one two three : Numbered) (before row : List ℕ) (paths : List (List ℕ)) (i : ℕ) (p : List ℕ) (n : ℕ) → i < length paths → p ≡ get_or paths i p → GoesOn one.paths two.paths before row (take i paths) → HasGrown two three → IsNumberOf three.paths p n
    → GoesOn one.paths three.paths before (row ++ n ∷ []) (take (i + 1) paths)
goes_more one two three before row paths i p n lt at goes grown is =
    let more : take i paths ++ p ∷ [] ≡ take (i + 1) paths = sym (take_more paths i p lt ∙ ap (λ (x : List ℕ). take i paths ++ x ∷ []) (sym at)) in
    record {
      tells = λ others are.
          subst (λ (ps : List (List ℕ)). AreNumbersOf three.paths ps (row ++ n ∷ [])) (append_assoc others (take i paths) (p ∷ []) ∙ ap (λ (ps : List (List ℕ)). others ++ ps) more)
          (numbers_push three.paths (others ++ take i paths) row p n (numbers_stay two three (others ++ take i paths) row grown (goes.tells others are)) is);
    }

pub goes_all : (old new : List (List ℕ)) (before after : List ℕ) (paths : List (List ℕ)) (i : ℕ) → length paths ≤ i → GoesOn old new before after (take i paths) → GoesOn old new before after paths
goes_all old new before after paths i past goes = subst (λ (ps : List (List ℕ)). GoesOn old new before after ps) (take_all i paths past) goes

-- the output at a place, as the next of the paths
pub within_at : (outputs : List (List ℕ)) (places : List ℕ) (i : ℕ) → i < length places → i < length (paths_at outputs places)
within_at outputs places i lt = rw (length-map places (λ k. get_or outputs k [])) lt

pub output_next : (outputs : List (List ℕ)) (places : List ℕ) (i : ℕ) → i < length places → get_or outputs (get_or places i 0) [] ≡ get_or (paths_at outputs places) i (get_or outputs (get_or places i 0) [])
output_next outputs places i lt = sym (get_or-map (λ k. get_or outputs k []) places i 0 (get_or outputs (get_or places i 0) []) lt)

-- ---- what one derivation needs

-- its sources, and the outputs that it names of so many of its inputs
abbrev pub needed_up_to : Nodes → ℕ → ℕ → List (List ℕ)
needed_up_to graph d n = sources_of (with_graph graph) d ++ flat_map (named_outputs graph) (take n (inputs_at (with_graph graph) d))

pub first_seeds : (graph : Nodes) (d : ℕ) (sources old new : List (List ℕ)) (row after : List ℕ) → sources ≡ sources_of (with_graph graph) d → row ≡ [] → GoesOn old new row after sources → AreNumbersOf new (needed_up_to graph d 0) after
first_seeds graph d sources old new row after is none goes =
    subst (λ (ps : List (List ℕ)). AreNumbersOf new ps after) (is ∙ sym (append-nil (sources_of (with_graph graph) d)))
    (goes.tells [] (subst (λ (ns : List ℕ). AreNumbersOf old [] ns) (sym none) (no_numbers old)))

pub next_input : (graph : Nodes) (d n : ℕ) (input : Input) (places : List ℕ) (outputs old new : List (List ℕ)) (row after : List ℕ) → n < length (inputs_at (with_graph graph) d) → input ≡ get_or (inputs_at (with_graph graph) d) n input → places ≡ input.outputs
    → outputs ≡ outputs_of (with_graph graph) input.node → AreNumbersOf old (needed_up_to graph d n) row → GoesOn old new row after (paths_at outputs places) → AreNumbersOf new (needed_up_to graph d (n + 1)) after
next_input graph d n input places outputs old new row after lt is at of are goes =
    subst (λ (ps : List (List ℕ)). AreNumbersOf new ps after) (needed_more (with_graph graph) d n input places outputs lt is at of) (goes.tells (needed_up_to graph d n) are)

pub needed_in : (graph : Nodes) (d : ℕ) → IsSound graph → AreNeededIn graph d (sources_of (with_graph graph) d ++ flat_map (named_outputs graph) (inputs_at (with_graph graph) d))
needed_in graph d is = record {
  tells = λ j same.
      let sound : IsSound j.graph = subst (λ (g : Nodes). IsSound g) (sym same) is in
      subst (λ (g : Nodes). AreNeeded j d (sources_of (with_graph g) d ++ flat_map (named_outputs g) (inputs_at (with_graph g) d))) same
      (needed_joined j d (λ input place h k. sound.names.named d input place h k));
}

pub seed_row_is : (graph : Nodes) (d n : ℕ) (known : List (List ℕ)) (row : List ℕ) → IsSound graph → length (inputs_at (with_graph graph) d) ≤ n → AreNumbersOf known (needed_up_to graph d n) row → IsSeedRow graph known d row
seed_row_is graph d n known row sound past are =
    let all : map (path_in known) row ≡ sources_of (with_graph graph) d ++ flat_map (named_outputs graph) (inputs_at (with_graph graph) d) =
    are.named ∙ ap (λ (xs : List Input). sources_of (with_graph graph) d ++ flat_map (named_outputs graph) xs) (take_all n (inputs_at (with_graph graph) d) past) in
    record { known = are.known; needed = subst (λ (ps : List (List ℕ)). AreNeededIn graph d ps) (sym all) (needed_in graph d sound) }
