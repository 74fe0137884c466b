-- Numbers of all outputs, and those at some places of them.
use Rattle.std.proofs.Common.{◌≡◌, ℕ, suc, ◌<◌, List, [], ◌∷◌, ◌++◌, length, map, get_or, refl, sym, ap, subst, ◌∙◌, arith, inl, inr}
use Rattle.std.specs.List.{All, Contains}
use Rattle.std.proofs.lemmas.Bool.{cases_lt}
use Rattle.std.proofs.lemmas.List.{append-nil, append_assoc, get_or_append_left, get_or_default, get_or-map, get_or_push, length-append, length-map}
use Rattle.nd_graph.specs.declared.graph.Input.{Input}
use Rattle.nd_graph.specs.Graphs.{Nodes, IsSound}
use Rattle.nd_history.specs.References.{inputs_at, outputs_of}
use Rattle.nd_path_numbers.specs.Numbers.{Numbered, path_in, row_in, AreNumbersOf, IsNumberOf, HasGrown}
use Rattle.nd_path_numbers.proofs.Growing.{no_numbers, numbers_push, numbers_stay}
use Rattle.nd_provision.specs.Outputs.{AreOutputRows}
use Rattle.nd_provision.specs.Seeds.{GoesOn, paths_at}
use Rattle.nd_provision.proofs.Gains.{read_there}
use Rattle.nd_provision.proofs.Joined.{with_graph, node_there, places_there}

-- ---- one derivation's row

-- the number at a place is that of the output there
number_there : (known outputs : List (List ℕ)) (own : List ℕ) (k : ℕ) → AreNumbersOf known outputs own → k < length own → IsNumberOf known (get_or outputs k []) (get_or own k 0)
number_there known outputs own k are lt = record {
  known = are.known.each (get_or own k 0) (k, lt, get_or_default own k (get_or own k 0) 0 lt);
  named = sym (get_or-map (path_in known) own k 0 [] lt) ∙ ap (λ (ps : List (List ℕ)). get_or ps k []) are.named;
}

-- the numbers at some places are those of the outputs there
pub places_go_on : (known outputs : List (List ℕ)) (own places row : List ℕ) → AreNumbersOf known outputs own → All (λ k. k < length own) places → GoesOn known known row (row ++ map (λ k. get_or own k 0) places) (paths_at outputs places)
places_go_on known outputs own [] row are within = record {
  tells = λ others h. rw (append-nil others, append-nil row) h;
}
places_go_on known outputs own (k ∷ places) row are within = record {
  tells = λ others h.
      let p : List ℕ = get_or outputs k [] in
      let n : ℕ = get_or own k 0 in
      let here : AreNumbersOf known (others ++ p ∷ []) (row ++ n ∷ []) = numbers_push known others row p n h (number_there known outputs own k are (within 0 0 (omega arith))) in
      let rest : GoesOn known known (row ++ n ∷ []) ((row ++ n ∷ []) ++ map (λ k. get_or own k 0) places) (paths_at outputs places) =
      places_go_on known outputs own places (row ++ n ∷ []) are (λ i d lt. within (suc i) d (omega (arith, lt))) in
      let all : AreNumbersOf known ((others ++ p ∷ []) ++ paths_at outputs places) ((row ++ n ∷ []) ++ map (λ k. get_or own k 0) places) = rest.tells (others ++ p ∷ []) here in
      subst (λ (ps : List (List ℕ)). AreNumbersOf known ps (row ++ n ∷ map (λ k. get_or own k 0) places)) (append_assoc others (p ∷ []) (paths_at outputs places))
      (subst (λ (ns : List ℕ). AreNumbersOf known ((others ++ p ∷ []) ++ paths_at outputs places) ns) (append_assoc row (n ∷ []) (map (λ k. get_or own k 0) places)) all);
}

-- ---- all rows

pub no_outputs : (outputs : List (List (List ℕ))) (known : List (List ℕ)) → AreOutputRows outputs known []
no_outputs outputs known = record { each = λ d lt. absurd (omega (arith, lt)) }

pub outputs_stay : (outputs : List (List (List ℕ))) (old new : Numbered) (rows : List (List ℕ)) → HasGrown old new → AreOutputRows outputs old.paths rows → AreOutputRows outputs new.paths rows
outputs_stay outputs old new rows grown are = record { each = λ d lt. numbers_stay old new (get_or outputs d []) (row_in rows d) grown (are.each d lt) }

-- one more row
pub outputs_push : (outputs : List (List (List ℕ))) (old new : Numbered) (rows : List (List ℕ)) (d : ℕ) (row : List ℕ) → length rows ≡ d → HasGrown old new → AreOutputRows outputs old.paths rows → AreNumbersOf new.paths (get_or outputs d []) row
    → AreOutputRows outputs new.paths (rows ++ row ∷ [])
outputs_push outputs old new rows d row size grown are is = record {
  each = λ k lt. elim (cases_lt k (length rows)) [
    | inl before ↦
        let same : row_in (rows ++ row ∷ []) k ≡ row_in rows k = get_or_append_left rows (row ∷ []) [] k before in
        rw same (numbers_stay old new (get_or outputs k []) (row_in rows k) grown (are.each k before))
    | inr past ↦
        let last : k ≡ d = omega (arith, lt, past, size, length-append rows (row ∷ [])) in
        let same : row_in (rows ++ row ∷ []) d ≡ row = get_or_push rows row [] d size in
        rw (last, same) is
  ];
}

-- a row that was begun anew
pub row_anew : (old new : List (List ℕ)) (before after : List ℕ) (paths outputs : List (List ℕ)) → before ≡ [] → paths ≡ outputs → GoesOn old new before after paths → AreNumbersOf new outputs after
row_anew old new before after paths outputs none is goes =
    subst (λ (ps : List (List ℕ)). AreNumbersOf new ps after) is
    (goes.tells [] (subst (λ (ns : List ℕ). AreNumbersOf old [] ns) (sym none) (no_numbers old)))

-- ---- the outputs that inputs name

-- the row of an input's outputs
pub own_there : (graph : Nodes) (d n : ℕ) (input : Input) (inputs : List Input) (old new : Numbered) (rows : List (List ℕ)) (own : List ℕ) → IsSound graph → inputs ≡ inputs_at (with_graph graph) d → n < length inputs → input ≡ get_or inputs n input → length rows ≡ length graph.paths
    → HasGrown old new → AreOutputRows graph.outputs old.paths rows → own ≡ row_in rows input.node → AreNumbersOf new.paths (outputs_of (with_graph graph) input.node) own
own_there graph d n input inputs old new rows own sound are lt is sized grown rowed at =
    let there : Contains (inputs_at (with_graph graph) d) input = subst (λ (xs : List Input). Contains xs input) are (read_there inputs n input lt is) in
    let within = node_there (with_graph graph) d input sound there in
    subst (λ (ns : List ℕ). AreNumbersOf new.paths (outputs_of (with_graph graph) input.node) ns) (sym at)
    ((outputs_stay graph.outputs old new rows grown rowed).each input.node (omega (arith, within, sized)))

-- .. has all the places that it names
pub named_there : (graph : Nodes) (d n : ℕ) (input : Input) (inputs : List Input) (known : List (List ℕ)) (own places : List ℕ) → IsSound graph → inputs ≡ inputs_at (with_graph graph) d → n < length inputs → input ≡ get_or inputs n input → places ≡ input.outputs
    → AreNumbersOf known (outputs_of (with_graph graph) input.node) own → All (λ k. k < length own) places
named_there graph d n input inputs known own places sound are lt is at row k e within =
    let there : Contains (inputs_at (with_graph graph) d) input = subst (λ (xs : List Input). Contains xs input) are (read_there inputs n input lt is) in
    let below = places_there (with_graph graph) d input places (outputs_of (with_graph graph) input.node) sound there at refl k e within in
    let same : length own ≡ length (outputs_of (with_graph graph) input.node) = sym (length-map own (path_in known)) ∙ ap (λ (ps : List (List ℕ)). length ps) row.named in
    omega (arith, below, same)
