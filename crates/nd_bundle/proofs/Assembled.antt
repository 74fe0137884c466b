-- What resolved inputs give of a graph.
use Rattle.std.proofs.Common.{◌≡◌, ℕ, zero, suc, ◌<◌, ◌≤◌, Bool, true, List, [], ◌∷◌, length, get_or, map, Contains, refl, sym, ap, ◌∙◌, subst, inl, inr, arith}
use Rattle.std.proofs.lemmas.Bool.{cases_lt}
use Rattle.std.proofs.lemmas.List.{get_or_default, get_or_past, get_or-map, length-map}
use Rattle.nd_eligible.specs.declared.need.Need.{Need}
use Rattle.nd_links.specs.Columned.{HasDetails}
use Rattle.nd_graph.specs.Graphs.{nodes_of, nodes_with, needed, node_limit, IsOrderFault, IsSound, NamesOutputs, IsAt}
use Rattle.nd_links.specs.Numbered.{of_order}
use Rattle.nd_links.specs.Settled.{AreFit, AreLinksSized, AreSized, IsFit, IsResolved, ArePaired, AllNamesRise, NamesRise}
use Rattle.nd_graph.specs.Walks.{AreDistinct, AreInRange, IsAcyclic}
use Rattle.nd_links.specs.Whole.{AllNumbered, AreNumbered, IsNumbered, IsTooMany, IsWholeFault}
use Rattle.nd_links.specs.declared.details.Details.{Details}
use Rattle.nd_graph.specs.declared.fault.OrderError.{OrderError}
use Rattle.nd_graph.specs.declared.fault.OrderError.TheVariants.{Cycle, Memory}
use Rattle.nd_graph.specs.declared.graph.Input.{Input}
use Rattle.nd_line.specs.declared.line.LineNode.{LineNode}
use Rattle.nd_line.specs.declared.line.NamedInput.{NamedInput}
use Rattle.nd_links.proofs.Linked.{rows_have}
use Rattle.nd_graph.proofs.Rows.{row_of, rows_length}
use Rattle.nd_links.proofs.Zipped.{zip_at, zip_length}

-- each input by number is that of an input derivation
pub each_input : (paths : List (List ℕ)) (names : List (List (List ℕ))) (wants : List (List NamedInput)) (rows : List (List Input)) → AllNumbered paths names wants rows → (d : ℕ) (i : Input) → Contains (get_or rows d []) i → (w : NamedInput) × IsNumbered paths names w i
each_input paths names wants rows so d i on =
    let long : length wants ≡ length rows = zip_length (AreNumbered paths names) wants rows so.each in
    let none : NamedInput = record { path = []; names = [] } in
    elim (cases_lt d (length rows)) [
      | inl lt ↦
          let here : AreNumbered paths names (get_or wants d []) (get_or rows d []) = zip_at (AreNumbered paths names) wants rows d [] [] so.each (omega arith) in
          let wide : length (get_or wants d []) ≡ length (get_or rows d []) = zip_length (IsNumbered paths names) (get_or wants d []) (get_or rows d []) here.each in
          let at : IsNumbered paths names (get_or (get_or wants d []) on.0 none) (get_or (get_or rows d []) on.0 i) = zip_at (IsNumbered paths names) (get_or wants d []) (get_or rows d []) on.0 none i here.each (omega (arith, on.1)) in
          (get_or (get_or wants d []) on.0 none, subst (λ (j : Input). IsNumbered paths names (get_or (get_or wants d []) on.0 none) j) on.2 at)
      | inr past ↦
          let gone : get_or rows d [] ≡ [] = get_or_past rows d [] past in
          let empty : Contains [] i = subst (λ (xs : List Input). Contains xs i) gone on in
          absurd (omega (arith, empty.1))
    ]

-- each input is a node
pub numbered_ranged : (paths : List (List ℕ)) (names : List (List (List ℕ))) (wants : List (List NamedInput)) (rows : List (List Input)) → AllNumbered paths names wants rows → length wants ≡ length paths → AreInRange (needed rows)
numbered_ranged paths names wants rows so sized = record {
  ranged = λ d c on.
      let row : List Input = get_or rows d [] in
      let inner : Contains (nodes_of row) c = subst (λ (xs : List ℕ). Contains xs c) (sym (row_of rows d)) on in
      let wide : length (nodes_of row) ≡ length row = length-map row (λ (i : Input). i.node) in
      let zero_input : Input = record { node = 0; outputs = [] } in
      let at : inner.0 < length row = omega (arith, inner.1) in
      let input : Input = get_or row inner.0 zero_input in
      let is : input.node ≡ c = sym (get_or-map (λ (i : Input). i.node) row inner.0 zero_input c at) ∙ inner.2 in
      let mine = each_input paths names wants rows so d input (inner.0, at, get_or_default row inner.0 input zero_input at) in
      let long : length wants ≡ length rows = zip_length (AreNumbered paths names) wants rows so.each in
      omega (arith, mine.1.node.within, is, rows_length rows);
}

-- the named outputs are outputs
pub numbered_names : (paths : List (List ℕ)) (names outputs : List (List (List ℕ))) (wants : List (List NamedInput)) (rows : List (List Input)) → AllNumbered paths names wants rows → ArePaired names outputs → NamesOutputs rows outputs
numbered_names paths names outputs wants rows so paired = record {
  named = λ d i place on named.
      let mine = each_input paths names wants rows so d i on in
      let w : NamedInput = mine.0 in
      let wide : length w.names ≡ length i.outputs = zip_length (IsAt (get_or names i.node [])) w.names i.outputs mine.1.outputs.each in
      let at : IsAt (get_or names i.node []) (get_or w.names named.0 []) (get_or i.outputs named.0 place) = zip_at (IsAt (get_or names i.node [])) w.names i.outputs named.0 [] place mine.1.outputs.each (omega (arith, named.1)) in
      omega (arith, at.within, named.2, paired.paired i.node);
}

-- the parts of a graph
pub is_sound : (paths : List (List ℕ)) (needs : List Need) (rows : List (List Input)) (sources names outputs : List (List (List ℕ))) (wants : List (List NamedInput))
    → length needs ≡ length paths → length wants ≡ length paths → length sources ≡ length paths → length outputs ≡ length paths
    → length paths ≤ node_limit → AreDistinct paths → AllNumbered paths names wants rows → ArePaired names outputs
    → IsSound (nodes_with paths needs rows sources outputs)
is_sound paths needs rows sources names outputs wants needs_long wants_long sources_long outputs_long few distinct so paired = record {
  needs_sized = needs_long;
  inputs_sized = sym (zip_length (AreNumbered paths names) wants rows so.each) ∙ wants_long;
  sources_sized = sources_long;
  outputs_sized = outputs_long;
  few = few;
  distinct = distinct;
  ranged = numbered_ranged paths names wants rows so wants_long;
  names = numbered_names paths names outputs wants rows so paired;
}

-- the parts of nodes have one item per node
pub rows_sized : (nodes : List LineNode) (keys : List (List ℕ)) (details : Details) → keys ≡ map (λ (n : LineNode). n.path) nodes → HasDetails true nodes details → AreSized keys details
rows_sized nodes keys details are has =
    let paths : length keys ≡ length nodes = ap (λ (xs : List (List ℕ)). length xs) are ∙ length-map nodes (λ (n : LineNode). n.path) in
    record {
      needs = ap (λ (xs : List Need). length xs) has.needs ∙ length-map nodes (λ (n : LineNode). n.need) ∙ sym paths;
      wants = ap (λ (xs : List (List NamedInput)). length xs) has.wants ∙ length-map nodes (λ (n : LineNode). n.inputs) ∙ sym paths;
      sources = ap (λ (xs : List (List (List ℕ))). length xs) has.sources ∙ length-map nodes (λ (n : LineNode). n.sources) ∙ sym paths;
      names = ap (λ (xs : List (List (List ℕ))). length xs) has.names ∙ length-map nodes (λ (n : LineNode). n.output_names) ∙ sym paths;
      outputs = ap (λ (xs : List (List (List ℕ))). length xs) has.outputs ∙ length-map nodes (λ (n : LineNode). n.outputs) ∙ sym paths;
    }

-- .. what they say of their links and needs
pub links_sized : (whole : Bool) (nodes : List LineNode) (keys : List (List ℕ)) (details : Details) → keys ≡ map (λ (n : LineNode). n.path) nodes → HasDetails whole nodes details → AreLinksSized keys details
links_sized whole nodes keys details are has =
    let paths : length keys ≡ length nodes = ap (λ (xs : List (List ℕ)). length xs) are ∙ length-map nodes (λ (n : LineNode). n.path) in
    record {
      wants = ap (λ (xs : List (List NamedInput)). length xs) has.wants ∙ length-map nodes (λ (n : LineNode). n.inputs) ∙ sym paths;
      names = ap (λ (xs : List (List (List ℕ))). length xs) has.names ∙ length-map nodes (λ (n : LineNode). n.output_names) ∙ sym paths;
    }

-- and as many names as paths of outputs
paired_at : (nodes : List LineNode) (d : ℕ) → ((node : LineNode) → Contains nodes node → IsFit node) → length (get_or (map (λ (n : LineNode). n.output_names) nodes) d []) ≡ length (get_or (map (λ (n : LineNode). n.outputs) nodes) d [])
paired_at [] d pairs = refl
paired_at (n ∷ nodes) zero pairs = (pairs n (0, omega arith, refl)).paired
paired_at (n ∷ nodes) (suc d) pairs = paired_at nodes d (λ node on. pairs node (suc on.0, omega (arith, on.1), on.2))

pub rows_paired : (nodes : List LineNode) (details : Details) → HasDetails true nodes details → AreFit nodes → ArePaired details.names.items details.outputs.items
rows_paired nodes details has pairs = record {
  sized = ap (λ (xs : List (List (List ℕ))). length xs) has.names ∙ length-map nodes (λ (n : LineNode). n.output_names) ∙ sym (ap (λ (xs : List (List (List ℕ))). length xs) has.outputs ∙ length-map nodes (λ (n : LineNode). n.outputs));
  paired = λ d.
      ap (λ (xs : List (List (List ℕ))). length (get_or xs d [])) has.names ∙ paired_at nodes d pairs.fit ∙ sym (ap (λ (xs : List (List (List ℕ))). length (get_or xs d [])) has.outputs);
}

nodes_paired : (nodes : List LineNode) → AreFit nodes → ArePaired (map (λ (n : LineNode). n.output_names) nodes) (map (λ (n : LineNode). n.outputs) nodes)
nodes_paired nodes pairs = record {
  sized = length-map nodes (λ (n : LineNode). n.output_names) ∙ sym (length-map nodes (λ (n : LineNode). n.outputs));
  paired = λ d. paired_at nodes d pairs.fit;
}

-- the parts of nodes are those of a graph, with their inputs by number
pub nodes_sound : (nodes : List LineNode) (rows : List (List Input)) → length (map (λ (n : LineNode). n.path) nodes) ≤ node_limit → AreDistinct (map (λ (n : LineNode). n.path) nodes)
    → AllNumbered (map (λ (n : LineNode). n.path) nodes) (map (λ (n : LineNode). n.output_names) nodes) (map (λ (n : LineNode). n.inputs) nodes) rows → AreFit nodes
    → IsSound (nodes_with (map (λ (n : LineNode). n.path) nodes) (map (λ (n : LineNode). n.need) nodes) rows (map (λ (n : LineNode). n.sources) nodes) (map (λ (n : LineNode). n.outputs) nodes))
nodes_sound nodes rows few distinct so fit =
    let paths : length (map (λ (n : LineNode). n.path) nodes) ≡ length nodes = length-map nodes (λ (n : LineNode). n.path) in
    is_sound (map (λ (n : LineNode). n.path) nodes) (map (λ (n : LineNode). n.need) nodes) rows (map (λ (n : LineNode). n.sources) nodes) (map (λ (n : LineNode). n.output_names) nodes) (map (λ (n : LineNode). n.outputs) nodes) (map (λ (n : LineNode). n.inputs) nodes)
    (length-map nodes (λ (n : LineNode). n.need) ∙ sym paths) (length-map nodes (λ (n : LineNode). n.inputs) ∙ sym paths) (length-map nodes (λ (n : LineNode). n.sources) ∙ sym paths) (length-map nodes (λ (n : LineNode). n.outputs) ∙ sym paths)
    few distinct so (nodes_paired nodes fit)

-- and the names of each rise
rising_at : (nodes : List LineNode) (d : ℕ) → ((node : LineNode) → Contains nodes node → IsFit node) → d < length nodes → NamesRise (get_or (map (λ (n : LineNode). n.output_names) nodes) d [])
rising_at [] d fit lt = absurd (omega (arith, lt))
rising_at (n ∷ nodes) zero fit lt = (fit n (0, omega arith, refl)).rising
rising_at (n ∷ nodes) (suc d) fit lt = rising_at nodes d (λ node on. fit node (suc on.0, omega (arith, on.1), on.2)) (omega (arith, lt))

pub rows_rising : (whole : Bool) (nodes : List LineNode) (details : Details) → HasDetails whole nodes details → AreFit nodes → AllNamesRise details.names.items
rows_rising whole nodes details has fit = record {
  rise = λ d lt.
      let long : length details.names.items ≡ length nodes = ap (λ (xs : List (List (List ℕ))). length xs) has.names ∙ length-map nodes (λ (n : LineNode). n.output_names) in
      subst (λ (xs : List (List (List ℕ))). NamesRise (get_or xs d [])) (sym has.names) (rising_at nodes d fit.fit (omega arith));
}

-- why there is no order is a refusal over the whole
pub order_fault : (paths : List (List ℕ)) (names : List (List (List ℕ))) (wants : List (List NamedInput)) (rows : List (List Input)) → AreDistinct paths → IsResolved paths names wants rows → (fault : OrderError) → IsOrderFault (needed rows) fault → IsWholeFault (record { paths = paths; wants = wants; names = names }) (of_order fault)
order_fault paths names wants rows distinct resolved Cycle is = record {
  linked = record { distinct = distinct; inputs = resolved.there; outputs = rows_have paths names wants rows resolved.numbered };
  inputs = rows;
  numbered = resolved.numbered;
  cyclic = is;
}
order_fault paths names wants rows distinct resolved Memory is = tt

-- too many nodes
pub too_many : (paths : List (List ℕ)) (names : List (List (List ℕ))) (wants : List (List NamedInput)) (rows : List (List Input)) → AreDistinct paths → IsResolved paths names wants rows → IsAcyclic (needed rows) → node_limit < length paths → IsTooMany (record { paths = paths; wants = wants; names = names })
too_many paths names wants rows distinct resolved acyclic many = record {
  linked = record { distinct = distinct; inputs = resolved.there; outputs = rows_have paths names wants rows resolved.numbered };
  inputs = rows;
  numbered = resolved.numbered;
  acyclic = acyclic;
  many = many;
}
