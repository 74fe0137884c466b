-- Lemmas on a graph's inputs as rows of numbers.
use Rattle.std.proofs.Common.{◌≡◌, ℕ, ◌<◌, List, [], length, Contains, get_or, sym, ap, ◌∙◌, subst, inl, inr, arith}
use Rattle.std.proofs.lemmas.Bool.{cases_lt}
use Rattle.std.proofs.lemmas.List.{get_or_past, get_or_default, get_or-map, length-map}
use Rattle.std.proofs.lemmas.List.Elements.{Contains-get_or}
use Rattle.nd_graph.specs.declared.graph.Input.{Input}
use Rattle.nd_graph.specs.Graphs.{nodes_of, needed}
use Rattle.nd_graph.specs.Walks.{inputs_of}

-- a node's inputs are the numbers of its row
pub row_of : (inputs : List (List Input)) (d : ℕ) → nodes_of (get_or inputs d []) ≡ inputs_of (needed inputs) d
row_of inputs d =
    elim (cases_lt d (length inputs)) [
      | inl lt ↦ sym (get_or-map nodes_of inputs d [] [] lt)
      | inr past ↦
          ap nodes_of (get_or_past inputs d [] past) ∙ sym (get_or_past (needed inputs) d [] (rw (length-map inputs nodes_of) past))
    ]

-- as many rows as nodes
pub rows_length : (inputs : List (List Input)) → length (needed inputs) ≡ length inputs
rows_length inputs = length-map inputs nodes_of

-- a row that was read
pub row_read : (inputs : List (List Input)) (d : ℕ) (row : List Input) → d < length inputs → row ≡ get_or inputs d row → nodes_of row ≡ inputs_of (needed inputs) d
row_read inputs d row lt is = ap nodes_of (is ∙ get_or_default inputs d row [] lt) ∙ row_of inputs d

-- an input that was read
pub item_read : (row : List Input) (k : ℕ) (item : Input) → k < length row → item ≡ get_or row k item → item.node ≡ get_or (nodes_of row) k 0
item_read row k item lt is = ap (λ (i : Input). i.node) is ∙ sym (get_or-map (λ (i : Input). i.node) row k item 0 lt)

pub next_read : (inputs : List (List Input)) (d k : ℕ) (row : List Input) (item : Input) → d < length inputs → row ≡ get_or inputs d row → k < length row → item ≡ get_or row k item → Contains (inputs_of (needed inputs) d) item.node × (item.node ≡ get_or (inputs_of (needed inputs) d) k 0)
next_read inputs d k row item lt is inner at =
    let same = row_read inputs d row lt is in
    let read : item.node ≡ get_or (inputs_of (needed inputs) d) k 0 = item_read row k item inner at ∙ ap (λ (xs : List ℕ). get_or xs k 0) same in
    let long : length (inputs_of (needed inputs) d) ≡ length row = ap (λ (xs : List ℕ). length xs) (sym same) ∙ length-map row (λ (i : Input). i.node) in
    (subst (λ (x : ℕ). Contains (inputs_of (needed inputs) d) x) (sym read) (Contains-get_or (inputs_of (needed inputs) d) k 0 (omega arith)), read)

pub row_length : (inputs : List (List Input)) (d : ℕ) (row : List Input) → d < length inputs → row ≡ get_or inputs d row → length (inputs_of (needed inputs) d) ≡ length row
row_length inputs d row lt is = ap (λ (xs : List ℕ). length xs) (sym (row_read inputs d row lt is)) ∙ length-map row (λ (i : Input). i.node)
