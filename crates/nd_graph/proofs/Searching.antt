-- The steps of a depth-first search for an order keep what a search keeps.
use Rattle.std.proofs.Common.{◌≡◌, ◌≢◌, ℕ, zero, suc, ◌+◌, ◌-◌, ◌<◌, ◌≤◌, ◌⊎◌, List, [], ◌∷◌, ◌++◌, length, Contains, get_or, sym, refl, ap, ◌∙◌, subst, inl, inr, arith, set, sum, get_or-set_same, get_or-set_other, map}
use Rattle.std.proofs.lemmas.Bool.{cases_lt, cases_eq}
use Rattle.std.proofs.lemmas.List.{get_or_append_left, get_or_at, get_or_default, get_or-map, length-map, length-set, length_push}
use Rattle.std.proofs.lemmas.List.Elements.{Contains-push, Contains-push_cases, Contains-append_left}
use Rattle.std.proofs.lemmas.List.Sums.{sum_by-set}
use Rattle.nd_graph.specs.Orders.{input_count, left_of, IsNew, IsOpen, IsSearch, Advances, KeepsSearch}
use Rattle.nd_graph.specs.Walks.{inputs_of, Walk, IsOrder, IsRising, AreInRange, IsCyclic}
use Rattle.nd_graph.specs.Graphs.{needed}
use Rattle.nd_graph.specs.declared.graph.Input.{Input}
use Rattle.nd_graph.proofs.Distinct.{distinct_push, distinct_front, distinct_last}
use Rattle.nd_graph.proofs.Rows.{rows_length, row_length}
use Rattle.nd_graph.proofs.Walked.{walk_on}

-- a write, read at the place or at another
pub set_cases : (xs : List ℕ) (i v d : ℕ) → i < length xs → ((d ≡ i) × (get_or (set xs i v) d 0 ≡ v)) ⊎ ((d ≢ i) × (get_or (set xs i v) d 0 ≡ get_or xs d 0))
set_cases xs i v d lt =
    elim (cases_eq d i) [
      | inl same ↦ inl (same, ap (λ (k : ℕ). get_or (set xs i v) k 0) same ∙ get_or-set_same xs i v 0 lt)
      | inr other ↦ inr (other, get_or-set_other xs i d v 0 other)
    ]

-- a write of less lowers no other number
pub set_lower : (xs : List ℕ) (i v : ℕ) → i < length xs → v ≤ get_or xs i 0 → (d : ℕ) → get_or (set xs i v) d 0 ≤ get_or xs d 0
set_lower xs i v lt low d =
    elim (set_cases xs i v d lt) [
      | inl at ↦
          let same : get_or xs d 0 ≡ get_or xs i 0 = ap (λ (k : ℕ). get_or xs k 0) at.0 in
          omega (arith, at.1)
      | inr other ↦ omega (arith, other.1)
    ]

-- one more node, whose inputs all stand in the order, keeps the order rising
pub rising_push : (rows : List (List ℕ)) (order : List ℕ) (x : ℕ) → IsRising rows order → ((c : ℕ) → Contains (inputs_of rows x) c → Contains order c) → IsRising rows (order ++ x ∷ [])
rising_push rows order x rises all = record {
  before = λ k c lt input.
      let long : length (order ++ x ∷ []) ≡ length order + 1 = length_push order x in
      elim (cases_lt k (length order)) [
        | inl inner ↦
            let same = get_or_append_left order (x ∷ []) 0 k inner in
            let was = rises.before k c inner (subst (λ (d : ℕ). Contains (inputs_of rows d) c) same input) in
            (was.0, was.1, get_or_append_left order (x ∷ []) 0 was.0 (omega arith) ∙ was.2)
        | inr past ↦
            let last : length order ≡ k = omega arith in
            let same = get_or_at order x [] 0 k last in
            let at = all c (subst (λ (d : ℕ). Contains (inputs_of rows d) c) same input) in
            (at.0, omega (arith, at.1), get_or_append_left order (x ∷ []) 0 at.0 at.1 ∙ get_or_default order at.0 0 c at.1 ∙ at.2)
      ];
}

-- the last item of a trail is a node with steps left
pub top_open : (rows : List (List ℕ)) (left trail order : List ℕ) (top : ℕ) → IsSearch rows left (trail ++ top ∷ []) order → (top < length rows) × IsOpen rows left top
top_open rows left trail order top search = search.opened top (Contains-push trail top)

-- a node whose inputs are all passed goes into the order
pub closed : (rows : List (List ℕ)) (left trail order : List ℕ) (top : ℕ) → AreInRange rows → IsSearch rows left (trail ++ top ∷ []) order → left_of left top ≡ 1 → IsSearch rows (set left top 0) trail (order ++ top ∷ [])
closed rows left trail order top ranged search one =
    let opened = top_open rows left trail order top search in
    let here : top < length left = omega (arith, opened.0, search.sized) in
    let lower = set_lower left top 0 here (omega arith) in
    let fresh : Contains order top → ⊥ = λ at. absurd (omega (arith, (search.done top at).1)) in
    record {
      sized = length-set left top 0 ∙ search.sized;
      bounded = λ d lt. omega (arith, lower d, search.bounded d lt);
      passed = λ d k lt inner some.
          elim (set_cases left top 0 d here) [
            | inl at ↦
                let was : left_of left d ≡ 1 = ap (left_of left) at.0 ∙ one in
                let gone = search.passed d k lt inner (omega arith) in
                omega (arith, lower (get_or (inputs_of rows d) k 0))
            | inr other ↦
                let gone = search.passed d k lt inner (omega (arith, other.1)) in
                omega (arith, lower (get_or (inputs_of rows d) k 0))
          ];
      on_trail = λ d lt is.
          elim (set_cases left top 0 d here) [
            | inl at ↦ absurd (omega (arith, at.1, is.0))
            | inr other ↦
                elim (Contains-push_cases trail top d (search.on_trail d lt (omega (arith, other.1, is.0), omega (arith, other.1, is.1)))) [
                  | inl on ↦ on
                  | inr same ↦ absurd (other.0 (sym same))
                ]
          ];
      opened = λ d on.
          let was = search.opened d (Contains-append_left trail (top ∷ []) d on) in
          elim (set_cases left top 0 d here) [
            | inl at ↦ absurd (distinct_last trail top search.apart (subst (λ (x : ℕ). Contains trail x) at.0 on))
            | inr other ↦ (was.0, (omega (arith, other.1, was.1.0), omega (arith, other.1, was.1.1)))
          ];
      linked = λ j lt.
          let long : length (trail ++ top ∷ []) ≡ length trail + 1 = length_push trail top in
          let link = search.linked j (omega arith) in
          let first = get_or_append_left trail (top ∷ []) 0 j (omega arith) in
          let second = get_or_append_left trail (top ∷ []) 0 (suc j) lt in
          subst (λ (x : ℕ). Contains (inputs_of rows x) (get_or trail (suc j) 0)) first
          (subst (λ (y : ℕ). Contains (inputs_of rows (get_or (trail ++ top ∷ []) j 0)) y) second link);
      apart = distinct_front trail top search.apart;
      in_order = λ d lt is.
          elim (set_cases left top 0 d here) [
            | inl at ↦ subst (λ (x : ℕ). Contains (order ++ top ∷ []) x) (sym at.0) (Contains-push order top)
            | inr other ↦ Contains-append_left order (top ∷ []) d (search.in_order d lt (sym other.1 ∙ is))
          ];
      done = λ d in'.
          elim (Contains-push_cases order top d in') [
            | inl old ↦
                let was = search.done d old in
                (was.0, omega (arith, lower d, was.1))
            | inr same ↦
                (subst (λ (x : ℕ). x < length rows) same opened.0, subst (λ (x : ℕ). left_of (set left top 0) x ≡ 0) same (get_or-set_same left top 0 0 here))
          ];
      once = distinct_push order top search.once fresh;
      rises = rising_push rows order top search.rises (λ c input.
          let gone = search.passed top input.0 opened.0 input.1 (omega (arith, one, input.1)) in
          let is : left_of left c ≡ 0 = ap (left_of left) (sym (get_or_default (inputs_of rows top) input.0 0 c input.1 ∙ input.2)) ∙ gone in
          search.in_order c (ranged.ranged top c input) is);
    }

-- a node passes an input that is done
pub passed_by : (rows : List (List ℕ)) (left trail order : List ℕ) (top next : ℕ) → IsSearch rows left (trail ++ top ∷ []) order → 1 < left_of left top → next ≡ get_or (inputs_of rows top) (input_count rows top + 1 - left_of left top) 0 → left_of left next ≡ 0 → IsSearch rows (set left top (left_of left top - 1)) (trail ++ top ∷ []) order
passed_by rows left trail order top next search more is gone =
    let opened = top_open rows left trail order top search in
    let here : top < length left = omega (arith, opened.0, search.sized) in
    let lower = set_lower left top (left_of left top - 1) here (omega arith) in
    record {
      sized = length-set left top (left_of left top - 1) ∙ search.sized;
      bounded = λ d lt. omega (arith, lower d, search.bounded d lt);
      passed = λ d k lt inner some.
          elim (set_cases left top (left_of left top - 1) d here) [
            | inl at ↦
                let counts : input_count rows d ≡ input_count rows top = ap (input_count rows) at.0 in
                elim (cases_lt (input_count rows d) (k + left_of left top)) [
                  | inl new ↦
                      let place : k ≡ input_count rows top + 1 - left_of left top = omega (arith, at.1, some, counts) in
                      let read : get_or (inputs_of rows d) k 0 ≡ next = ap (λ (x : ℕ). get_or (inputs_of rows x) k 0) at.0 ∙ ap (λ (i : ℕ). get_or (inputs_of rows top) i 0) place ∙ sym is in
                      let zero_there : left_of left (get_or (inputs_of rows d) k 0) ≡ 0 = ap (left_of left) read ∙ gone in
                      omega (arith, lower (get_or (inputs_of rows d) k 0), zero_there)
                  | inr old ↦
                      let was : left_of left d ≡ left_of left top = ap (left_of left) at.0 in
                      let done = search.passed d k lt inner (omega (arith, was, old)) in
                      omega (arith, lower (get_or (inputs_of rows d) k 0), done)
                ]
            | inr other ↦
                let done = search.passed d k lt inner (omega (arith, other.1, some)) in
                omega (arith, lower (get_or (inputs_of rows d) k 0), done)
          ];
      on_trail = λ d lt is.
          elim (set_cases left top (left_of left top - 1) d here) [
            | inl at ↦ subst (λ (x : ℕ). Contains (trail ++ top ∷ []) x) (sym at.0) (Contains-push trail top)
            | inr other ↦ search.on_trail d lt (omega (arith, other.1, is.0), omega (arith, other.1, is.1))
          ];
      opened = λ d on.
          let was = search.opened d on in
          elim (set_cases left top (left_of left top - 1) d here) [
            | inl at ↦ (was.0, (omega (arith, at.1, more), omega (arith, lower d, was.1.1)))
            | inr other ↦ (was.0, (omega (arith, other.1, was.1.0), omega (arith, other.1, was.1.1)))
          ];
      linked = search.linked;
      apart = search.apart;
      in_order = λ d lt is.
          elim (set_cases left top (left_of left top - 1) d here) [
            | inl at ↦ absurd (omega (arith, at.1, is, more))
            | inr other ↦ search.in_order d lt (sym other.1 ∙ is)
          ];
      done = λ d in'.
          let was = search.done d in' in
          (was.0, omega (arith, lower d, was.1));
      once = search.once;
      rises = search.rises;
    }

pub kept_first : (rows : List (List ℕ)) (top : ℕ) (left : List ℕ) → KeepsSearch rows top left left
kept_first rows top left = record { kept = λ trail order search. search }

-- .. and so it passes one more
pub kept_on : (rows : List (List ℕ)) (top next : ℕ) (old left : List ℕ) → KeepsSearch rows top old left → (1 < left_of left top) × Contains (inputs_of rows top) next × (next ≡ get_or (inputs_of rows top) (input_count rows top + 1 - left_of left top) 0) → left_of left next ≡ 0
    → KeepsSearch rows top old (set left top (left_of left top - 1))
kept_on rows top next old left so is gone = record {
  kept = λ trail order search. passed_by rows left trail order top next (so.kept trail order search) is.0 is.2 gone;
}

-- an input that has steps left and is met is open
pub is_open : (rows : List (List ℕ)) (left trail order : List ℕ) (d : ℕ) → IsSearch rows left trail order → d < length rows → 0 < left_of left d → (IsNew rows left d → ⊥) → IsOpen rows left d
is_open rows left trail order d search row some met =
    elim (cases_lt (left_of left d) (input_count rows d + 2)) [
      | inl low ↦ (some, low)
      | inr high ↦ absurd (met (let most = search.bounded d row in omega (arith, high, most)))
    ]

-- a new node, needed by the last of the trail, is met
pub met : (rows : List (List ℕ)) (left trail order : List ℕ) (x : ℕ) → IsSearch rows left trail order → x < length rows → IsNew rows left x → ((j : ℕ) → suc j ≡ length trail → Contains (inputs_of rows (get_or trail j 0)) x) → IsSearch rows (set left x (left_of left x - 1)) (trail ++ x ∷ []) order
met rows left trail order x search row new link =
    let here : x < length left = omega (arith, row, search.sized) in
    let lower = set_lower left x (left_of left x - 1) here (omega arith) in
    let fresh : Contains trail x → ⊥ = λ on. absurd (omega (arith, (search.opened x on).1.1, new)) in
    record {
      sized = length-set left x (left_of left x - 1) ∙ search.sized;
      bounded = λ d lt. omega (arith, lower d, search.bounded d lt);
      passed = λ d k lt inner some.
          elim (set_cases left x (left_of left x - 1) d here) [
            | inl at ↦
                let counts : input_count rows d ≡ input_count rows x = ap (input_count rows) at.0 in
                absurd (omega (arith, at.1, some, new, counts))
            | inr other ↦
                let done = search.passed d k lt inner (omega (arith, other.1, some)) in
                omega (arith, lower (get_or (inputs_of rows d) k 0), done)
          ];
      on_trail = λ d lt is.
          elim (set_cases left x (left_of left x - 1) d here) [
            | inl at ↦ subst (λ (y : ℕ). Contains (trail ++ x ∷ []) y) (sym at.0) (Contains-push trail x)
            | inr other ↦ Contains-append_left trail (x ∷ []) d (search.on_trail d lt (omega (arith, other.1, is.0), omega (arith, other.1, is.1)))
          ];
      opened = λ d on.
          elim (set_cases left x (left_of left x - 1) d here) [
            | inl at ↦
                let counts : input_count rows d ≡ input_count rows x = ap (input_count rows) at.0 in
                (subst (λ (y : ℕ). y < length rows) (sym at.0) row, (omega (arith, at.1, new), omega (arith, at.1, new, counts)))
            | inr other ↦
                elim (Contains-push_cases trail x d on) [
                  | inl old ↦
                      let was = search.opened d old in
                      (was.0, (omega (arith, other.1, was.1.0), omega (arith, other.1, was.1.1)))
                  | inr same ↦ absurd (other.0 (sym same))
                ]
          ];
      linked = λ j lt.
          let long : length (trail ++ x ∷ []) ≡ length trail + 1 = length_push trail x in
          let first = get_or_append_left trail (x ∷ []) 0 j (omega arith) in
          elim (cases_lt (suc j) (length trail)) [
            | inl inner ↦
                let second = get_or_append_left trail (x ∷ []) 0 (suc j) inner in
                subst (λ (y : ℕ). Contains (inputs_of rows y) (get_or (trail ++ x ∷ []) (suc j) 0)) (sym first)
                (subst (λ (y : ℕ). Contains (inputs_of rows (get_or trail j 0)) y) (sym second) (search.linked j inner))
            | inr past ↦
                let last : length trail ≡ suc j = omega arith in
                let second = get_or_at trail x [] 0 (suc j) last in
                subst (λ (y : ℕ). Contains (inputs_of rows y) (get_or (trail ++ x ∷ []) (suc j) 0)) (sym first)
                (subst (λ (y : ℕ). Contains (inputs_of rows (get_or trail j 0)) y) (sym second) (link j (sym last)))
          ];
      apart = distinct_push trail x search.apart fresh;
      in_order = λ d lt is.
          elim (set_cases left x (left_of left x - 1) d here) [
            | inl at ↦ absurd (omega (arith, at.1, is, new))
            | inr other ↦ search.in_order d lt (sym other.1 ∙ is)
          ];
      done = λ d in'.
          let was = search.done d in' in
          (was.0, omega (arith, lower d, was.1));
      once = search.once;
      rises = search.rises;
    }

-- along the trail one walks down
pub trail_walk : (rows : List (List ℕ)) (trail : List ℕ) → ((j : ℕ) → suc j < length trail → Contains (inputs_of rows (get_or trail j 0)) (get_or trail (suc j) 0)) → (n j : ℕ) → j + n < length trail → Walk rows (get_or trail j 0) (get_or trail (j + n) 0) n
trail_walk rows trail linked zero j lt = ap (λ (i : ℕ). get_or trail i 0) (omega arith)
trail_walk rows trail linked (suc n) j lt =
    let there : suc j + n ≡ j + suc n = omega arith in (
      get_or trail (suc j) 0,
      linked j (omega arith),
      subst (λ (i : ℕ). Walk rows (get_or trail (suc j) 0) (get_or trail i 0) n) there (trail_walk rows trail linked n (suc j) (omega arith)),
    )

-- an open input of the last of the trail is below itself
pub cyclic : (rows : List (List ℕ)) (left trail order : List ℕ) (top next : ℕ) → AreInRange rows → IsSearch rows left (trail ++ top ∷ []) order → Contains (inputs_of rows top) next → IsOpen rows left next → IsCyclic rows
cyclic rows left trail order top next ranged search input open' =
    let all : List ℕ = trail ++ top ∷ [] in
    let long : length (trail ++ top ∷ []) ≡ length trail + 1 = length_push trail top in
    let on = search.on_trail next (ranged.ranged top next input) open' in
    let start : get_or (trail ++ top ∷ []) on.0 0 ≡ next = get_or_default (trail ++ top ∷ []) on.0 0 next on.1 ∙ on.2 in
    let sum : on.0 + (length trail - on.0) ≡ length trail = omega (arith, on.1) in
    let walk = trail_walk rows (trail ++ top ∷ []) search.linked (length trail - on.0) on.0 (omega (arith, on.1)) in
    let end : get_or (trail ++ top ∷ []) (on.0 + (length trail - on.0)) 0 ≡ top = ap (λ (i : ℕ). get_or (trail ++ top ∷ []) i 0) sum ∙ get_or_at trail top [] 0 (length trail) refl in
    let down = subst (λ (y : ℕ). Walk rows next y (length trail - on.0)) end (subst (λ (x : ℕ). Walk rows x (get_or (trail ++ top ∷ []) (on.0 + (length trail - on.0)) 0) (length trail - on.0)) start walk) in
    record { node = next; below = record { steps = length trail - on.0; walk = walk_on rows next top next (length trail - on.0) down input } }

-- with an empty trail a node that is met is done
pub settled : (rows : List (List ℕ)) (left order : List ℕ) (d : ℕ) → IsSearch rows left [] order → d < length rows → left_of left d < input_count rows d + 2 → left_of left d ≡ 0
settled rows left order d search row less =
    elim (cases_lt 0 (left_of left d)) [
      | inl some ↦ absurd (omega (arith, (search.on_trail d row (some, less)).1))
      | inr none ↦ omega arith
    ]

-- a search starts with all nodes new
pub begun : (rows : List (List ℕ)) (left : List ℕ) → length left ≡ length rows → ((d : ℕ) → d < length rows → IsNew rows left d) → IsSearch rows left [] []
begun rows left sized new = record {
  sized = sized;
  bounded = λ d lt. omega (arith, new d lt);
  passed = λ d k lt inner some. absurd (omega (arith, new d lt));
  on_trail = λ d lt is. absurd (omega (arith, new d lt, is.1));
  opened = λ d on. absurd (omega (arith, on.1));
  linked = λ j lt. absurd (omega (arith, lt));
  apart = record { apart = λ j k d lt inside same. absurd (omega (arith, inside)) };
  in_order = λ d lt is. absurd (omega (arith, new d lt, is));
  done = λ d on. absurd (omega (arith, on.1));
  once = record { apart = λ j k d lt inside same. absurd (omega (arith, inside)) };
  rises = record { before = λ k c lt input. absurd (omega (arith, lt)) };
}

-- and ends with an order once all nodes are done
pub ended : (rows : List (List ℕ)) (left order : List ℕ) → IsSearch rows left [] order → ((d : ℕ) → d < length rows → left_of left d ≡ 0) → IsOrder rows order
ended rows left order search all = record {
  full = λ d lt. search.in_order d lt (all d lt);
  within = λ d on. (search.done d on).0;
  once = search.once;
  rises = search.rises;
}

-- a write of less is an advance, and lowers the sum
pub advanced : (left : List ℕ) (i v : ℕ) → i < length left → v < left_of left i → Advances left (set left i v)
advanced left i v lt low = record { sized = length-set left i v; falls = set_lower left i v lt (omega arith) }

pub lowered : (left : List ℕ) (i v : ℕ) → i < length left → v < left_of left i → sum (set left i v) < sum left
lowered left i v lt low =
    let total : sum (set left i v) + get_or left i 0 ≡ sum left + v = sum_by-set (λ (x : ℕ). x) left i v 0 lt in
    omega arith

-- advances add up
pub advanced_on : (first second third : List ℕ) → Advances first second → Advances second third → Advances first third
advanced_on first second third one two = record { sized = two.sized ∙ one.sized; falls = λ d. omega (arith, one.falls d, two.falls d) }

-- the first counts of a search
pub first_counts : (inputs : List (List Input)) (left : List ℕ) → left ≡ map (λ row. length row + 2) inputs → IsSearch (needed inputs) left [] []
first_counts inputs left is =
    let size : List Input → ℕ = λ row. length row + 2 in
    let long : length left ≡ length inputs = ap (λ (ls : List ℕ). length ls) is ∙ length-map inputs size in
    begun (needed inputs) left (long ∙ sym (rows_length inputs))
    (λ d lt.
    let row : d < length inputs = omega (arith, lt, rows_length inputs) in
    let read : left_of left d ≡ length (get_or inputs d []) + 2 = ap (λ (ls : List ℕ). get_or ls d 0) is ∙ get_or-map size inputs d [] 0 row in
    let same : input_count (needed inputs) d ≡ length (get_or inputs d []) = row_length inputs d (get_or inputs d []) row (get_or_default inputs d [] (get_or inputs d []) row) in
    omega arith)
