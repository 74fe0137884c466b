-- The steps of the loops that resolve the links between the nodes.
use Rattle.std.proofs.Common.{◌≡◌, ℕ, ◌+◌, ◌<◌, ◌≤◌, List, [], ◌∷◌, ◌++◌, length, take, get_or, Contains, None, Some, refl, sym, ap, ◌∙◌, subst, inl, inr, arith}
use Rattle.std.specs.List.{AllZip}
use Rattle.std.proofs.lemmas.List.{take_more, take_all, get_or_default, get_or-take, length-take-le}
use Rattle.std.proofs.lemmas.List.Elements.{Contains-push_cases}
use Rattle.nd_links.specs.Settled.{AllNamesRise, NamesRise}
use Rattle.nd_graph.specs.Graphs.{IsNumber, IsAt}
use Rattle.nd_links.specs.Linking.{HasPath, Known, LacksPath}
use Rattle.nd_links.specs.Numbering.{LacksItem}
use Rattle.nd_links.specs.Whole.{AllNumbered, AreInputsThere, AreNumbered, AreOutputsThere, ArePlaces, HasInputs, HasOutputs, IsMissingOutput, IsNumbered, LacksInput, LacksName, LacksOutput}
use Rattle.nd_graph.specs.declared.graph.Input.{Input}
use Rattle.nd_line.specs.declared.line.NamedInput.{NamedInput}
use Rattle.nd_links.proofs.Zipped.{zip_push, zip_length, zip_at}

-- one more item of a list that is walked through
pub taken : {X : Type 0} (xs : List X) (i : ℕ) (x : X) → i < length xs → x ≡ get_or xs i x → take (i + 1) xs ≡ take i xs ++ x ∷ []
taken xs i x lt is = take_more xs i x lt ∙ ap (λ y. take i xs ++ y ∷ []) (sym is)

pub is_item : {X : Type 0} (xs : List X) (i : ℕ) (x : X) → i < length xs → x ≡ get_or xs i x → Contains xs x
is_item {X} xs i x lt is = (i, lt, sym is)

-- input derivations that are there
pub inputs_none : (paths : List (List ℕ)) (wants : List NamedInput) → HasInputs paths (take 0 wants)
inputs_none paths wants = record { there = λ w on. absurd (omega (arith, on.1)) }

pub inputs_more : (known : Known) (wants : List NamedInput) (i : ℕ) (w : NamedInput) → i < length wants → w ≡ get_or wants i w → HasInputs known.paths (take i wants) → HasPath known w → HasInputs known.paths (take (i + 1) wants)
inputs_more known wants i w lt is has found = record {
  there = λ v on.
      elim (Contains-push_cases (take i wants) w v (subst (λ (xs : List NamedInput). Contains xs v) (taken wants i w lt is) on)) [
        | inl old ↦ has.there v old
        | inr same ↦ subst (λ (x : NamedInput). Contains known.paths x.path) same found.there
      ];
}

pub inputs_all : (paths : List (List ℕ)) (wants : List NamedInput) (i : ℕ) → HasInputs paths (take i wants) → length wants ≤ i → HasInputs paths wants
inputs_all paths wants i has all = subst (λ (xs : List NamedInput). HasInputs paths xs) (take_all i wants all) has

pub input_lacking : (known : Known) (wants : List NamedInput) (i : ℕ) (w : NamedInput) → i < length wants → w ≡ get_or wants i w → LacksPath known w → LacksInput known.paths wants
input_lacking known wants i w lt is none = record { want = w; asked = is_item wants i w lt is; missing = none.missing }

-- places of names
pub places_none : (names wanted : List (List ℕ)) → ArePlaces names (take 0 wanted) []
places_none names wanted = record { each = tt }

pub places_more : (names wanted : List (List ℕ)) (places : List ℕ) (i : ℕ) (name : List ℕ) (place : ℕ) → i < length wanted → name ≡ get_or wanted i name → ArePlaces names (take i wanted) places → IsNumber names name (Some place) → ArePlaces names (take (i + 1) wanted) (places ++ place ∷ [])
places_more names wanted places i name place lt is so at = record {
  each = subst (λ (xs : List (List ℕ)). AllZip (IsAt names) xs (places ++ place ∷ [])) (sym (taken wanted i name lt is))
      (zip_push (IsAt names) (take i wanted) places name place so.each at);
}

pub places_all : (names wanted : List (List ℕ)) (places : List ℕ) (i : ℕ) → ArePlaces names (take i wanted) places → length wanted ≤ i → ArePlaces names wanted places
places_all names wanted places i so all = subst (λ (xs : List (List ℕ)). ArePlaces names xs places) (take_all i wanted all) so

pub item_lacks : (names wanted : List (List ℕ)) (i : ℕ) (name : List ℕ) → i < length wanted → name ≡ get_or wanted i name → IsNumber names name None → LacksItem names wanted
item_lacks names wanted i name lt is none = record { item = name; asked = is_item wanted i name lt is; missing = none }

-- one wanted name
pub only_wanted : (wanted : List (List ℕ)) (name : List ℕ) → length wanted ≡ 1 → name ≡ get_or wanted 0 name → wanted ≡ name ∷ []
only_wanted [] name one is = absurd (omega (arith, one))
only_wanted (first ∷ []) name one is = ap (λ (x : List ℕ). x ∷ []) (sym is)
only_wanted (first ∷ (second ∷ more)) name one is = absurd (omega (arith, one))

pub only_at : (names : List (List ℕ)) (name : List ℕ) (place : ℕ) → IsNumber names name (Some place) → ArePlaces names (name ∷ []) (place ∷ [])
only_at names name place at = record { each = (at, tt) }

pub only_lacks : (names : List (List ℕ)) (name : List ℕ) → IsNumber names name None → LacksItem names (name ∷ [])
only_lacks names name none = record { item = name; asked = (0, omega arith, refl); missing = none }

-- an input by number
pub input_numbered : (paths : List (List ℕ)) (names : List (List (List ℕ))) (want : NamedInput) (node : ℕ) (outputs : List ℕ) → IsAt paths want.path node → ArePlaces (get_or names node []) want.names outputs → IsNumbered paths names want (record { node = node; outputs = outputs })
input_numbered paths names want node outputs at places = record { node = at; outputs = places }

pub input_lacks : (paths : List (List ℕ)) (names : List (List (List ℕ))) (want : NamedInput) (node : ℕ) → IsAt paths want.path node → LacksItem (get_or names node []) want.names → LacksName paths names want
input_lacks paths names want node at lacks = record { name = lacks.item; node = node; named = lacks.asked; within = at.within; is = at.is; missing = lacks.missing }

-- the inputs of a node by number
pub row_none : (paths : List (List ℕ)) (names : List (List (List ℕ))) (wants : List NamedInput) → AreNumbered paths names (take 0 wants) []
row_none paths names wants = record { each = tt }

pub row_more : (paths : List (List ℕ)) (names : List (List (List ℕ))) (wants : List NamedInput) (row : List Input) (i : ℕ) (want : NamedInput) (input : Input) → i < length wants → want ≡ get_or wants i want → AreNumbered paths names (take i wants) row → IsNumbered paths names want input → AreNumbered paths names (take (i + 1) wants) (row ++ input ∷ [])
row_more paths names wants row i want input lt is so at = record {
  each = subst (λ (xs : List NamedInput). AllZip (IsNumbered paths names) xs (row ++ input ∷ [])) (sym (taken wants i want lt is))
      (zip_push (IsNumbered paths names) (take i wants) row want input so.each at);
}

pub row_all : (paths : List (List ℕ)) (names : List (List (List ℕ))) (wants : List NamedInput) (row : List Input) (i : ℕ) → AreNumbered paths names (take i wants) row → length wants ≤ i → AreNumbered paths names wants row
row_all paths names wants row i so all = subst (λ (xs : List NamedInput). AreNumbered paths names xs row) (take_all i wants all) so

-- numbered inputs have the outputs that are named of them
pub numbered_has : (paths : List (List ℕ)) (names : List (List (List ℕ))) (wants : List NamedInput) (inputs : List Input) → AreNumbered paths names wants inputs → HasOutputs paths names wants
numbered_has paths names wants inputs so = record {
  there = λ w name on named.
      let none : Input = record { node = 0; outputs = [] } in
      let here : IsNumbered paths names (get_or wants on.0 w) (get_or inputs on.0 none) = zip_at (IsNumbered paths names) wants inputs on.0 w none so.each on.1 in
      let mine : IsNumbered paths names w (get_or inputs on.0 none) = subst (λ (v : NamedInput). IsNumbered paths names v (get_or inputs on.0 none)) on.2 here in
      let input : Input = get_or inputs on.0 none in
      let of : List (List ℕ) = get_or names input.node [] in
      let place : IsAt of (get_or w.names named.0 name) (get_or input.outputs named.0 0) = zip_at (IsAt of) w.names input.outputs named.0 name 0 mine.outputs.each named.1 in
      record {
        node = input.node;
        within = mine.node.within;
        is = mine.node.is;
        has = (get_or input.outputs named.0 0, place.within, get_or_default of (get_or input.outputs named.0 0) name [] place.within ∙ place.is ∙ named.2);
      };
}

pub rows_have : (paths : List (List ℕ)) (names : List (List (List ℕ))) (wants : List (List NamedInput)) (rows : List (List Input)) → AllNumbered paths names wants rows → AreOutputsThere paths names wants
rows_have paths names wants rows so = record {
  there = λ d lt. numbered_has paths names (get_or wants d []) (get_or rows d []) (zip_at (AreNumbered paths names) wants rows d [] [] so.each lt);
}

-- numbered inputs have their nodes
pub numbered_reach : (paths : List (List ℕ)) (names : List (List (List ℕ))) (wants : List NamedInput) (inputs : List Input) → AreNumbered paths names wants inputs → HasInputs paths wants
numbered_reach paths names wants inputs so = record {
  there = λ w on.
      let none : Input = record { node = 0; outputs = [] } in
      let here : IsNumbered paths names (get_or wants on.0 w) (get_or inputs on.0 none) = zip_at (IsNumbered paths names) wants inputs on.0 w none so.each on.1 in
      let input : Input = get_or inputs on.0 none in
      let at : IsAt paths w.path input.node = subst (λ (v : NamedInput). IsAt paths v.path input.node) on.2 here.node in
      (input.node, at.within, get_or_default paths input.node w.path [] at.within ∙ at.is);
}

pub rows_reach : (paths : List (List ℕ)) (names : List (List (List ℕ))) (wants : List (List NamedInput)) (rows : List (List Input)) → AllNumbered paths names wants rows → AreInputsThere paths wants
rows_reach paths names wants rows so = record {
  there = λ d lt. numbered_reach paths names (get_or wants d []) (get_or rows d []) (zip_at (AreNumbered paths names) wants rows d [] [] so.each lt);
}

-- the first line that names an output that isn't there
pub output_missing : (paths : List (List ℕ)) (names : List (List (List ℕ))) (wants : List (List NamedInput)) (rows : List (List Input)) (i : ℕ) (wanted : List NamedInput) → i < length wants → wanted ≡ get_or wants i wanted → AllNumbered paths names (take i wants) rows → LacksOutput paths names wanted → IsMissingOutput paths names wants (length rows + 1)
output_missing paths names wants rows i wanted lt is so lacks =
    let first : AreOutputsThere paths names (take i wants) = rows_have paths names (take i wants) rows so in
    let long : length (take i wants) ≡ i = length-take-le i wants (omega arith) in
    let count : length rows ≡ i = sym (zip_length (AreNumbered paths names) (take i wants) rows so.each) ∙ long in
    record {
      place = i;
      within = lt;
      before = λ d low.
          subst (λ (ws : List NamedInput). HasOutputs paths names ws) (get_or-take i wants d [] low) (first.there d (omega arith));
      lacks = subst (λ (ws : List NamedInput). LacksOutput paths names ws) (is ∙ get_or_default wants i wanted [] lt) lacks;
      number = ap (λ (n : ℕ). n + 1) count;
    }

-- the names that were read rise
pub names_rise_at : (names : List (List (List ℕ))) (node : ℕ) (row : List (List ℕ)) → node < length names → row ≡ get_or names node row → AllNamesRise names → NamesRise row
names_rise_at names node row lt is all = subst (λ (xs : List (List ℕ)). NamesRise xs) (get_or_default names node [] row lt ∙ sym is) (all.rise node lt)
