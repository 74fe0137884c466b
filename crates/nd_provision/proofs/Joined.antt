-- Lists of what derivations need.
use Rattle.std.proofs.Common.{◌≡◌, ℕ, zero, suc, ◌+◌, ◌<◌, List, [], ◌∷◌, ◌++◌, length, get_or, take, map, sym, ap, subst, ◌∙◌, arith, inl, inr, Some, false}
use Rattle.std.specs.List.{Contains, flat_map, slice_get}
use Rattle.std.proofs.lemmas.List.{get_or-map, length-map, get_or_default, flat_map_more, take_more}
use Rattle.std.proofs.lemmas.Option.{slice_get-get_or, get_or_from_slice_get}
use Rattle.std.proofs.lemmas.List.Elements.{Contains-append_left, Contains-append_right, Contains-append_cases, Contains-get_or}
use Rattle.nd_graph.specs.declared.graph.Input.{Input}
use Rattle.nd_graph.specs.Graphs.{Nodes, nodes_of, IsSound}
use Rattle.nd_history.specs.Premises.{Premises, premises}
use Rattle.nd_history.specs.References.{sources_of, outputs_of, inputs_at, IsSource, IsNeededBy}
use Rattle.nd_provision.specs.Stored.{AreSources, AreNeeded, named_outputs}
use Rattle.nd_provision.proofs.Gains.{read_there}
use Rattle.nd_history.proofs.Closing.{node_needed}
use Rattle.nd_history.proofs.Reported.{nothing_in, contains_here, contains_there, contains_cases}

-- premises with this graph, and nothing else
abbrev pub with_graph : Nodes → Premises
with_graph graph = premises graph [] (record { system = []; extra = []; features = []; jobs = 0 }) [] false

-- ---- lists joined

-- x is in the list at some place
record IsInOne {X A : Type 0} (f : X → List A) (xs : List X) (a : A) : Type 0 where
  item : X
  listed : Contains xs item
  there : Contains (f item) a

one_later : {X A : Type 0} → (f : X → List A) (x : X) (xs : List X) (a : A) → IsInOne f xs a → IsInOne f (x ∷ xs) a
one_later f x xs a h = record { item = h.item; listed = contains_there x xs h.item h.listed; there = h.there }

in_one : {X A : Type 0} → (f : X → List A) (xs : List X) (a : A) → Contains (flat_map f xs) a → IsInOne f xs a
in_one f [] a h = absurd (nothing_in a h)
in_one f (x ∷ xs) a h = elim (Contains-append_cases (f x) (flat_map f xs) a h) [
  | inl here ↦ record { item = x; listed = contains_here x xs; there = here }
  | inr later ↦ one_later f x xs a (in_one f xs a later)
]

in_joined : {X A : Type 0} → (f : X → List A) (xs : List X) (x : X) (a : A) → Contains xs x → Contains (f x) a → Contains (flat_map f xs) a
in_joined f [] x a h there = absurd (nothing_in x h)
in_joined f (y ∷ xs) x a h there = elim (contains_cases y xs x h) [
  | inl same ↦ Contains-append_left (f y) (flat_map f xs) a (subst (λ z. Contains (f z) a) (sym same) there)
  | inr later ↦ Contains-append_right (f y) (flat_map f xs) a (in_joined f xs x a later there)
]

-- ---- sources

pub sources_joined : (i : Premises) → AreSources i (flat_map (λ x. x) i.graph.sources)
sources_joined i = record { exact = λ p. (to p, from p) }
  where
    to : (p : List ℕ) → Contains (flat_map (λ x. x) i.graph.sources) p → IsSource i p
    to p h = let one = in_one (λ (x : List (List ℕ)). x) i.graph.sources p h in record {
      drv = one.listed.0;
      listed = subst (λ (ps : List (List ℕ)). Contains ps p) (sym (get_or_default i.graph.sources one.listed.0 [] one.item one.listed.1 ∙ one.listed.2)) one.there;
    }

    from : (p : List ℕ) → IsSource i p → Contains (flat_map (λ x. x) i.graph.sources) p
    from p s = in_joined (λ (x : List (List ℕ)). x) i.graph.sources (sources_of i s.drv) p (within s.drv i.graph.sources p s.listed) s.listed
      where
        within : (d : ℕ) (rows : List (List (List ℕ))) (p : List ℕ) → Contains (get_or rows d []) p → Contains rows (get_or rows d [])
        within d [] p h = absurd (nothing_in p h)
        within zero (row ∷ rows) p h = contains_here row rows
        within (suc d) (row ∷ rows) p h = contains_there row rows (get_or rows d []) (within d rows p h)

-- ---- what one derivation needs

-- an output at a named place, where the places are there
named_there : (i : Premises) (input : Input) (p : List ℕ) → ((place : ℕ) → Contains input.outputs place → place < length (outputs_of i input.node)) → Contains (named_outputs i.graph input) p
    → (place : ℕ) × Contains input.outputs place × (slice_get (outputs_of i input.node) place ≡ Some p)
named_there i input p ranged h =
    let at : h.0 < length input.outputs = subst (λ (n : ℕ). h.0 < n) (length-map input.outputs (λ k. get_or (outputs_of i input.node) k [])) h.1 in
    let place = get_or input.outputs h.0 0 in
    let listed : Contains input.outputs place = (h.0, at, get_or_default input.outputs h.0 place 0 at) in
    let path : get_or (outputs_of i input.node) place [] ≡ p = sym (get_or-map (λ k. get_or (outputs_of i input.node) k []) input.outputs h.0 0 p at) ∙ h.2 in
    (place, listed, slice_get-get_or (outputs_of i input.node) place [] (ranged place listed) ∙ ap Some path)

named_listed : (i : Premises) (input : Input) (p : List ℕ) (place : ℕ) → Contains input.outputs place → slice_get (outputs_of i input.node) place ≡ Some p → Contains (named_outputs i.graph input) p
named_listed i input p place listed path = (
  listed.0,
  rw (length-map input.outputs (λ k. get_or (outputs_of i input.node) k [])) listed.1,
  get_or-map (λ k. get_or (outputs_of i input.node) k []) input.outputs listed.0 place p listed.1
      ∙ ap (λ (k : ℕ). get_or (outputs_of i input.node) k []) listed.2 ∙ get_or_from_slice_get (outputs_of i input.node) place p [] path,
)

pub needed_joined : (i : Premises) (d : ℕ) → ((input : Input) (place : ℕ) → Contains (inputs_at i d) input → Contains input.outputs place → place < length (outputs_of i input.node))
    → AreNeeded i d (sources_of i d ++ flat_map (named_outputs i.graph) (inputs_at i d))
needed_joined i d ranged = record { exact = λ p. (to p, from p) }
  where
    to : (p : List ℕ) → Contains (sources_of i d ++ flat_map (named_outputs i.graph) (inputs_at i d)) p → IsNeededBy i d p
    to p h = elim (Contains-append_cases (sources_of i d) (flat_map (named_outputs i.graph) (inputs_at i d)) p h) [
      | inl source ↦ inl source
      | inr named ↦
          let one = in_one (named_outputs i.graph) (inputs_at i d) p named in
          let at = named_there i one.item p (λ place k. ranged one.item place one.listed k) one.there in
          inr (record { input = one.item; needed = one.listed; place = at.0; named = at.1; path = at.2 })
    ]

    from : (p : List ℕ) → IsNeededBy i d p → Contains (sources_of i d ++ flat_map (named_outputs i.graph) (inputs_at i d)) p
    from p (inl source) = Contains-append_left (sources_of i d) (flat_map (named_outputs i.graph) (inputs_at i d)) p source
    from p (inr n) = Contains-append_right (sources_of i d) (flat_map (named_outputs i.graph) (inputs_at i d)) p
        (in_joined (named_outputs i.graph) (inputs_at i d) n.input p n.needed (named_listed i n.input p n.place n.named n.path))

-- one more input's named outputs
pub needed_more : (i : Premises) (d n : ℕ) (input : Input) (places : List ℕ) (outputs : List (List ℕ)) → n < length (inputs_at i d) → input ≡ get_or (inputs_at i d) n input → places ≡ input.outputs → outputs ≡ outputs_of i input.node
    → (sources_of i d ++ flat_map (named_outputs i.graph) (take n (inputs_at i d))) ++ map (λ k. get_or outputs k []) places ≡ sources_of i d ++ flat_map (named_outputs i.graph) (take (n + 1) (inputs_at i d))
needed_more i d n input places outputs lt is at of =
    ap (λ (ks : List ℕ). (sources_of i d ++ flat_map (named_outputs i.graph) (take n (inputs_at i d))) ++ map (λ k. get_or outputs k []) ks) at
    ∙ ap (λ (xs : List (List ℕ)). (sources_of i d ++ flat_map (named_outputs i.graph) (take n (inputs_at i d))) ++ map (λ k. get_or xs k []) input.outputs) of
    ∙ flat_map_more (named_outputs i.graph) (sources_of i d) (take n (inputs_at i d)) input
    ∙ ap (λ (xs : List Input). sources_of i d ++ flat_map (named_outputs i.graph) xs) (sym (take_more (inputs_at i d) n input lt ∙ ap (λ (x : Input). take n (inputs_at i d) ++ x ∷ []) (sym is)))

-- an input that was read is one of the derivation's
pub input_there : (i : Premises) (d : ℕ) (items : List Input) (k : ℕ) (input : Input) → items ≡ inputs_at i d → k < length items → input ≡ get_or items k input → Contains (inputs_at i d) input
input_there i d items k input is lt at = subst (λ (xs : List Input). Contains xs input) is (read_there items k input lt at)

-- the node of an input is there
pub node_there : (i : Premises) (d : ℕ) (input : Input) → IsSound i.graph → Contains (inputs_at i d) input → input.node < length i.graph.paths
node_there i d input sound h =
    let within : input.node < length (map nodes_of i.graph.inputs) = sound.ranged.ranged d input.node (node_needed i d input h) in
    omega (arith, within, length-map i.graph.inputs nodes_of, sound.inputs_sized)

-- .. and so are the outputs that it names
pub places_there : (i : Premises) (d : ℕ) (input : Input) (places : List ℕ) (outputs : List (List ℕ)) → IsSound i.graph → Contains (inputs_at i d) input → places ≡ input.outputs → outputs ≡ outputs_of i input.node
    → (k e : ℕ) → k < length places → get_or places k e < length outputs
places_there i d input places outputs sound h at of k e lt =
    let named : Contains input.outputs (get_or places k e) = subst (λ (ks : List ℕ). Contains ks (get_or places k e)) at (Contains-get_or places k e lt) in
    subst (λ (xs : List (List ℕ)). get_or places k e < length xs) (sym of) (sound.names.named d input (get_or places k e) h named)
