-- What is referred to is known, and what is known keeps its references: so closures stay as they are.
use Rattle.std.proofs.Common.{◌≡◌, ◌⊎◌, ℕ, List, [], ◌∷◌, ◌++◌, get_or, map, refl, sym, ap, subst, ◌∙◌, inl, inr, Some}
use Rattle.std.specs.Prelude.{◌↔◌}
use Rattle.std.specs.List.{Contains, zip, slice_get}
use Rattle.std.proofs.lemmas.Bool.{cases_Bool, or_right}
use Rattle.std.proofs.lemmas.List.{length-map}
use Rattle.std.proofs.lemmas.Option.{slice_get_within, get_or_from_slice_get}
use Rattle.std.proofs.Math.ListN as seq
use Rattle.nd_graph.specs.declared.graph.Input.{Input}
use Rattle.nd_graph.specs.Graphs.{nodes_of}
use Rattle.nd_closure.specs.Tables.{is_listed, refs_of}
use Rattle.nd_history.specs.declared.entry.Entry.{Entry}
use Rattle.nd_history.specs.declared.entry.Entry.TheVariants.{Built}
use Rattle.nd_history.specs.Premises.{Premises}
use Rattle.nd_history.specs.History.{is_built, builds}
use Rattle.nd_history.specs.Standing.{needed_by, AreInputsBuilt}
use Rattle.nd_history.specs.Legal.{IsLegal}
use Rattle.nd_history.specs.References.{IsAlong, outputs_of, inputs_at, IsNamedBy, IsGiven, reports, Refers, IsNeededBy, IsInClosure, IsBuiltPath}
use Rattle.nd_history.specs.References.IsAlong.{seed, step}
use Rattle.nd_history.specs.References.Refers.{listed, reported}
use Rattle.nd_history.specs.Closing.{ClosureStays}
use Rattle.nd_history.proofs.Legality.{leased_fresh}
use Rattle.nd_history.proofs.Reported.{nothing_in, zip_refs, refs_first, refs_second, built_listed, built_on, just_built}

-- ---- sets that are closed under a relation

-- more seeds and more references reach more
pub along_more : {R S : List ℕ → List ℕ → Type 0} {P Q : List ℕ → Type 0} → ((p : List ℕ) → P p → Q p) → ((p q : List ℕ) → R p q → S p q) → (x : List ℕ) → IsAlong R P x → IsAlong S Q x
along_more seeds refs x (seed p h) = seed p (seeds p h)
along_more seeds refs x (step p q r h) = step p q (along_more seeds refs p r) (refs p q h)

-- a closed set with the seeds holds what is reached
pub along_within : {R : List ℕ → List ℕ → Type 0} {P : List ℕ → Type 0} (K : List ℕ → Type 0) → ((p : List ℕ) → P p → K p) → ((p q : List ℕ) → K p → R p q → K q) → (x : List ℕ) → IsAlong R P x → K x
along_within K seeds closed x (seed p h) = seeds p h
along_within K seeds closed x (step p q r h) = closed p q (along_within K seeds closed p r) h

-- .. also where the references are the same in that set alone
pub along_known : {R S : List ℕ → List ℕ → Type 0} {P Q : List ℕ → Type 0} (K : List ℕ → Type 0) → ((x : List ℕ) → IsAlong R P x → K x) → ((p : List ℕ) → P p → Q p) → ((p q : List ℕ) → K p → R p q → S p q) → (x : List ℕ) → IsAlong R P x → IsAlong S Q x
along_known K known seeds same x (seed p h) = seed p (seeds p h)
along_known K known seeds same x (step p q r h) = step p q (along_known K known seeds same p r) (same p q (known p r) h)

-- ---- known paths

-- p is given, or an output of what is built
abbrev pub IsKnown : Premises → List Entry → List ℕ → Type 0
IsKnown i past p = IsGiven i p ⊎ IsBuiltPath i past p

pub known_on : (i : Premises) (past : List Entry) (e : Entry) (p : List ℕ) → IsKnown i past p → IsKnown i (e ∷ past) p
known_on i past e p (inl given) = inl given
known_on i past e p (inr built) = inr (built_on i past e p built)

-- with the same reports the references are the same
pub refers_alike : (i : Premises) (old new : List Entry) → reports i old ≡ reports i new → (p q : List ℕ) → Refers i old p q → Refers i new p q
refers_alike i old new same p q (listed given h) = listed given h
refers_alike i old new same p q (reported not_given h) = reported not_given (subst (λ (t : List (List ℕ × List (List ℕ))). Contains (refs_of t p) q) same h)

-- the place in a list of rows
named_node : (inputs : List (List Input)) (d : ℕ) (input : Input) → Contains (get_or inputs d []) input → Contains (get_or (map nodes_of inputs) d []) input.node
named_node inputs d input h =
    subst (λ (nodes : List ℕ). Contains nodes input.node) (sym (seq.get_or-map nodes_of inputs d []))
    (h.0, rw (length-map (get_or inputs d []) (λ (x : Input). x.node)) h.1, seq.get_or-map (λ (x : Input). x.node) (get_or inputs d []) h.0 input ∙ ap (λ (x : Input). x.node) h.2)

pub node_needed : (i : Premises) (d : ℕ) (input : Input) → Contains (inputs_at i d) input → Contains (needed_by i d) input.node
node_needed i d input h = named_node i.graph.inputs d input h

pub at_place : (xs : List (List ℕ)) (k : ℕ) (p : List ℕ) → slice_get xs k ≡ Some p → Contains xs p
at_place xs k p h = (k, slice_get_within xs k p h, get_or_from_slice_get xs k p p h)

-- an output that d names of an input is built where d's inputs are
pub named_built : (i : Premises) (past : List Entry) (d : ℕ) (p : List ℕ) → AreInputsBuilt i past d → IsNamedBy i d p → IsBuiltPath i past p
named_built i past d p inputs n = record {
  drv = n.input.node;
  built = inputs.built n.input.node (node_needed i d n.input n.needed);
  output = record { listed = at_place (outputs_of i n.input.node) n.place p n.path };
}

-- what d needs at once is known where its inputs are built
pub needed_known : (i : Premises) (past : List Entry) (d : ℕ) → AreInputsBuilt i past d → (p : List ℕ) → IsNeededBy i d p → IsKnown i past p
needed_known i past d inputs p (inl source) = inl (seed p (record { drv = d; listed = source }))
needed_known i past d inputs p (inr named) = inr (named_built i past d p inputs named)

-- what known paths are said to refer to is known
known_by : (i : Premises) (past : List Entry) → ((p q : List ℕ) → Contains (refs_of (reports i past) p) q → IsKnown i past q) → (p q : List ℕ) → Refers i past p q → IsKnown i past q
known_by i past said p q (listed given h) = inl (step p q given h)
known_by i past said p q (reported not_given h) = said p q h

-- what builds reported is known
pub reported_known : (i : Premises) (past : List Entry) → IsLegal i past → (p q : List ℕ) → Contains (refs_of (reports i past) p) q → IsKnown i past q
reported_known i [] legal p q h = absurd (nothing_in q h)
reported_known i (Built d refs ∷ past) legal p q h =
    elim (cases_Bool (is_listed (reports i past) p)) [
      | inl before ↦ known_on i past (Built d refs) q
          (reported_known i past legal.1 p q (subst (λ (rs : List (List ℕ)). Contains rs q) (refs_first (reports i past) (zip (outputs_of i d) refs) p before) h))
      | inr new ↦
          let among = zip_refs (outputs_of i d) refs p q (subst (λ (rs : List (List ℕ)). Contains rs q) (refs_second (reports i past) (zip (outputs_of i d) refs) p new) h) in
          let inputs = (leased_fresh i past legal.1 d legal.0.may.live).inputs in
          elim (legal.0.may.right.within among.list q among.listed among.there) [
            | inl close ↦ known_on i past (Built d refs) q
                (along_within (IsKnown i past) (needed_known i past d inputs) (λ x y _ r. known_by i past (λ a b g. reported_known i past legal.1 a b g) x y r) q close)
            | inr out ↦ inr (just_built i past d refs q out)
          ]
    ]
reported_known i (e ∷ past) legal p q h = known_on i past e q (reported_known i past legal.1 p q h)

-- what is referred to is known
pub referred_known : (i : Premises) (past : List Entry) → IsLegal i past → (p q : List ℕ) → Refers i past p q → IsKnown i past q
referred_known i past legal p q r = known_by i past (reported_known i past legal) p q r

-- the closure of d is known where d's inputs are built
pub closure_known : (i : Premises) (past : List Entry) → IsLegal i past → (d : ℕ) → AreInputsBuilt i past d → (p : List ℕ) → IsInClosure i past d p → IsKnown i past p
closure_known i past legal d inputs p h = along_within (IsKnown i past) (needed_known i past d inputs) (λ x y _ r. referred_known i past legal x y r) p h

-- ---- known paths keep their references

refs_same : (i : Premises) (past : List Entry) (e : Entry) → IsLegal i past → (p : List ℕ) → IsBuiltPath i past p → refs_of (reports i (e ∷ past)) p ≡ refs_of (reports i past) p
refs_same i past (Built d refs) legal p b = refs_first (reports i past) (zip (outputs_of i d) refs) p (built_listed i past legal b.drv p b.built b.output.listed)
refs_same i past e legal p b = refl

pub refers_before : (i : Premises) (past : List Entry) (e : Entry) → IsLegal i past → (p q : List ℕ) → IsKnown i past p → Refers i (e ∷ past) p q → Refers i past p q
refers_before i past e legal p q known (listed given h) = listed given h
refers_before i past e legal p q (inl given) (reported not_given h) = absurd (not_given given)
refers_before i past e legal p q (inr b) (reported not_given h) = reported not_given (subst (λ (rs : List (List ℕ)). Contains rs q) (refs_same i past e legal p b) h)

pub refers_after : (i : Premises) (past : List Entry) (e : Entry) → IsLegal i past → (p q : List ℕ) → IsKnown i past p → Refers i past p q → Refers i (e ∷ past) p q
refers_after i past e legal p q known (listed given h) = listed given h
refers_after i past e legal p q (inl given) (reported not_given h) = absurd (not_given given)
refers_after i past e legal p q (inr b) (reported not_given h) = reported not_given (subst (λ (rs : List (List ℕ)). Contains rs q) (sym (refs_same i past e legal p b)) h)

-- ---- closures stay

-- one more entry leaves d's closure as it is
pub stays_once : (i : Premises) (past : List Entry) (e : Entry) (d : ℕ) → IsLegal i (e ∷ past) → AreInputsBuilt i past d → (p : List ℕ) → IsInClosure i (e ∷ past) d p ↔ IsInClosure i past d p
stays_once i past e d legal inputs p = (
  closure_before i past e d legal inputs p,
  along_known (IsKnown i past) (closure_known i past legal.1 d inputs) (λ x h. h) (λ x y k r. refers_after i past e legal.1 x y k r) p,
)
  where
    closure_before : (i : Premises) (past : List Entry) (e : Entry) (d : ℕ) → IsLegal i (e ∷ past) → AreInputsBuilt i past d → (x : List ℕ) → IsInClosure i (e ∷ past) d x → IsInClosure i past d x
    closure_before i past e d legal inputs x (seed p h) = seed p h
    closure_before i past e d legal inputs x (step p q r h) =
        let there = closure_before i past e d legal inputs p r in
        step p q there (refers_before i past e legal.1 p q (closure_known i past legal.1 d inputs p there) h)

-- the inputs stay built
inputs_stay : (i : Premises) (past : List Entry) (d : ℕ) (e : Entry) → AreInputsBuilt i past d → AreInputsBuilt i (e ∷ past) d
inputs_stay i past d e inputs = record { built = λ c h. or_right (builds c e) (is_built c past) (inputs.built c h) }

pub inputs_later : (i : Premises) (later past : List Entry) (d : ℕ) → AreInputsBuilt i past d → AreInputsBuilt i (later ++ past) d
inputs_later i [] past d inputs = inputs
inputs_later i (e ∷ later) past d inputs = inputs_stay i (later ++ past) d e (inputs_later i later past d inputs)

pub closing : (i : Premises) (later past : List Entry) (d : ℕ) → IsLegal i (later ++ past) → AreInputsBuilt i past d → (p : List ℕ) → IsInClosure i (later ++ past) d p ↔ IsInClosure i past d p
closing i [] past d legal inputs p = (λ h. h, λ h. h)
closing i (e ∷ later) past d legal inputs p =
    let once = stays_once i (later ++ past) e d legal (inputs_later i later past d inputs) p in
    let rest = closing i later past d legal.1 inputs p in
    (λ h. rest.0 (once.0 h), λ h. once.1 (rest.1 h))

pub closure_stays : ClosureStays
closure_stays = record { stays = closing }
