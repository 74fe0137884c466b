use Rattle.std.proofs.Common.{rules, ◌≡◌, ℕ, suc, ◌+◌, ◌-◌, List, [], ◌∷◌, ◌++◌, length, Contains, get_or, set, sym, ap, ◌∙◌, subst, arith}
use Rattle.std.proofs.lemmas.List.{get_or_at, length_push}
use Rattle.nd_graph.specs.Orders.{left_of, IsNew, IsSearch}
use Rattle.nd_graph.specs.Walks.{inputs_of}
use Rattle.nd_graph.specs.Graphs.{needed}
use Rattle.nd_graph.proofs.Rows.{rows_length}
use Rattle.nd_graph.proofs.Searching.{top_open, closed, met, cyclic, is_open}
use Rattle.nd_graph.proofs.order.step.Goals as goal

pub pass_done-requires-clause-within : goal.pass_done-requires-clause-within
pass_done-requires-clause-within c =
    omega (arith, (top_open (needed c.args.inputs.now) c.args.left.now c.args.trail.now.items c.args.order.now.items c.args.top c.requires.search).0, rows_length c.args.inputs.now)

pub pass_done-requires-clause-some : goal.pass_done-requires-clause-some
pass_done-requires-clause-some c =
    (top_open (needed c.args.inputs.now) c.args.left.now c.args.trail.now.items c.args.order.now.items c.args.top c.requires.search).1.0

pub returns-in_default-clause-search : goal.returns-in_default-clause-search
returns-in_default-clause-search c =
    let rows : List (List ℕ) = needed c.args.inputs.now in
    let left : List ℕ = c.pass_done.new.left in
    let kept : IsSearch rows (set left c.args.top 0) c.args.trail.now.items (c.args.order.now.items ++ c.args.top ∷ []) =
    closed rows left c.args.trail.now.items c.args.order.now.items c.args.top c.requires.ranged (c.in_default.ensures.search.kept c.args.trail.now.items c.args.order.now.items c.requires.search) c.in_default.ensures.next in
    subst (λ (order : List ℕ). IsSearch rows (set left c.args.top 0) c.args.trail.now.items order) (sym c.in_ok-push.ensures.items) kept

pub is_new-requires-clause-within : goal.is_new-requires-clause-within
is_new-requires-clause-within c = omega (arith, c.requires.ranged.ranged c.args.top c.in-Some.next c.in-Some.ensures.next.0, rows_length c.args.inputs.now)

pub returns-then-not-is_new-clause-err : goal.returns-then-not-is_new-clause-err
returns-then-not-is_new-clause-err c =
    let rows : List (List ℕ) = needed c.args.inputs.now in
    let left : List ℕ = c.pass_done.new.left in
    let next : ℕ = c.in-Some.next in
    let trail : List ℕ = c.args.trail.now.items in
    let order : List ℕ = c.args.order.now.items in
    let kept : IsSearch rows left (trail ++ c.args.top ∷ []) order = c.in-Some.ensures.search.kept trail order c.requires.search in
    let input = c.in-Some.ensures.next.0 in
    let met : IsNew rows left next → ⊥ = λ new. let told = c.is_new.ensures.1 new in search rules in
    cyclic rows left trail order c.args.top next c.requires.ranged kept input
    (is_open rows left (trail ++ c.args.top ∷ []) order next kept (c.requires.ranged.ranged c.args.top next input) c.in-Some.ensures.next.1 met)

pub returns-clause-search : goal.returns-clause-search
returns-clause-search c =
    let rows : List (List ℕ) = needed c.args.inputs.now in
    let left : List ℕ = c.pass_done.new.left in
    let next : ℕ = c.in-Some.next in
    let trail : List ℕ = c.args.trail.now.items ++ c.args.top ∷ [] in
    let order : List ℕ = c.args.order.now.items in
    let input = c.in-Some.ensures.next.0 in
    let new : IsNew rows left next = search rules in
    let here : IsSearch rows left trail order = c.in-Some.ensures.search.kept c.args.trail.now.items order c.requires.search in
    let link : (j : ℕ) → suc j ≡ length trail → Contains (inputs_of rows (get_or trail j 0)) next = λ j last.
    let long : length trail ≡ length c.args.trail.now.items + 1 = length_push c.args.trail.now.items c.args.top in
    let top : get_or trail j 0 ≡ c.args.top = get_or_at c.args.trail.now.items c.args.top [] 0 j (omega arith) in
    subst (λ (d : ℕ). Contains (inputs_of rows d) next) (sym top) input in
    let kept : IsSearch rows (set left next (left_of left next - 1)) (trail ++ next ∷ []) order =
    met rows left trail order next here (c.requires.ranged.ranged c.args.top next input) new link in
    let grown : c.meet.new.trail.items ≡ trail ++ next ∷ [] =
    c.in_ok-meet.ensures.trail ∙ ap (λ (xs : List ℕ). xs ++ next ∷ []) c.in_ok-push-2.ensures.items in
    subst (λ (xs : List ℕ). IsSearch rows c.meet.new.left xs order) (sym grown)
    (subst (λ (ls : List ℕ). IsSearch rows ls (trail ++ next ∷ []) order) (sym c.in_ok-meet.ensures.left) kept)
