use Rattle.std.proofs.Common.{rules, ◌≡◌, ℕ, ◌-◌, ◌<◌, List, [], ◌∷◌, ◌++◌, length, set, sym, ap, ◌∙◌, subst, arith, get_or-set_same}
use Rattle.nd_graph.specs.Graphs.{needed}
use Rattle.nd_graph.specs.Orders.{left_of, Advances, IsNew, IsSearch}
use Rattle.nd_graph.proofs.Rows.{rows_length}
use Rattle.nd_graph.proofs.Searching.{met, advanced}
use Rattle.nd_graph.proofs.order.visit.Goals as goal

pub loop-top-init : goal.loop-top-init
loop-top-init c =
    let rows : List (List ℕ) = needed c.args.inputs.now in
    let old : List ℕ = c.args.left.now in
    let root : ℕ = c.args.root in
    let order : List ℕ = c.args.order.now.items in
    let row : root < length rows = omega (arith, c.requires.root, rows_length c.args.inputs.now) in
    let new : IsNew rows old root = search rules in
    let here : root < length old = omega (arith, row, c.requires.search.sized) in
    let kept : IsSearch rows (set old root (left_of old root - 1)) ([] ++ root ∷ []) order =
    met rows old [] order root c.requires.search row new (λ j last. absurd (omega (arith, last))) in
    let grown : c.meet.new.trail.items ≡ root ∷ [] =
    c.in_ok-meet.ensures.trail ∙ ap (λ (xs : List ℕ). xs ++ root ∷ []) c.requires.trail in
    let left : c.meet.new.left ≡ set old root (left_of old root - 1) = c.in_ok-meet.ensures.left in
    let steps : Advances old (set old root (left_of old root - 1)) = advanced old root (left_of old root - 1) here (omega (arith, new)) in
    let advances : Advances old c.meet.new.left = subst (λ (ls : List ℕ). Advances old ls) (sym left) steps in
    record {
      search = subst (λ (xs : List ℕ). IsSearch rows c.meet.new.left xs order) (sym grown) (subst (λ (ls : List ℕ). IsSearch rows ls (root ∷ []) order) (sym left) kept);
      advances = advances;
      met =
          let now : left_of c.meet.new.left root ≡ left_of old root - 1 = ap (λ (ls : List ℕ). left_of ls root) left ∙ get_or-set_same old root (left_of old root - 1) 0 here in
          omega (arith, now, new);
    }
