use Rattle.std.proofs.Common.{◌<◌, Vec, ℕ, Global, vec_len, vec_capacity, length, get_or, ap, sym, ◌∙◌, arith}
use Rattle.nd_failure.proofs.VisitFacts.{size_of-put, size_of-less, visited_again, visited_more}
use Rattle.nd_failure.specs.Spread.{size_of}
use Rattle.nd_failure.proofs.spread.visit.Goals as goal
use Rattle.nd_failure.proofs.spread.visit.Goals.{then-not-contains, else-not-contains}

pub push_reserved-requires : goal.push_reserved-requires
push_reserved-requires c =
    let node = get_or c.args.nodes.now c.loop-node.node-index 0 in
    let in_range : node < length c.loop-node.doomed =
    omega (arith, c.requires.in_range c.loop-node.node-index 0 c.loop-node-test.true, c.loop-node.invariant.visited.sized) in
    omega (
      arith,
      size_of-less c.loop-node.doomed node in_range (sym c.contains.ensures ∙ c.if-not-contains.true),
      c.loop-node.invariant.visited.sized,
    )

pub loop-node-preserved : goal.loop-node-preserved
loop-node-preserved c =
    let node = get_or c.args.nodes.now c.loop-node.node-index 0 in
    let in_range : node < length c.loop-node.doomed =
    omega (arith, c.requires.in_range c.loop-node.node-index 0 c.loop-node-test.true, c.loop-node.invariant.visited.sized) in
    elim c.if-not-contains.branch [
      | then-not-contains w ↦
          let doomed = w.doomed-is ∙ w.insert.ensures in
          let size = ap size_of doomed ∙ size_of-put c.loop-node.doomed node in_range (sym c.contains.ensures ∙ w.if-not-contains.true) in
          let items = ap (λ (v : Vec ℕ Global). v.items) w.work-is ∙ w.push_reserved.ensures.items in
          record {
            visited = visited_more c.args.nodes.now c.loop-node.node-index c.args.doomed.now c.if-not-contains.doomed c.loop-node.doomed
                c.args.work.now.items c.if-not-contains.work.items c.loop-node.work.items c.loop-node-test.true c.loop-node.invariant.visited
                in_range doomed items;
            counted = omega (arith, w.found-is, size, c.loop-node.invariant.counted);
            len = omega (arith, ap (λ (v : Vec ℕ Global). vec_len v) w.work-is, w.push_reserved.ensures.len, w.found-is, c.loop-node.invariant.len);
            capacity = ap (λ (v : Vec ℕ Global). vec_capacity v) w.work-is ∙ w.push_reserved.ensures.capacity ∙ c.loop-node.invariant.capacity;
          }
      | else-not-contains w ↦ record {
        visited = visited_again c.args.nodes.now c.loop-node.node-index c.args.doomed.now c.if-not-contains.doomed c.loop-node.doomed
            c.args.work.now.items c.if-not-contains.work.items c.loop-node.work.items c.loop-node-test.true c.loop-node.invariant.visited
            (sym c.contains.ensures ∙ w.if-not-contains.false) w.doomed-is (ap (λ (v : Vec ℕ Global). v.items) w.work-is);
        counted = omega (arith, w.found-is, ap size_of w.doomed-is, c.loop-node.invariant.counted);
        len = omega (arith, ap (λ (v : Vec ℕ Global). vec_len v) w.work-is, w.found-is, c.loop-node.invariant.len);
        capacity = ap (λ (v : Vec ℕ Global). vec_capacity v) w.work-is ∙ c.loop-node.invariant.capacity;
      }
    ]
