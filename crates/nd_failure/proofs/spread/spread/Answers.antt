use Rattle.std.proofs.Common.{ℕ, List, length, ◌∙◌, subst, arith}
use Rattle.nd_failure.specs.Spread.{Spreading}
use Rattle.nd_failure.proofs.SpreadFacts.{worked_within, dependants_within, Spreading-turn, SpreadsFrom-done}
use Rattle.nd_failure.proofs.VisitFacts.{none_from_length}
use Rattle.nd_failure.proofs.spread.spread.Goals as goal

pub dependants-requires : goal.dependants-requires
dependants-requires c =
    worked_within c.args.edges.now c.args.root c.args.doomed.now c.loop-node.doomed c.pop.new.self.items c.in-Some.node
    (subst (λ (items : List ℕ). Spreading c.args.edges.now c.args.root c.args.doomed.now c.loop-node.doomed items) c.in-Some.ensures.items
    c.loop-node.invariant.spreading)
    c.requires.root

pub visit-found-requires-clause-in_range : goal.visit-found-requires-clause-in_range
visit-found-requires-clause-in_range c =
    dependants_within c.args.edges.now c.in-Some.node c.dependants.result.now (length c.loop-node.doomed) c.dependants.ensures
    (c.loop-node.invariant.spreading.sized ∙ c.requires.sized)

pub loop-node-preserved : goal.loop-node-preserved
loop-node-preserved c = record {
  spreading = Spreading-turn c.args.edges.now c.args.root c.args.doomed.now c.loop-node.doomed c.visit-found.new.doomed c.pop.new.self.items
      c.in-Some.node c.visit-found.new.work.items c.dependants.result.now
      (subst (λ (items : List ℕ). Spreading c.args.edges.now c.args.root c.args.doomed.now c.loop-node.doomed items) c.in-Some.ensures.items
      c.loop-node.invariant.spreading)
      c.dependants.ensures c.visit-found.ensures.visited;
  counted = omega arith;
  room = omega (arith, c.in-Some.ensures.len);
  capacity = c.visit-found.ensures.capacity ∙ c.in-Some.ensures.capacity ∙ c.loop-node.invariant.capacity;
}

pub returns-clause-spreads : goal.returns-clause-spreads
returns-clause-spreads c =
    SpreadsFrom-done c.args.edges.now c.args.root c.args.doomed.now c.loop-node.doomed
    (subst (λ (items : List ℕ). Spreading c.args.edges.now c.args.root c.args.doomed.now c.loop-node.doomed items)
    (none_from_length c.loop-node.work.items (omega (arith, c.loop-node.work.ok.0, c.in_default.ensures.cases.0)))
    c.loop-node.invariant.spreading)
