use Rattle.std.proofs.Common.{◌<◌, ◌+◌, ◌++◌, ◌∷◌, [], ℕ, List, length, ap, ◌∙◌, arith}
use Rattle.std.proofs.Math.ListN.{length-set}
use Rattle.std.proofs.lemmas.List.{length-append}
use Rattle.std.proofs.lemmas.List.Elements.{All-get_or}
use Rattle.nd_pump.specs.Grouped.{group_in, list_of}
use Rattle.nd_pump.proofs.GroupedFacts.{seated_more}
use Rattle.nd_pump.proofs.grouped.seated.Goals as goal

pub loop-drv-preserved : goal.loop-drv-preserved
loop-drv-preserved c =
    let groups : List ℕ = c.args.groups.now in
    let drv : ℕ = c.loop-drv.drv in
    let places : List ℕ = c.loop-drv.places.items in
    let lists = c.loop-drv.lists in
    let ranged : group_in groups drv < c.args.count = All-get_or (λ g. g < c.args.count) groups drv 0 (omega (arith, c.loop-drv-test.true)) c.requires in
    let within : group_in groups drv < length lists = omega (arith, ranged, c.loop-drv.invariant.lists) in
    let pushed = c.in_ok-push.ensures.items in
    let put = c.in_ok-push-2.ensures.ok in
    let placed = pushed ∙ ap (λ (xs : List ℕ). places ++ length xs ∷ []) c.list.ensures in
    record {
      places = ap (λ (xs : List ℕ). length xs) placed
          ∙ (length-append places (length (list_of lists (group_in groups drv)) ∷ []) ∙ ap (λ (n : ℕ). n + 1) c.loop-drv.invariant.places);
      lists = ap (λ (xs : List (List ℕ)). length xs) put
          ∙ (length-set lists (group_in groups drv) (list_of lists (group_in groups drv) ++ drv ∷ []) ∙ c.loop-drv.invariant.lists);
      seated = seated_more drv groups places c.push.new.self.items lists c.push-in-loop-drv.new.self c.loop-drv.invariant.places within placed put c.loop-drv.invariant.seated;
    }
