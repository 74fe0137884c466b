use Rattle.std.proofs.Common.{◌≤◌, List, ℕ, length, ap, ◌∙◌, arith}
use Rattle.std.specs.List.{flat_map}
use Rattle.std.proofs.lemmas.List.{take_all}
use Rattle.nd_provision.proofs.needs.all_sources.Goals as goal

pub returns : goal.returns
returns c =
    let rows : List (List (List ℕ)) = c.args.graph.now.sources in
    let past_all : length rows ≤ c.loop-drv.drv = omega (arith, c.len-drv-end.ensures.sound.sources_sized, c.len-drv-end.ensures.len, c.loop-drv-test.false) in
    c.loop-drv.invariant ∙ ap (λ (xs : List (List (List ℕ))). flat_map (λ x. x) xs) (take_all c.loop-drv.drv rows past_all)
