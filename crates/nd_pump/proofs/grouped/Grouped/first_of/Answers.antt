use Rattle.std.proofs.Common.{◌<◌, ◌∙◌, ℕ, Bool, [], List, length, sym, subst, slice_index_or, arith}
use Rattle.std.proofs.lemmas.List.{get_or_default}
use Rattle.nd_flags.specs.Members.{IsLeastFrom}
use Rattle.nd_pump.specs.Grouped.{Readied, IsLeastReady}
use Rattle.nd_pump.specs.GroupedKept.{readied}
use Rattle.nd_pump.proofs.GroupedFacts.{least_of}
use Rattle.nd_pump.proofs.grouped.Grouped.first_of.Goals as goal

pub returns : goal.returns
returns c =
    let b = c.self.inside in
    let g = c.args.group in
    let place = c.in_ok-place.place in
    let known : g < length b.lists = subst (λ (r : Readied). g < r.count) (sym c.self.view_is) c.requires in
    let within : g < length b.flags.items = omega (arith, known, c.self.invariant.flagged.groups) in
    let first = subst (λ (row : List Bool). IsLeastFrom row 0 place)
    (c.index.ensures ∙ get_or_default b.flags.items g c.index.result.now [] within) c.in_ok-place.ensures in
    subst (λ (r : Readied). IsLeastReady r g (slice_index_or c.list.result.now place 0)) c.self.view_is
    (subst (λ (xs : List ℕ). IsLeastReady (readied b) g (slice_index_or xs place 0)) (sym c.list.ensures)
    (least_of b.groups.items b.places.items b.lists b.flags.items b.ready.items g place c.self.invariant.sized c.self.invariant.seated c.self.invariant.flagged first))
