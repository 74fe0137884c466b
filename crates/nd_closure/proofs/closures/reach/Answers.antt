use Rattle.std.proofs.Common.{◌≡◌, ◌≤◌, ◌<◌, ◌∙◌, [], ℕ, List, ap, subst, get_or, length, arith, refl, sym, inl, inr, true≢false}
use Rattle.std.specs.Prelude.{◌↔◌}
use Rattle.std.specs.List.{Contains}
use Rattle.std.proofs.lemmas.Bool.{cases_lt}
use Rattle.std.proofs.lemmas.Option.{get_or_from_slice_get}
use Rattle.std.proofs.lemmas.Result.{IfOk-weaker}
use Rattle.nd_path.specs.PathSets.{HasSameMembers}
use Rattle.nd_closure.specs.Tables.{refs_of}
use Rattle.nd_closure.specs.Closures.{AddsOnly, HoldsAll, IsReached, IsLeastClosed}
use Rattle.nd_closure.proofs.Searches.{begun, gone_on, exactly, least_closed}
use Rattle.nd_closure.proofs.closures.reach.Goals as goal
use Rattle.nd_closure.proofs.closures.reach.Goals.{else-loop-next-test, then-loop-next-test+in_default}

pub loop-next-init : goal.loop-next-init
loop-next-init c =
    begun c.args.table.now.entries c.args.seeds.now c.add_all.new.found.keys
    (subst (λ (xs : List (List ℕ)). AddsOnly xs c.add_all.new.found.keys c.args.seeds.now) c.new-found.ensures.empty c.in_ok-add_all.ensures.only)
    c.in_ok-add_all.ensures.all

pub loop-next-preserved : goal.loop-next-preserved
loop-next-preserved c =
    let within : c.loop-next.next < length c.loop-next.found.keys = c.in-Some.ensures.found.0 refl in
    let path : c.in-Some.path.now ≡ get_or c.loop-next.found.keys c.loop-next.next [] =
    sym (get_or_from_slice_get c.loop-next.found.keys c.loop-next.next c.in-Some.path.now [] (sym c.in-Some.ensures.key)) in
    let refs : c.refs-refs.result.now ≡ refs_of c.args.table.now.entries (get_or c.loop-next.found.keys c.loop-next.next []) =
    c.refs-refs.ensures ∙ ap (refs_of c.args.table.now.entries) path in
    gone_on c.args.table.now.entries c.args.seeds.now c.loop-next.found.keys c.add_all-in-loop-next.new.found.keys c.loop-next.next c.loop-next.invariant within
    (subst (λ (rs : List (List ℕ)). AddsOnly c.loop-next.found.keys c.add_all-in-loop-next.new.found.keys rs) refs c.in_ok-add_all-2.ensures.only)
    (subst (λ (rs : List (List ℕ)). HoldsAll c.add_all-in-loop-next.new.found.keys rs) refs c.in_ok-add_all-2.ensures.all)

all_seen : (c : goal.After-sorted) → length c.loop-next.found.keys ≤ c.loop-next.next
all_seen c = elim c.loop-next-test.branch [
  | else-loop-next-test w ↦ omega (arith, c.sorted.ensures.small)
  | then-loop-next-test+in_default w ↦ (elim (cases_lt c.loop-next.next (length c.loop-next.found.keys)) [
    | inl lt ↦ absurd (true≢false (sym (w.in_default.ensures.found.1 lt)))
    | inr le ↦ le
  ])
]

pub returns-clause-reached : goal.returns-clause-reached
returns-clause-reached c =
    IfOk-weaker c.sorted.result (HasSameMembers c.loop-next.found.keys) (λ s. (p : List ℕ) → Contains s p ↔ IsReached c.args.table.now.entries c.args.seeds.now p)
    (λ s same. exactly c.args.table.now.entries c.args.seeds.now c.loop-next.found.keys s c.loop-next.next c.loop-next.invariant (all_seen c) same)
    c.sorted.ensures.members

pub returns-clause-least : goal.returns-clause-least
returns-clause-least c =
    IfOk-weaker c.sorted.result (HasSameMembers c.loop-next.found.keys) (IsLeastClosed c.args.table.now.entries c.args.seeds.now)
    (λ s same. least_closed c.args.table.now.entries c.args.seeds.now s
    (exactly c.args.table.now.entries c.args.seeds.now c.loop-next.found.keys s c.loop-next.next c.loop-next.invariant (all_seen c) same))
    c.sorted.ensures.members
