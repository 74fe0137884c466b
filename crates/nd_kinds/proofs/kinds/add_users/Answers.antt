use Rattle.std.proofs.Common.{◌<◌, ◌+◌, ◌≡◌, length, get_or, ap, subst, arith, List, ℕ}
use Rattle.nd_kinds.proofs.KindFacts.{adds_more, listed_more, listed_all}
use Rattle.nd_kinds.proofs.kinds.add_users.Goals as goal

pub loop-place-preserved : goal.loop-place-preserved
loop-place-preserved c =
    let places = c.as_slice-place-items.result.now in
    let at : get_or places c.loop-place.place-index 0 ≡ get_or c.args.kind.now.places c.loop-place.place-index 0 = ap (λ (xs : List ℕ). get_or xs c.loop-place.place-index 0) c.as_slice-place-items.ensures in
    let lt : c.loop-place.place-index < length c.args.kind.now.places = subst (λ (xs : List ℕ). c.loop-place.place-index < length xs) c.as_slice-place-items.ensures c.loop-place-test.true in
    let small = c.requires.places c.loop-place.place-index 0 lt in
    let within : get_or places c.loop-place.place-index 0 + 1 < length c.loop-place.users = omega (arith, small, at, c.loop-place.invariant.0.sized) in (
      adds_more c.args.number c.args.users.now c.loop-place.users c.push-in-loop-place.new.self (get_or places c.loop-place.place-index 0 + 1) c.loop-place.invariant.0 within c.in_ok-push-2.ensures.ok,
      listed_more c.args.kind.now c.args.number c.loop-place.place-index c.args.users.now c.loop-place.users c.push-in-loop-place.new.self (get_or places c.loop-place.place-index 0) at within
          c.in_ok-push-2.ensures.ok c.loop-place.invariant.0 c.loop-place.invariant.1,
    )

pub returns-clause-listed : goal.returns-clause-listed
returns-clause-listed c =
    listed_all c.args.kind.now c.args.number c.loop-place.place-index c.loop-place.users
    (let end = c.loop-place-test.false in let is = ap (λ (xs : List ℕ). length xs) c.as_slice-place-items.ensures in omega (arith, end, is)) c.loop-place.invariant.1
