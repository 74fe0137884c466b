use Rattle.std.proofs.Common.{◌≡◌, ℕ, ◌<◌, ◌≤◌, set, true, None, length, get_or, refl, sym, ap, ◌∙◌, arith, subst}
use Rattle.nd_leases.specs.RowKept.{IsNone}
use Rattle.nd_leases.proofs.RowFacts.{none_free, kept_anew, kept_longer}
use Rattle.nd_leases.proofs.row.Row.make_slot.Goals as goal

pub make_room-requires : goal.make_room-requires
make_room-requires c = none_free c.self.inside c.args.self.now c.least_free.result c.self.view_is c.self.invariant c.least_free.ensures.least (omega (arith, c.if-least_free-len.false))

pub invariant_of-self : goal.invariant_of-self
invariant_of-self c =
    let none = none_free c.self.inside c.args.self.now c.least_free.result c.self.view_is c.self.invariant c.least_free.ensures.least (omega (arith, c.if-least_free-len.false)) in
    kept_anew c.self.inside _ refl c.self.invariant none c.make_room.ensures.none c.make_room.ensures.longer

pub invariant_of-self-in_err-push : goal.invariant_of-self-in_err-push
invariant_of-self-in_err-push c =
    let none = none_free c.self.inside c.args.self.now c.least_free.result c.self.view_is c.self.invariant c.least_free.ensures.least (omega (arith, c.if-least_free-len.false)) in
    kept_anew c.self.inside _ c.in_err-push.ensures.items c.self.invariant none c.make_room.ensures.none c.make_room.ensures.longer

pub invariant_of-self-2 : goal.invariant_of-self-2
invariant_of-self-2 c =
    let none = none_free c.self.inside c.args.self.now c.least_free.result c.self.view_is c.self.invariant c.least_free.ensures.least (omega (arith, c.if-least_free-len.false)) in
    kept_longer c.self.inside _ c.make_room.new.free c.in_ok-push.ensures.items (c.insert.ensures ∙ ap (λ n. set c.make_room.new.free n true) (let e : c.len-slot.result ≡ length c.self.inside.slots.items = omega (arith, c.len-slot.ensures) in e)) c.self.invariant none c.make_room.ensures.none (omega (arith, c.in_ok-make_room.ensures.room, c.len-slot.ensures))
