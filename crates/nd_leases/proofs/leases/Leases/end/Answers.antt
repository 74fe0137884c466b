use Rattle.std.proofs.Common.{ℕ, ◌≡◌, ◌-◌, ◌<◌, ◌≤◌, length, set, refl, sym, ap, ◌∙◌, arith}
use Rattle.std.proofs.lemmas.Grind.{get_or_default_zero}
use Rattle.nd_leases.proofs.Tabled.{has_ticket, lies_within, ended_whole, ended_now, none_ended}
use Rattle.nd_leases.proofs.leases.Leases.end.Goals as goal

pub index_mut-requires-in-Some : goal.index_mut-requires-in-Some
index_mut-requires-in-Some c =
    let lies = lies_within c.self.inside c.args.self.now c.args.drv c.in-Some.ticket c.lease.result c.self.view_is c.self.invariant c.lease.ensures c.in-Some.is in
    omega (arith, lies.machine)

pub overflow_sub-index_mut : goal.overflow_sub-index_mut
overflow_sub-index_mut c =
    let lies = lies_within c.self.inside c.args.self.now c.args.drv c.in-Some.ticket c.lease.result c.self.view_is c.self.invariant c.lease.ensures c.in-Some.is in
    let is = c.index_mut-in-Some.ensures.value ∙ get_or_default_zero c.self.inside.loads.items c.in-Some.ticket.machine c.index_mut-in-Some.result.now lies.machine in
    omega (arith, lies.load, is)

pub put_slot-requires : goal.put_slot-requires
put_slot-requires c =
    let lies = lies_within c.self.inside c.args.self.now c.args.drv c.in-Some.ticket c.lease.result c.self.view_is c.self.invariant c.lease.ensures c.in-Some.is in
    record { machine = lies.row; slot = lies.slot }

pub invariant_of-self : goal.invariant_of-self
invariant_of-self c =
    let lies = lies_within c.self.inside c.args.self.now c.args.drv c.in-Some.ticket c.lease.result c.self.view_is c.self.invariant c.lease.ensures c.in-Some.is in
    let held = has_ticket c.self.inside c.args.self.now c.args.drv c.in-Some.ticket c.lease.result c.self.view_is c.self.invariant c.lease.ensures c.in-Some.is in
    ended_whole c.self.inside _ c.args.drv c.in-Some.ticket c.self.invariant held
    (record {
      holders = refl;
      loads = ap (λ (n : ℕ). set c.self.inside.loads.items c.in-Some.ticket.machine (n - 1)) (c.index_mut-in-Some.ensures.value ∙ get_or_default_zero c.self.inside.loads.items c.in-Some.ticket.machine c.index_mut-in-Some.result.now lies.machine);
      rows = c.put_slot.ensures;
      len = refl;
    })
    refl

pub returns-in-Some-clause-ended : goal.returns-in-Some-clause-ended
returns-in-Some-clause-ended c = λ tickets tabled.
    let lies = lies_within c.self.inside c.args.self.now c.args.drv c.in-Some.ticket c.lease.result c.self.view_is c.self.invariant c.lease.ensures c.in-Some.is in
    let held = has_ticket c.self.inside c.args.self.now c.args.drv c.in-Some.ticket c.lease.result c.self.view_is c.self.invariant c.lease.ensures c.in-Some.is in
    ended_now c.self.inside _ c.args.self.now c.args.drv c.in-Some.ticket tickets c.self.view_is c.self.invariant held
    (record {
      holders = refl;
      loads = ap (λ (n : ℕ). set c.self.inside.loads.items c.in-Some.ticket.machine (n - 1)) (c.index_mut-in-Some.ensures.value ∙ get_or_default_zero c.self.inside.loads.items c.in-Some.ticket.machine c.index_mut-in-Some.result.now lies.machine);
      rows = c.put_slot.ensures;
      len = refl;
    })
    tabled

pub returns-in_default-clause-ended : goal.returns-in_default-clause-ended
returns-in_default-clause-ended c = λ tickets tabled. none_ended c.args.self.now c.args.drv tickets c.lease.result c.lease.ensures c.in_default.not-Some tabled
