use Rattle.std.proofs.Common.{ℕ, ◌≡◌, ◌+◌, ◌<◌, length, set, refl, ap, ◌∙◌, arith, false, length-set}
use Rattle.std.proofs.lemmas.Grind.{get_or_default_zero}
use Rattle.nd_leases.specs.Whole.{tables_of}
use Rattle.nd_leases.proofs.Tabled.{IsRoomFor, has_room, begun_whole, begun_now}
use Rattle.nd_leases.proofs.leases.Leases.begin.Goals as goal

pub invariant_of-self : goal.invariant_of-self
invariant_of-self c =
    let room = has_room c.self.inside c.args.self.now c.args.ticket c.self.view_is c.self.invariant c.requires.drv c.requires.unleased c.requires.room c.requires.free in
    begun_whole c.self.inside _ c.args.ticket c.self.invariant room
    (record {
      holders = refl;
      loads = ap (λ (n : ℕ). set c.self.inside.loads.items c.args.ticket.machine (n + 1)) (c.index_mut-2.ensures.value ∙ get_or_default_zero c.self.inside.loads.items c.args.ticket.machine c.index_mut-2.result.now room.machine);
      rows = c.put_slot.ensures;
      len = refl;
    })
    (ap length c.put_mark.ensures ∙ length-set c.self.inside.started.items c.args.ticket.drv false)

pub returns-clause-begun : goal.returns-clause-begun
returns-clause-begun c = λ tickets tabled.
    let room = has_room c.self.inside c.args.self.now c.args.ticket c.self.view_is c.self.invariant c.requires.drv c.requires.unleased c.requires.room c.requires.free in
    begun_now c.self.inside _ c.args.self.now c.args.ticket tickets c.self.view_is room
    (record {
      holders = refl;
      loads = ap (λ (n : ℕ). set c.self.inside.loads.items c.args.ticket.machine (n + 1)) (c.index_mut-2.ensures.value ∙ get_or_default_zero c.self.inside.loads.items c.args.ticket.machine c.index_mut-2.result.now room.machine);
      rows = c.put_slot.ensures;
      len = refl;
    })
    tabled
