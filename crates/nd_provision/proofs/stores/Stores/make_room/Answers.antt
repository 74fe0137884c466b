use Rattle.std.proofs.Common.{◌≡◌, ap, inl, inr, arith}
use Rattle.std.proofs.lemmas.Bool.{cases_eq}
use Rattle.nd_path_numbers.specs.Held.{Hold, hold_of}
use Rattle.nd_provision.proofs.stores.Stores.make_room.Goals as goal

pub returns-clause-room : goal.returns-clause-room
returns-clause-room c =
    let m = c.args.additions.now.machine in
    record {
      entries = omega (arith, c.in_ok-reserve.ensures.room, c.len.ensures);
      own = omega (arith, c.in_ok-reserve_below-2.ensures.room, c.len-3.ensures);
      brought = (elim (cases_eq m 0) [
        | inl first ↦ omega (arith, c.requires.alone first)
        | inr other ↦
            let same : (hold_of c.reserve_below-2.new.self m).spare ≡ (hold_of c.reserve_below.new.self m).spare = ap (λ (h : Hold). h.spare) (c.in_ok-reserve_below-2.ensures.others.others m other) in
            omega (arith, same, c.in_ok-reserve_below.ensures.room, c.len-2.ensures)
      ]);
    }
