use Rattle.std.proofs.Common.{◌≡◌, Some, [], length, get_or, sym, subst, ap, ◌∙◌, None, arith}
use Rattle.std.proofs.lemmas.List.{get_or_default}
use Rattle.nd_leases.specs.Tables.{Tables, slot_at}
use Rattle.nd_leases.proofs.Tabled.{found_again}
use Rattle.nd_leases.proofs.leases.Leases.current.Goals as goal

pub returns-in-Some : goal.returns-in-Some
returns-in-Some c = λ tickets tabled.
    let row : c.index.result.now ≡ get_or c.self.inside.rows.items c.args.machine [] = c.index.ensures ∙ get_or_default c.self.inside.rows.items c.args.machine c.index.result.now [] (omega arith) in
    let here : get_or (get_or c.self.inside.rows.items c.args.machine []) c.args.slot None ≡ Some c.in-Some.drv = sym (ap (λ r. get_or r c.args.slot None) row) ∙ sym c.at.ensures ∙ c.in-Some.is in
    let on : slot_at c.args.self.now c.args.machine c.args.slot ≡ Some c.in-Some.drv = subst (λ (t : Tables). slot_at t c.args.machine c.args.slot ≡ Some c.in-Some.drv) c.self.view_is here in
    c.lease.ensures tickets tabled ∙ found_again c.args.machine c.args.slot c.in-Some.drv tickets tabled.apart (sym (tabled.slots c.args.machine c.args.slot) ∙ on)
