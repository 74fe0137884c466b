use Rattle.std.proofs.Common.{rules, ◌≡◌, [], refl, sym, ap, ◌∙◌, length, replicate, false}
use Rattle.std.proofs.lemmas.List.{length-replicate}
use Rattle.nd_leases.proofs.Tabled.{none_tabled}
use Rattle.nd_leases.proofs.leases.Leases.new.Goals as goal

pub returns-clause-none : goal.returns-clause-none
returns-clause-none c =
    let loads : c.in_ok-vec-2.field-0.items ≡ replicate c.args.machines 0 = search rules in
    none_tabled _ c.args.drvs c.args.machines c.in_ok-no_tickets.ensures loads c.in_ok-empty_rows.ensures refl

pub invariant_of-result : goal.invariant_of-result
invariant_of-result c =
    let marks : c.in_ok-vec.field-0.items ≡ replicate c.args.drvs false = search rules in
    let loads : c.in_ok-vec-2.field-0.items ≡ replicate c.args.machines 0 = search rules in
    record {
      tickets = [];
      tabled = none_tabled _ c.args.drvs c.args.machines c.in_ok-no_tickets.ensures loads c.in_ok-empty_rows.ensures refl;
      marks = ap length marks ∙ length-replicate c.args.drvs false ∙ sym (ap length c.in_ok-no_tickets.ensures ∙ length-replicate c.args.drvs _);
      rows = ap length c.in_ok-empty_rows.ensures ∙ length-replicate c.args.machines _ ∙ sym (ap length loads ∙ length-replicate c.args.machines 0);
    }
