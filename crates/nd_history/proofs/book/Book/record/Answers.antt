use Rattle.std.proofs.Common.{◌≡◌, ℕ, length, sym, subst, ap, ◌∙◌}
use Rattle.nd_leases.specs.Tables.{Become}
use Rattle.nd_history.specs.Books.{Recorded, CanRecord}
use Rattle.nd_history.specs.Kept.{leases_after}
use Rattle.nd_history.proofs.Following.{follow_all, can_table, started_sized, ups_sized}
use Rattle.nd_history.proofs.book.Book.record.Goals as goal

pub follow_leases-requires : goal.follow_leases-requires
follow_leases-requires c = can_table c.self.inside c.args.entry c.self.invariant (subst (λ (b : Recorded). CanRecord b c.args.entry) (sym c.self.view_is) c.requires.can)

pub invariant_of-self : goal.invariant_of-self
invariant_of-self c =
    let was = c.self.inside in
    let count : c.len.result ≡ length was.entries.items = c.len.ensures ∙ was.entries.ok.0 in
    let become = subst (λ (n : ℕ). Become was.leases c.follow_leases.new.leases (leases_after n c.args.entry)) count c.follow_leases.ensures.tickets in
    let all =
    follow_all was.entries.items c.push_reserved.new.self.items c.args.entry was.leases c.follow_leases.new.leases was.ups.items c.follow_ups.new.ups.items
    c.push_reserved.ensures.items c.self.invariant.leases c.self.invariant.started c.self.invariant.ups become c.follow_leases.ensures.started c.follow_ups.ensures in
    let sized = ups_sized c.args.entry _ was.ups.items c.follow_ups.new.ups.items (c.follow_ups.ensures _ c.self.invariant.leases) in
    record {
      leases = all.0;
      started = all.1;
      ups = all.2;
      marks = ap length c.follow_leases.ensures.started ∙ started_sized c.args.entry was.leases.started ∙ c.self.invariant.marks ∙ sym c.follow_leases.ensures.drvs;
      park = c.follow_leases.ensures.machines ∙ c.self.invariant.park ∙ sym sized;
    }

pub returns-clause-machines : goal.returns-clause-machines
returns-clause-machines c =
    let was = c.self.inside in
    ups_sized c.args.entry _ was.ups.items c.follow_ups.new.ups.items (c.follow_ups.ensures _ c.self.invariant.leases) ∙ ap (λ (b : Recorded). b.machines) c.self.view_is
