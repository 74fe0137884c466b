use Rattle.std.proofs.Common.{rules, sym, subst}
use Rattle.nd_keeping.specs.Listing.{Listed}
use Rattle.nd_run_desk.specs.Leaves.{IsFrontOf}
use Rattle.nd_run_desk.proofs.Upheld.{upheld_first}
use Rattle.nd_run_desk.proofs.desk.Desk.open.Goals as goal

pub invariant_of-result : goal.invariant_of-result
invariant_of-result g c =
    let P : Listed → Type 0 = λ l. IsFrontOf l.entries c.args.dispatch.history in
    record {
      counted = c.requires.made;
      since = search rules;
      upheld = upheld_first _ _ _ _ _ c.requires.opening c.new.ensures (subst P (sym c.new-2.ensures.handed) c.requires.handed) (subst P (sym c.new-2.ensures.kept) c.requires.durable);
    }
