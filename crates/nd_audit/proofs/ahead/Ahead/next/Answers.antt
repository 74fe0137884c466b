use Rattle.std.proofs.Common.{List, sym, subst}
use Rattle.std.specs.Vec.Iter.{into_iter_items}
use Rattle.nd_history.specs.declared.entry.Entry.{Entry}
use Rattle.nd_history.specs.Premises.{premises_of}
use Rattle.nd_audit.specs.Ahead.{HaveCleared}
use Rattle.nd_audit.proofs.Clearing.{one_cleared, one_counted, whole_longer}
use Rattle.nd_audit.proofs.ahead.Ahead.next.Goals as goal

pub going-preserved : goal.going-preserved
going-preserved c =
    let i = premises_of c.args.inputs.now in
    let P = λ (entries : List Entry). HaveCleared i c.args.self.now c.clear.new.self entries in
    record {
      sized = c.clear.ensures.sized;
      cleared = subst P (sym c.in_ok-push.ensures.items) (one_cleared i c.args.self.now c.going.self c.clear.new.self c.going.entries.items c.in-Some.entry c.going.invariant.cleared c.in_default-clear.ensures.cleared);
      counted = one_counted c.going.entries.items _ c.in-Some.entry _ c.in_ok-push.ensures.items c.going.invariant.counted;
      whole = whole_longer _ c.going.entries.items (into_iter_items c.going.left) (into_iter_items c.next.new.self) _ c.in-Some.entry c.going.invariant.whole c.in-Some.ensures.items c.in_ok-push.ensures.items;
    }
