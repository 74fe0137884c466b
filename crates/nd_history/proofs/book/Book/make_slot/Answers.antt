use Rattle.std.proofs.lemmas.Result.{on_ok_weaker}
use Rattle.nd_history.proofs.Following.{slot_made}
use Rattle.nd_history.proofs.book.Book.make_slot.Goals as goal

pub returns-in-Chosen-clause-made : goal.returns-in-Chosen-clause-made
returns-in-Chosen-clause-made c =
    on_ok_weaker _
    (slot_made c.self.inside c.args.self.now c.make_slot.new.self c.args.entry.now c.in-Chosen.drv c.in-Chosen.machine c.in-Chosen.slot c.self.view_is c.self.invariant c.in-Chosen.is c.requires c.make_slot.ensures.same c.make_slot.ensures.holders)
    c.make_slot.ensures.made
