use Rattle.std.proofs.Common.{◌∙◌}
use Rattle.nd_history.proofs.Following.{same_may}
use Rattle.nd_ledger.proofs.Keeping.{same_turn}
use Rattle.nd_ledger.proofs.state.State.append.Goals as goal

pub make_slot-requires : goal.make_slot-requires
make_slot-requires c = same_may c.args.self.now.book c.make_room.new.self c.args.entry c.in_ok-make_room.ensures.entries c.in_ok-make_room.ensures.drvs c.in_ok-make_room.ensures.machines c.requires.may

pub enter-requires-clause-turn : goal.enter-requires-clause-turn
enter-requires-clause-turn c =
    same_turn c.args.self.now c.make_slot.new.self c.args.entry (c.in_ok-make_slot.ensures.entries ∙ c.in_ok-make_room.ensures.entries) c.requires.turn
