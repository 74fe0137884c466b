use Rattle.std.proofs.Common.{◌∙◌}
use Rattle.nd_cli.specs.SlotLines.{slot_line}
use Rattle.nd_cli.proofs.Slots.{slot_added}
use Rattle.nd_cli.proofs.slot_lines.add_machine.Goals as goal

pub loop-slot-preserved : goal.loop-slot-preserved
loop-slot-preserved c =
    slot_added (slot_line c.args.number c.args.end.now) c.args.text.now.items c.loop-slot.text.items _ c.as_slice.result.now c.loop-slot.slot c.args.jobs c.loop-slot-test.true c.loop-slot.invariant
    c.in_ok-extend_from_slice.ensures.items (c.as_slice.ensures.value ∙ c.in_ok-line.ensures)
