use Rattle.nd_cli.specs.SlotLines.{slot_line}
use Rattle.nd_cli.proofs.Slots.{AreListing}
use Rattle.nd_cli.proofs.slot_lines.add_machine.Given as goal

abbrev pub invariant-loop-slot : goal.invariant-loop-slot
invariant-loop-slot l = AreListing (slot_line l.number l.end) l.initial.text.items l.text.items l.slot l.jobs
