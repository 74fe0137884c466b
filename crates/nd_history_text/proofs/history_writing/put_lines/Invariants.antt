use Rattle.std.proofs.Common.{take, Ok}
use Rattle.std.specs.List.{flat_map}
use Rattle.nd_devices.specs.declared.refusals.Fault.{Fault}
use Rattle.nd_history_text.specs.HistoryTexts.{line_of}
use Rattle.nd_devices.specs.Sending.{IsPut}
use Rattle.nd_history_text.proofs.history_writing.put_lines.Given as goal

-- what was passed so far is put
abbrev pub invariant-loop-entry : goal.invariant-loop-entry
invariant-loop-entry g l =
    IsPut {E = Fault} g.W.Write.contents l.fn.out l.fn.page l.out l.page (flat_map line_of (take l.entry-index l.entries)) (Ok (tt {0}))
