use Rattle.std.proofs.Common.{◌≡◌, ◌≤◌, length, get_or, refl, arith}
use Rattle.nd_history_text.specs.HistoryTexts.{line_of}
use Rattle.nd_devices.proofs.Sent.{no_text, item_put, item_refused, items_put}
use Rattle.nd_history_text.proofs.history_writing.put_lines.Goals as goal

pub loop-entry-init : goal.loop-entry-init
loop-entry-init g c = no_text _ _ _ _ _ refl

pub loop-entry-preserved : goal.loop-entry-preserved
loop-entry-preserved g c =
    let is : c.entry-item.result ≡ get_or c.args.entries.now c.loop-entry.entry-index c.entry-item.result = c.entry-item.is in
    item_put _ line_of _ _ _ _ _ _ c.args.entries.now c.loop-entry.entry-index _ _ _ c.loop-entry-test.true is c.loop-entry.invariant c.in_ok-put_line.ensures

pub returns-in_err-put_line : goal.returns-in_err-put_line
returns-in_err-put_line g c =
    let is : c.entry-item.result ≡ get_or c.args.entries.now c.loop-entry.entry-index c.entry-item.result = c.entry-item.is in
    item_refused _ line_of _ _ _ _ _ _ c.args.entries.now c.loop-entry.entry-index _ _ _ _ c.loop-entry-test.true is c.from_residual.ensures.0
    c.loop-entry.invariant c.in_err-put_line.ensures

pub returns : goal.returns
returns g c =
    let past : length c.args.entries.now ≤ c.loop-entry.entry-index = omega arith in
    items_put _ line_of _ _ _ _ c.args.entries.now c.loop-entry.entry-index _ past c.loop-entry.invariant
