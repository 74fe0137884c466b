use Rattle.std.proofs.Common.{◌≡◌, ◌∙◌, length, ap}
use Rattle.nd_graph.specs.Graphs.{Nodes, rows_of}
use Rattle.nd_history.specs.Standing.{drvs_in}
use Rattle.nd_history_text.proofs.Spelled.{on_err}
use Rattle.nd_report.proofs.Rows.{park_in_part, drvs_in_part, report_sent, end_in_part_of, marked, unmarked}
use Rattle.nd_report.proofs.report_writing.write_report.Goals as goal

pub returns-in_err-put_park-clause-partly : goal.returns-in_err-put_park-clause-partly
returns-in_err-put_park-clause-partly g c =
    let size : c.len-total.result ≡ drvs_in c.args.dispatch.now.inputs = c.len-total.ensures.rows ∙ ap (λ (n : Nodes). length (rows_of n)) c.graph.ensures in
    on_err _ _ (park_in_part c.args.dispatch.now _ c.len-total.result c.counts.result _ _ _ _ _ size c.new-page.ensures c.counts.ensures.drvs c.in_err-put_park.ensures)

pub returns-in_err-put_drvs-clause-partly : goal.returns-in_err-put_drvs-clause-partly
returns-in_err-put_drvs-clause-partly g c =
    let size : c.len-total.result ≡ drvs_in c.args.dispatch.now.inputs = c.len-total.ensures.rows ∙ ap (λ (n : Nodes). length (rows_of n)) c.graph.ensures in
    on_err _ _ (drvs_in_part c.args.dispatch.now _ c.len-total.result c.counts.result _ _ _ _ _ _ _ _ size c.new-page.ensures c.counts.ensures.drvs c.in_ok-put_park.ensures
    c.in_err-put_drvs.ensures)

pub returns-in_err-send-clause-partly : goal.returns-in_err-send-clause-partly
returns-in_err-send-clause-partly g c =
    let size : c.len-total.result ≡ drvs_in c.args.dispatch.now.inputs = c.len-total.ensures.rows ∙ ap (λ (n : Nodes). length (rows_of n)) c.graph.ensures in
    on_err _ _ (end_in_part_of c.args.dispatch.now _ c.len-total.result c.counts.result _ _ _ _ _ _ _ _ _ size c.new-page.ensures c.counts.ensures.drvs c.in_ok-put_park.ensures
    c.in_ok-put_drvs.ensures c.in_err-send.ensures.partly)

pub returns-clause-written : goal.returns-clause-written
returns-clause-written g c =
    let size : c.len-total.result ≡ drvs_in c.args.dispatch.now.inputs = c.len-total.ensures.rows ∙ ap (λ (n : Nodes). length (rows_of n)) c.graph.ensures in
    report_sent c.args.dispatch.now _ c.len-total.result c.counts.result _ _ _ _ _ _ _ _ _ size c.new-page.ensures c.counts.ensures.drvs c.in_ok-put_park.ensures
    c.in_ok-put_drvs.ensures c.in_ok-send.ensures.written

pub returns-in_err-put_drvs-clause-mark : goal.returns-in_err-put_drvs-clause-mark
returns-in_err-put_drvs-clause-mark g c = marked _ _ _ _ _ c.in_ok-put_park.ensures.mark c.in_err-put_drvs.ensures.puts.put.mark c.from_residual-in_err-put_drvs.ensures.0

pub returns-in_err-send-clause-mark : goal.returns-in_err-send-clause-mark
returns-in_err-send-clause-mark g c =
    marked _ _ _ _ _ (unmarked _ _ _ c.in_ok-put_park.ensures.mark c.in_ok-put_drvs.ensures.puts.put.mark) c.in_err-send.ensures.mark
    c.from_residual-in_err-send.ensures.0

pub returns-clause-mark : goal.returns-clause-mark
returns-clause-mark g c =
    unmarked _ _ _ (unmarked _ _ _ c.in_ok-put_park.ensures.mark c.in_ok-put_drvs.ensures.puts.put.mark) c.in_ok-send.ensures.mark
