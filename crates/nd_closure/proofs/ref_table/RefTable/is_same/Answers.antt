use Rattle.std.proofs.Common.{ap, sym, ◌∙◌}
use Rattle.nd_closure.specs.Tables.{Table}
use Rattle.nd_closure.proofs.SameLines.{lines_decide}
use Rattle.nd_closure.proofs.ref_table.RefTable.is_same.Goals as goal

pub returns : goal.returns
returns c =
    let mine = c.as_slice.ensures.entries ∙ ap (λ (t : Table). t.entries) c.self.view_is in
    let theirs = c.as_slice-2.ensures.entries ∙ ap (λ (t : Table). t.entries) c.other.view_is in
    let decides = lines_decide c.as_slice.result c.as_slice-2.result c.eq.result c.eq.ensures in
    (λ h. sym mine ∙ decides.0 h ∙ theirs, λ e. decides.1 (mine ∙ e ∙ sym theirs))
