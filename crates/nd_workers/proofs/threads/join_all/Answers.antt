use Rattle.std.proofs.Common.{rules, arith, ℕ, length}
use Rattle.nd_workers.specs.declared.threads.Stint.{Stint}
use Rattle.nd_workers.proofs.Zips.{zip_more, sum_last}
use Rattle.nd_workers.proofs.threads.join_all.Goals as goal

pub joining-preserved : goal.joining-preserved
joining-preserved g c =
    let noted : Stint g.row.T.Denot → ℕ = λ x. length x.notes.receipts in
    let more = sum_last noted c.joining.stints.items c.push_reserved.new.self.items c.join-stint.result c.push_reserved.ensures.items in (
      search rules,
      omega arith,
      search rules,
      search rules,
      rw c.push_reserved.ensures.items (zip_more _ _ _ _ _ c.joining.invariant.4 c.join-stint.ensures.served),
    )
