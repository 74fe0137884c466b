use Rattle.std.proofs.Common.{sym, ap, ◌∙◌, subst, arith}
use Rattle.nd_ledger.specs.Worlds.{World}
use Rattle.nd_receipts.specs.Made.{made}
use Rattle.nd_run_desk.specs.Judgements.{AreJudged}
use Rattle.nd_run_desk.specs.Steps.{RunsOn, StopsAreTold}
use Rattle.nd_workers.proofs.running.serve_leases.Goals as goal

pub close-closed-requires : goal.close-closed-requires
close-closed-requires g c = c.in_scope-ended.ensures.parts ∙ sym c.requires.one_more ∙ c.requires.parts

pub returns-clause-total : goal.returns-clause-total
returns-clause-total g c =
    let closed = c.close-closed.ensures.total in
    let joined = c.in_scope-ended.ensures.amount in
    let opened = c.open-book.ensures.amount in
    let first = c.count_made.ensures ∙ ap made c.history.ensures.value in
    let added = c.add.ensures.amount in
    omega arith

pub returns-clause-runs : goal.returns-clause-runs
returns-clause-runs g c =
    let P : World → Type 0 = λ w. RunsOn w c.close-closed.result.dispatch in
    subst P c.requires.opening c.close-closed.ensures.runs

pub returns-clause-told : goal.returns-clause-told
returns-clause-told g c =
    let P : World → Type 0 = λ w. StopsAreTold w c.close-closed.result.dispatch in
    subst P c.requires.opening c.close-closed.ensures.told

pub returns-clause-misreports : goal.returns-clause-misreports
returns-clause-misreports g c =
    let P : World → Type 0 = λ w. AreJudged w c.close-closed.result.dispatch c.close-closed.result.misreports in
    subst P c.requires.opening c.close-closed.ensures.misreports
