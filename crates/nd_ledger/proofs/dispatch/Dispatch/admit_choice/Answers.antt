use Rattle.std.proofs.Common.{reverse, rules, subst}
use Rattle.nd_history.specs.declared.entry.Entry.TheVariants.{Chosen}
use Rattle.nd_history.specs.Legal.{IsAllowed}
use Rattle.nd_ledger.specs.Worlds.{World}
use Rattle.nd_ledger.specs.Admitting.{PassesFreely}
use Rattle.nd_ledger.proofs.Admitting.{free_allowed}
use Rattle.nd_ledger.proofs.dispatch.Dispatch.admit_choice.Goals as goal

pub returns-in_err-append-clause-refused : goal.returns-in_err-append-clause-refused
returns-in_err-append-clause-refused c =
    let choice = Chosen c.args.drv c.args.machine c.args.slot in
    let P = λ (w : World). IsAllowed w.inputs choice (reverse w.history) in
    let free : PassesFreely c.args.self.now.inputs (reverse c.args.self.now.history) choice =
    free_allowed _ _ choice (subst P c.self.view_is c.in_default-judge_ready_choice.ensures) in
    search rules
