use Rattle.nd_history.specs.Premises.{premises_of}
use Rattle.nd_history.proofs.Following.{may_record}
use Rattle.nd_ledger.proofs.Keeping.{fit_kept, allowed_inside, can_mark, can_turn, kept_appended}
use Rattle.nd_ledger.proofs.dispatch.Dispatch.append.Goals as goal

pub append-requires-clause-may : goal.append-requires-clause-may
append-requires-clause-may c =
    let d = c.self.inside in
    may_record (premises_of d.inputs) d.state.book c.args.entry (fit_kept d c.self.invariant) (allowed_inside d _ c.args.entry c.self.view_is c.requires.allowed)

pub append-requires-clause-can : goal.append-requires-clause-can
append-requires-clause-can c = can_mark c.self.inside c.args.entry c.self.invariant (allowed_inside c.self.inside _ c.args.entry c.self.view_is c.requires.allowed)

pub append-requires-clause-turn : goal.append-requires-clause-turn
append-requires-clause-turn c = can_turn c.self.inside c.args.entry c.self.invariant (allowed_inside c.self.inside _ c.args.entry c.self.view_is c.requires.allowed)

pub invariant_of-self-2 : goal.invariant_of-self-2
invariant_of-self-2 c =
    let d = c.self.inside in
    kept_appended d c.append.new.self c.args.entry c.in_ok-append.ensures.ok c.self.invariant (allowed_inside d _ c.args.entry c.self.view_is c.requires.allowed) c.requires.quiet
