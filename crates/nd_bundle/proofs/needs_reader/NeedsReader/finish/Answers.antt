use Rattle.std.proofs.Common.{Err}
use Rattle.std.proofs.lemmas.Result.{err_from_is_err_and, IfErr-weaker}
use Rattle.nd_bundle.specs.Bundles.{IsFirstFault}
use Rattle.nd_bundle.specs.Said.{for_needs}
use Rattle.nd_bundle.specs.Lines.{lines}
use Rattle.nd_links.specs.Settled.{links_in}
use Rattle.nd_links.specs.Whole.{IsWholeFault}
use Rattle.nd_bundle.proofs.OneBundle.{needs_exactly}
use Rattle.nd_bundle.proofs.Told.{fault_as, has_needs_of, needs_distinct, needs_fault, needs_rising, needs_sized, says_as}
use Rattle.nd_bundle.proofs.needs_reader.NeedsReader.finish.Goals as goal

pub returns-in_err-numbered-clause-refused : goal.returns-in_err-numbered-clause-refused
returns-in_err-numbered-clause-refused g c =
    let p = err_from_is_err_and c.from_residual.result c.from_residual.ensures.1 in
    rw (p.1, p.2) (fault_as c.args.self c.self.inside.lines c.in_err-numbered.field-0.0 c.self.view_is c.in_err-numbered.ensures.err)

pub returns-in_err-numbered-clause-exactly : goal.returns-in_err-numbered-clause-exactly
returns-in_err-numbered-clause-exactly g c = λ graph is.
    let p = err_from_is_err_and c.from_residual.result c.from_residual.ensures.1 in
    rw (p.1, p.2) (needs_exactly c.args.self.check c.args.self.text (Err c.in_err-numbered.field-0.0) tt (fault_as c.args.self c.self.inside.lines c.in_err-numbered.field-0.0 c.self.view_is c.in_err-numbered.ensures.err) graph is)

pub needs_side_by_side-requires-clause-distinct : goal.needs_side_by_side-requires-clause-distinct
needs_side_by_side-requires-clause-distinct g c κs within =
    needs_distinct c.args.self.check (lines c.args.self.text) c.in_ok-numbered.numbered (says_as c.args.self c.self.inside.lines c.in_ok-numbered.numbered for_needs c.self.view_is c.self.invariant.is c.in_ok-numbered.ensures.ok)

pub needs_side_by_side-requires-clause-sized : goal.needs_side_by_side-requires-clause-sized
needs_side_by_side-requires-clause-sized g c κs within =
    needs_sized c.args.self.check (lines c.args.self.text) c.in_ok-numbered.numbered (says_as c.args.self c.self.inside.lines c.in_ok-numbered.numbered for_needs c.self.view_is c.self.invariant.is c.in_ok-numbered.ensures.ok)

pub needs_side_by_side-requires-clause-rising : goal.needs_side_by_side-requires-clause-rising
needs_side_by_side-requires-clause-rising g c κs within =
    needs_rising c.args.self.check (lines c.args.self.text) c.in_ok-numbered.numbered (says_as c.args.self c.self.inside.lines c.in_ok-numbered.numbered for_needs c.self.view_is c.self.invariant.is c.in_ok-numbered.ensures.ok)

pub returns-clause-ok : goal.returns-clause-ok
returns-clause-ok g c =
    has_needs_of c.args.self.check c.args.self.text c.in_ok-numbered.numbered c.needs_side_by_side.result
    (says_as c.args.self c.self.inside.lines c.in_ok-numbered.numbered for_needs c.self.view_is c.self.invariant.is c.in_ok-numbered.ensures.ok) c.needs_side_by_side.ensures.ok

pub returns-clause-refused : goal.returns-clause-refused
returns-clause-refused g c =
    let so = says_as c.args.self c.self.inside.lines c.in_ok-numbered.numbered for_needs c.self.view_is c.self.invariant.is c.in_ok-numbered.ensures.ok in
    IfErr-weaker c.needs_side_by_side.result (λ e. IsWholeFault (links_in c.in_ok-numbered.numbered.paths.keys c.in_ok-numbered.numbered.details) e) (λ e. IsFirstFault c.args.self.check c.args.self.text e)
    (λ e is. needs_fault c.args.self.check c.args.self.text c.in_ok-numbered.numbered e so is) c.needs_side_by_side.ensures.err

pub returns-clause-exactly : goal.returns-clause-exactly
returns-clause-exactly g c = λ graph is. needs_exactly c.args.self.check c.args.self.text c.needs_side_by_side.result (returns-clause-ok g c) (returns-clause-refused g c) graph is
