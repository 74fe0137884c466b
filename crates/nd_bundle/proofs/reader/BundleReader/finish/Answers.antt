use Rattle.std.proofs.Common.{Err}
use Rattle.std.proofs.lemmas.Result.{err_from_is_err_and, IfErr-weaker}
use Rattle.nd_bundle.specs.Bundles.{IsFirstFault}
use Rattle.nd_bundle.specs.Said.{for_graph}
use Rattle.nd_bundle.specs.Lines.{lines}
use Rattle.nd_links.specs.Settled.{links_in}
use Rattle.nd_links.specs.Whole.{IsWholeFault}
use Rattle.nd_bundle.proofs.OneBundle.{read_exactly}
use Rattle.nd_bundle.proofs.Told.{fault_as, numbered_bundle_of, numbered_distinct, numbered_fault, numbered_paired, numbered_rising, numbered_sized, says_as}
use Rattle.nd_bundle.proofs.reader.BundleReader.finish.Goals as goal

pub returns-in_err-numbered-clause-refused : goal.returns-in_err-numbered-clause-refused
returns-in_err-numbered-clause-refused g c =
    let p = err_from_is_err_and c.from_residual.result c.from_residual.ensures.1 in
    rw (p.1, p.2) (fault_as c.args.self c.self.inside.lines c.in_err-numbered.field-0.0 c.self.view_is c.in_err-numbered.ensures.err)

pub returns-in_err-numbered-clause-exactly : goal.returns-in_err-numbered-clause-exactly
returns-in_err-numbered-clause-exactly g c = λ graph is.
    let p = err_from_is_err_and c.from_residual.result c.from_residual.ensures.1 in
    rw (p.1, p.2) (read_exactly c.args.self.check c.args.self.text (Err c.in_err-numbered.field-0.0) tt (fault_as c.args.self c.self.inside.lines c.in_err-numbered.field-0.0 c.self.view_is c.in_err-numbered.ensures.err) graph is)

pub graph_side_by_side-requires-clause-distinct : goal.graph_side_by_side-requires-clause-distinct
graph_side_by_side-requires-clause-distinct g c κs within =
    numbered_distinct c.args.self.check (lines c.args.self.text) c.in_ok-numbered.numbered (says_as c.args.self c.self.inside.lines c.in_ok-numbered.numbered for_graph c.self.view_is c.self.invariant.is c.in_ok-numbered.ensures.ok)

pub graph_side_by_side-requires-clause-sized : goal.graph_side_by_side-requires-clause-sized
graph_side_by_side-requires-clause-sized g c κs within =
    numbered_sized c.args.self.check (lines c.args.self.text) c.in_ok-numbered.numbered (says_as c.args.self c.self.inside.lines c.in_ok-numbered.numbered for_graph c.self.view_is c.self.invariant.is c.in_ok-numbered.ensures.ok)

pub graph_side_by_side-requires-clause-paired : goal.graph_side_by_side-requires-clause-paired
graph_side_by_side-requires-clause-paired g c κs within =
    numbered_paired c.args.self.check (lines c.args.self.text) c.in_ok-numbered.numbered (says_as c.args.self c.self.inside.lines c.in_ok-numbered.numbered for_graph c.self.view_is c.self.invariant.is c.in_ok-numbered.ensures.ok)

pub graph_side_by_side-requires-clause-rising : goal.graph_side_by_side-requires-clause-rising
graph_side_by_side-requires-clause-rising g c κs within =
    numbered_rising c.args.self.check (lines c.args.self.text) c.in_ok-numbered.numbered (says_as c.args.self c.self.inside.lines c.in_ok-numbered.numbered for_graph c.self.view_is c.self.invariant.is c.in_ok-numbered.ensures.ok)

pub returns-clause-ok : goal.returns-clause-ok
returns-clause-ok g c =
    numbered_bundle_of c.args.self.check c.args.self.text c.in_ok-numbered.numbered c.graph_side_by_side.result
    (says_as c.args.self c.self.inside.lines c.in_ok-numbered.numbered for_graph c.self.view_is c.self.invariant.is c.in_ok-numbered.ensures.ok)
    c.graph_side_by_side.ensures.ok c.graph_side_by_side.ensures.sound c.graph_side_by_side.ensures.acyclic

pub returns-clause-refused : goal.returns-clause-refused
returns-clause-refused g c =
    let so = says_as c.args.self c.self.inside.lines c.in_ok-numbered.numbered for_graph c.self.view_is c.self.invariant.is c.in_ok-numbered.ensures.ok in
    IfErr-weaker c.graph_side_by_side.result (λ e. IsWholeFault (links_in c.in_ok-numbered.numbered.paths.keys c.in_ok-numbered.numbered.details) e) (λ e. IsFirstFault c.args.self.check c.args.self.text e)
    (λ e is. numbered_fault c.args.self.check c.args.self.text c.in_ok-numbered.numbered e so is) c.graph_side_by_side.ensures.err

pub returns-clause-exactly : goal.returns-clause-exactly
returns-clause-exactly g c = λ graph is. read_exactly c.args.self.check c.args.self.text c.graph_side_by_side.result (returns-clause-ok g c) (returns-clause-refused g c) graph is
