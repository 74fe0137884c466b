use Rattle.std.proofs.Common.{Err}
use Rattle.std.proofs.lemmas.Result.{err_from_is_err_and, IfErr-weaker}
use Rattle.nd_bundle.specs.Bundles.{IsFirstFault}
use Rattle.nd_links.specs.Settled.{links_in}
use Rattle.nd_links.specs.Whole.{IsWholeFault}
use Rattle.nd_bundle.proofs.OneBundle.{read_exactly}
use Rattle.nd_bundle.proofs.Told.{bundle_of, first_fault}
use Rattle.nd_bundle.proofs.plain.read_bundle.Goals as goal

pub returns-clause-refused : goal.returns-clause-refused
returns-clause-refused c =
    IfErr-weaker c.graph_of.result (λ e. IsWholeFault (links_in c.in_ok-columns.columns.paths.items c.in_ok-columns.columns.details) e) (λ e. IsFirstFault c.args.check_paths c.args.text.now e)
    (λ e is. first_fault c.args.check_paths c.args.text.now c.in_ok-columns.columns e c.in_ok-columns.ensures.ok is) c.graph_of.ensures.err

pub returns-clause-exactly : goal.returns-clause-exactly
returns-clause-exactly c = λ graph is.
    read_exactly c.args.check_paths c.args.text.now c.graph_of.result
    (bundle_of c.args.check_paths c.args.text.now c.in_ok-columns.columns c.graph_of.result c.in_ok-columns.ensures.ok c.graph_of.ensures.ok c.graph_of.ensures.sound c.graph_of.ensures.acyclic)
    (returns-clause-refused c) graph is

pub returns-in_err-columns-clause-exactly : goal.returns-in_err-columns-clause-exactly
returns-in_err-columns-clause-exactly c = λ graph is.
    let p = err_from_is_err_and c.from_residual.result c.from_residual.ensures.1 in
    rw (p.1, p.2) (read_exactly c.args.check_paths c.args.text.now (Err c.in_err-columns.field-0.0) tt c.in_err-columns.ensures.err graph is)
