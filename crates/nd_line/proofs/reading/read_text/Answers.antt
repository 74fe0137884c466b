use Rattle.std.proofs.lemmas.Result.{err_from_is_err_and}
use Rattle.nd_line.proofs.Sayings.{bad_checked, node_checked, node_unchecked}
use Rattle.nd_line.proofs.reading.read_text.Goals as goal
use Rattle.nd_line.proofs.reading.read_text.Goals.{then-check+in_ok-check_path, else-check}

pub returns-in_err-check_path-clause-err : goal.returns-in_err-check_path-clause-err
returns-in_err-check_path-clause-err c =
    let p = err_from_is_err_and c.from_residual-in_err-check_path.result c.from_residual-in_err-check_path.ensures.1 in
    rw (p.1, p.2) (bad_checked c.args.check c.args.path c.args.text.now c.in_ok-node.node c.in_err-check_path.field-0.0 c.if-check.true c.in_ok-node.ensures.path c.in_ok-node.ensures.tells c.in_err-check_path.ensures.err)

pub returns-clause-ok : goal.returns-clause-ok
returns-clause-ok c =
    elim c.if-check.branch [
      | then-check+in_ok-check_path w ↦ node_checked c.args.check c.args.path c.args.text.now c.in_ok-node.node c.in_ok-node.ensures.path c.in_ok-node.ensures.tells w.in_ok-check_path.ensures.ok
      | else-check w ↦ node_unchecked c.args.check c.args.path c.args.text.now c.in_ok-node.node w.if-check.false c.in_ok-node.ensures.path c.in_ok-node.ensures.tells
    ]
