use Rattle.std.proofs.Common.{List, length, subst}
use Rattle.nd_history.specs.declared.entry.Entry.{Entry}
use Rattle.nd_history_ahead.specs.Ahead.{IsMoved}
use Rattle.nd_history_ahead.proofs.Joined.{goes_more, ends}
use Rattle.nd_history_ahead.proofs.Refusing.{ends_refused}
use Rattle.nd_history_ahead.proofs.reading.read_on.Goals as goal

pub loop-rest-preserved : goal.loop-rest-preserved
loop-rest-preserved c = goes_more _ _ _ _ _ _ _ _ c.loop-rest.invariant c.cut_behind.ensures.parts c.in-Ok.ensures.taken

pub returns : goal.returns
returns c = ends _ _ _ _ _ c.loop-rest.invariant c.loop-rest-test.ensures

pub returns-in-Err : goal.returns-in-Err
returns-in-Err c = ends_refused _ _ _ _ _ _ _ _ _ c.loop-rest.invariant c.cut_behind.ensures.parts c.cut_behind.ensures.ended c.in-Err.ensures.refused
    (subst (λ (es : List Entry). IsMoved c.in-Err.fault (length es) c.refused_behind.result) c.as_slice-before.ensures.value c.refused_behind.ensures)
