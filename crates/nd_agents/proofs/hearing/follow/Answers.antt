use Rattle.std.proofs.Common.{inr, ◌∙◌}
use Rattle.nd_agents.proofs.Hearings.{ended_there, taken_more, onward_more}
use Rattle.nd_agents.proofs.hearing.follow.Goals as goal

pub returns-in-Err-Ended-clause-no : goal.returns-in-Err-Ended-clause-no
returns-in-Err-Ended-clause-no g c = λ _.
    inr (c.loop-byte.invariant.onward (ended_there _ c.args.bytes.now c.loop-byte.byte-index c.loop-byte-test.true
    (rw c.in-Err-Ended.field-0-is at c.in-Err-Ended.ensures.silent)))

pub loop-byte-preserved : goal.loop-byte-preserved
loop-byte-preserved g c = record {
  taken = taken_more _ _ _ c.args.bytes.now c.loop-byte.byte-index c.in-Ok.taken c.loop-byte-test.true c.if-taken-byte.false c.loop-byte.invariant.taken c.in-Ok.ensures.taken;
  onward = λ none. c.loop-byte.invariant.onward (onward_more _ _ c.args.bytes.now c.loop-byte.byte-index c.in-Ok.taken c.loop-byte-test.true c.if-taken-byte.false c.in-Ok.ensures.taken none);
  mark = c.in-Ok.ensures.mark ∙ c.loop-byte.invariant.mark;
}
