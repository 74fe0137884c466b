use Rattle.nd_audit.specs.Judging.{IsAuditOf, work_left}
use Rattle.nd_audit.proofs.side_by_side.audit_side_by_side.Given as goal

-- all before the batch is recorded
abbrev pub invariant-judging : goal.invariant-judging
invariant-judging g l = IsAuditOf l.fn.inputs l.fn.entries.items l.way

abbrev pub decreases-judging : goal.decreases-judging
decreases-judging g l = work_left l.way
