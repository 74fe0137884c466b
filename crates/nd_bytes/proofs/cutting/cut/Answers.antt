-- The search finds the first such byte, or there is none.
use Rattle.std.proofs.Common.{◌≡◌, ◌∙◌, ap, Some}
use Rattle.nd_bytes.proofs.Cuts.{whole_found, until_found, behind_found, whole_missing, until_missing, behind_missing}
use Rattle.nd_bytes.proofs.cutting.cut.Goals as goal

pub returns-in-Some-clause-whole : goal.returns-in-Some-clause-whole
returns-in-Some-clause-whole c =
    rw (c.split_at.ensures.front, c.split_at-in-Some.ensures.back)
    (whole_found c.args.byte c.args.bytes.now c.in-Some.i c.in-Some.ensures.0.high c.in-Some.ensures.0.before c.in-Some.ensures.1)

pub returns-in-Some-clause-front : goal.returns-in-Some-clause-front
returns-in-Some-clause-front c =
    c.split_at.ensures.front
    ∙ until_found c.args.byte c.args.bytes.now c.in-Some.i c.in-Some.ensures.0.high c.in-Some.ensures.0.before c.in-Some.ensures.1

pub returns-in-Some-clause-rest : goal.returns-in-Some-clause-rest
returns-in-Some-clause-rest c =
    ap Some c.split_at-in-Some.ensures.back
    ∙ behind_found c.args.byte c.args.bytes.now c.in-Some.i c.in-Some.ensures.0.high c.in-Some.ensures.0.before c.in-Some.ensures.1

pub returns-in-None-clause-whole : goal.returns-in-None-clause-whole
returns-in-None-clause-whole c = whole_missing c.args.byte c.args.bytes.now c.in-None.ensures

pub returns-in-None-clause-front : goal.returns-in-None-clause-front
returns-in-None-clause-front c = until_missing c.args.byte c.args.bytes.now c.in-None.ensures

pub returns-in-None-clause-rest : goal.returns-in-None-clause-rest
returns-in-None-clause-rest c = behind_missing c.args.byte c.args.bytes.now c.in-None.ensures
