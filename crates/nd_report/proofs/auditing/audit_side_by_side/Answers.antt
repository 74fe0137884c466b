use Rattle.nd_history.specs.Premises.{premises_of}
use Rattle.nd_report.proofs.Admissions.{beside_refused, refused_alone}
use Rattle.nd_report.proofs.auditing.audit_side_by_side.Goals as goal

pub returns-in-Err-clause-exactly : goal.returns-in-Err-clause-exactly
returns-in-Err-clause-exactly g c = λ legal.
    let i = premises_of c.args.inputs.now in
    let refused = beside_refused i c.args.entries.items c.in-Err.unadmitted c.refusal_at.result c.in-Err.ensures.refused c.refusal_at.ensures in
    refused_alone i c.args.entries.items c.refusal_at.result refused legal
