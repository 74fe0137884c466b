-- What is printed of a refusal of an audit. The names are this project's own.
-- Public clauses cite this.
use Rattle.std.specs.Prelude.{ℕ, List, ◌++◌, codes}
use Rattle.std.specs.Fmt.{decimal}
use Rattle.nd_history.specs.Audit.{rule_name}
use Rattle.nd_report.specs.declared.audit_error.AuditError.{AuditError}
use Rattle.nd_report.specs.declared.audit_error.AuditError.TheVariants.{Illegal, Memory}

abbrev pub refusal_text : AuditError → List ℕ
refusal_text (Illegal index rule) = codes "Illegal " ++ decimal index ++ codes " " ++ rule_name rule
refusal_text Memory = codes "Memory"
