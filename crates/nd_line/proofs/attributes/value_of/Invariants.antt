use Rattle.std.proofs.Common.{◌≡◌, drop}
use Rattle.nd_line.specs.Attributes.{variable}
use Rattle.nd_line.proofs.attributes.value_of.Given as goal

abbrev pub invariant-loop-entry : goal.invariant-loop-entry
invariant-loop-entry l = variable l.name (drop l.entry-index l.env) ≡ variable l.name l.env
