use Rattle.nd_pump.specs.Few.{AreLooked}
use Rattle.nd_pump.proofs.vacancies.Vacancies.few_of.Given as goal

-- the places before `from` were looked at
abbrev pub invariant-loop : goal.invariant-loop
invariant-loop l = AreLooked l.machines l.loads l.ups l.among l.self-inside.builders l.from l.few
