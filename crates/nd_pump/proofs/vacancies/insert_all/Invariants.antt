use Rattle.nd_pump.specs.Vacancies.{AreVacantTo}
use Rattle.nd_pump.proofs.vacancies.insert_all.Given as goal

-- those so far are in the set
abbrev pub invariant-loop-builder : goal.invariant-loop-builder
invariant-loop-builder l = AreVacantTo l.builders l.builder l.set
