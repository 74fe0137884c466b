use Rattle.std.proofs.Common.{ℕ, Bool, List, refl, sym, subst}
use Rattle.nd_pump.specs.Few.{AreLooked}
use Rattle.nd_pump.specs.Vacancies.{HoldVacant}
use Rattle.nd_pump.proofs.Looking.{looked_from, looked_next, looked_all}
use Rattle.nd_pump.proofs.vacancies.Vacancies.few_of.Goals as goal

-- no builder was looked at, and none among the places stands before the first of these
pub loop-init : goal.loop-init
loop-init c =
    subst (λ (few : List ℕ). AreLooked c.args.machines.now c.args.loads.now c.args.ups.now c.args.among.now c.self.inside.builders c.first_of-from.result few)
    (sym c.new-few.ensures)
    (looked_from c.args.machines.now c.args.loads.now c.args.ups.now c.args.among.now c.self.inside.builders c.first_of-from.result
    (subst (λ (flags : List Bool). HoldVacant c.args.machines.now c.args.loads.now c.args.ups.now flags) (sym c.self.view_is) c.requires.vacant)
    c.first_of-from.ensures)

-- one more builder was looked at
pub loop-preserved : goal.loop-preserved
loop-preserved c =
    looked_next c.args.machines.now c.args.loads.now c.args.ups.now c.args.among.now c.loop.self-inside.builders c.look.new.builders
    c.loop.from c.in-Some.place c.loop.few c.look.new.few c.loop.invariant c.in-Some.ensures c.look.ensures.vacant (c.if-not-look.ensures.looked refl)

-- no other builder up to the last place may be free
pub returns-in_default-clause-few : goal.returns-in_default-clause-few
returns-in_default-clause-few c =
    looked_all c.args.machines.now c.args.loads.now c.args.ups.now c.args.among.now c.loop.self-inside.builders
    c.loop.from c.last_of-last.result c.loop.few c.loop.invariant c.last_of-last.ensures c.in_default.ensures
