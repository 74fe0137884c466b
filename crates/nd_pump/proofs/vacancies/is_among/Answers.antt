use Rattle.std.proofs.Common.{refl}
use Rattle.nd_pump.proofs.Looking.{found_at, not_found}
use Rattle.nd_pump.proofs.vacancies.is_among.Goals as goal

pub returns-in-Ok : goal.returns-in-Ok
returns-in-Ok c = (λ _. found_at c.args.places.now c.args.place c.in-Ok.field-0 c.in-Ok.ensures.bound (c.in-Ok.ensures.ok c.args.place), λ _. refl)

pub returns-in-Err : goal.returns-in-Err
returns-in-Err c = (
  λ h. cc,
  λ h. absurd (not_found c.args.places.now c.args.place c.in-Err.field-0 c.requires c.in-Err.ensures.position h),
)
