use Rattle.nd_path.proofs.Fronts.{unequal_by_front}
use Rattle.nd_path.proofs.store_path.order.Goals as goal

pub returns-in_default : goal.returns-in_default
returns-in_default c = unequal_by_front _ _ _ _ _ c.front_number.ensures c.front_number-2.ensures c.cmp.ensures c.in_default.not-Equal
