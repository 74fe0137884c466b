use Rattle.nd_path_numbers.specs.Numbers.{AreNumbersOf}
use Rattle.nd_provision.proofs.Seeding.{needed_up_to}
use Rattle.nd_provision.proofs.needs.seed_row.Given as goal

abbrev pub invariant-loop-input : goal.invariant-loop-input
invariant-loop-input l = AreNumbersOf l.numbers.paths (needed_up_to l.graph l.drv l.input-index) l.row.items
