use Rattle.std.proofs.Common.{reverse, arith}
use Rattle.nd_history.proofs.Slots.{within_load}
use Rattle.nd_history.proofs.deciding.free_slot.Goals as goal

pub overflow_cast-result : goal.overflow_cast-result
overflow_cast-result c = let lt = within_load (reverse c.args.book.now.entries) c.args.machine c.least_free.result c.least_free.ensures in omega (arith, lt, c.requires.load, c.ranges.jobs)

pub returns : goal.returns
returns c = record {
  within = let lt = within_load (reverse c.args.book.now.entries) c.args.machine c.least_free.result c.least_free.ensures in omega (arith, lt, c.requires.load);
  least = c.least_free.ensures;
}
