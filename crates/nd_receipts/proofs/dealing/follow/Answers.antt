use Rattle.nd_receipts.proofs.Crossings.{follows_chosen}
use Rattle.nd_receipts.proofs.dealing.follow.Goals as goal

pub returns-in-Some-clause-follows : goal.returns-in-Some-clause-follows
returns-in-Some-clause-follows c = rw c.in-Chosen.is (follows_chosen c.args.places.now c.args.choices.now.items c.put-in-Chosen.new.numbers.items c.in-Chosen.drv c.in-Chosen.machine c.in-Chosen.slot c.in-Some.worker c.in-Some.ensures.found c.put-in-Chosen.ensures)
