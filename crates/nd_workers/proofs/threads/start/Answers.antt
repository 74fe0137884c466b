use Rattle.nd_workers.proofs.Stints.{served_idle}
use Rattle.nd_workers.proofs.threads.start.Goals as goal

pub returns-then-stopped : goal.returns-then-stopped
returns-then-stopped g c = served_idle _ _ c.args.hand.notes c.requires.receipts c.requires.copies
