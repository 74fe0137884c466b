use Rattle.nd_workers.proofs.running.run_by.Given as goal

abbrev pub ghosts-run_named-L-Ledger : goal.ghosts-run_named-L-Ledger
ghosts-run_named-L-Ledger g a = record { name = a.blank.name; parts = a.blank.parts }

abbrev pub ghosts-run_named-L-Opened : goal.ghosts-run_named-L-Opened
ghosts-run_named-L-Opened g a = record { opening = a.dispatch; keeping = record { book = a.paper.scribe.handed.book; keeps = a.paper.keeps } }
