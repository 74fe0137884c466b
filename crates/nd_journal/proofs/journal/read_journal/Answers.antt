use Rattle.nd_journal.proofs.OneAnswer.{exact_by}
use Rattle.nd_journal.proofs.journal.read_journal.Goals as goal

pub returns-clause-exactly : goal.returns-clause-exactly
returns-clause-exactly c = λ entries read.
    exact_by c.args.bytes.now c.read_bytes.result entries c.read_bytes.ensures.read c.read_bytes.ensures.refused read
