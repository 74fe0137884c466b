use Rattle.nd_aterm.proofs.StringLemmas.{plain_to, begins}
use Rattle.nd_aterm.proofs.strings.plain_at.Goals as goal

pub returns-clause-plain : goal.returns-clause-plain
returns-clause-plain c =
    rw c.split_at.ensures.front (plain_to c.args.bytes.now c.plain_length.result c.plain_length.ensures.within c.plain_length.ensures.plain)

pub returns-clause-ends : goal.returns-clause-ends
returns-clause-ends c =
    rw c.split_at.ensures.back (begins c.args.bytes.now c.plain_length.result c.plain_length.ensures.ends)
