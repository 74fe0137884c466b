use Rattle.nd_path_numbers.proofs.Holding.{member_by_test}
use Rattle.nd_path_numbers.proofs.holdings.Held.contains.Goals as goal

pub returns : goal.returns
returns c = rw c.tells.ensures (member_by_test c.args.self.now.numbers c.args.number)
