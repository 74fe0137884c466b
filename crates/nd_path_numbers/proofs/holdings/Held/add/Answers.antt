use Rattle.std.proofs.Common.{◌≡◌, ◌∙◌, false, not, ap, sym, true≢false}
use Rattle.std.proofs.lemmas.Bool.{false_from_ne_true}
use Rattle.nd_path_numbers.specs.Held.{is_among}
use Rattle.nd_path_numbers.proofs.Holding.{member_by_test}
use Rattle.nd_path_numbers.proofs.holdings.Held.add.Goals as goal

pub returns-clause-added : goal.returns-clause-added
returns-clause-added c =
    let new : is_among c.args.self.now.numbers c.args.number ≡ false =
    false_from_ne_true (is_among c.args.self.now.numbers c.args.number)
    (λ among. true≢false (sym (c.contains.ensures.1 ((member_by_test c.args.self.now.numbers c.args.number).0 among)) ∙ c.if-contains.false)) in
    sym (ap not new)
