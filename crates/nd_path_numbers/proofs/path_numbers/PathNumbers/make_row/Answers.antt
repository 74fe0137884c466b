use Rattle.std.proofs.Common.{◌∷◌, ◌++◌, [], List, ℕ, subst, ap, ◌∙◌}
use Rattle.nd_path_numbers.specs.Numbers.{Numbered, HasGrown}
use Rattle.nd_path_numbers.proofs.Growing.{grown_none, row_grown}
use Rattle.nd_path_numbers.proofs.path_numbers.PathNumbers.make_row.Goals as goal

pub returns-in_err-push-clause-grown : goal.returns-in_err-push-clause-grown
returns-in_err-push-clause-grown c = rw (c.in_err-push.ensures.items, c.self.view_is) (grown_none c.args.self.now)

pub returns-in_ok-push-clause-grown : goal.returns-in_ok-push-clause-grown
returns-in_ok-push-clause-grown c =
    subst (λ (n : Numbered). HasGrown n (record { paths = c.self.inside.paths.keys; rows = c.push.new.self.items })) c.self.view_is
    (row_grown (record { paths = c.self.inside.paths.keys; rows = c.self.inside.rows.items }) c.push.new.self.items
    (c.in_ok-push.ensures.items ∙ ap (λ (x : List ℕ). c.self.inside.rows.items ++ x ∷ []) (c.new-then-len.ensures ∙ c.new.ensures.items)))

pub returns-else-len-clause-grown : goal.returns-else-len-clause-grown
returns-else-len-clause-grown c = grown_none c.args.self.now
