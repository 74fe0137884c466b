use Rattle.std.proofs.Common.{◌≡◌, ◌≤◌, length, get_or, sym, subst, ◌∙◌, arith}
use Rattle.std.proofs.lemmas.List.{get_or_past}
use Rattle.nd_leases.specs.Tables.{Tables}
use Rattle.nd_leases.proofs.leases.Leases.load.Goals as goal

pub returns-else-place-len : goal.returns-else-place-len
returns-else-place-len c = λ tickets tabled.
    sym (subst (λ (t : Tables). get_or t.loads c.args.machine 0 ≡ 0) c.self.view_is (get_or_past c.self.inside.loads.items c.args.machine 0 (let past : length c.self.inside.loads.items ≤ c.args.machine = omega arith in past))) ∙ tabled.loads c.args.machine
