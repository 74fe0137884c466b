use Rattle.std.proofs.Common.{◌≡◌}
use Rattle.std.proofs.lemmas.Result.{IfErr-weaker, IfOk-weaker}
use Rattle.nd_links.specs.Numbering.{HasNumbers, IsNumberFault, LacksNumbers}
use Rattle.nd_graph.specs.Walks.{AreDistinct}
use Rattle.nd_links.proofs.Numbering.{all_distinct, all_lack, all_same, on_ok_if}
use Rattle.nd_links.proofs.number.number_all.Goals as goal

pub returns-clause-ok : goal.returns-clause-ok
returns-clause-ok c =
    IfOk-weaker c.into_paths.result (λ keys. HasNumbers c.add.new.self keys.keys) (λ keys. keys.keys ≡ c.args.paths.items)
    (λ keys has. all_same c.new-numbers.result c.add.new.self c.args.paths.items keys.keys c.new-numbers.ensures c.in_ok-add.ensures has) c.into_paths.ensures.ok

pub returns-clause-distinct : goal.returns-clause-distinct
returns-clause-distinct c =
    on_ok_if (λ keys. HasNumbers c.add.new.self keys.keys) (AreDistinct c.args.paths.items) c.into_paths.result
    (λ keys has. all_distinct c.new-numbers.result c.add.new.self c.args.paths.items keys.keys c.new-numbers.ensures c.in_ok-add.ensures has) c.into_paths.ensures.ok

pub returns-clause-err : goal.returns-clause-err
returns-clause-err c =
    IfErr-weaker c.into_paths.result (λ fault. LacksNumbers c.add.new.self fault) (λ fault. IsNumberFault c.args.paths.items fault)
    (λ fault lacks. all_lack c.new-numbers.result c.add.new.self c.args.paths.items fault c.new-numbers.ensures c.in_ok-add.ensures lacks) c.into_paths.ensures.err
