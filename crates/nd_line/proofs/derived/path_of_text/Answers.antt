use Rattle.std.proofs.lemmas.Result.{IfOk-weaker}
use Rattle.nd_line.proofs.Sayings.{path_found}
use Rattle.nd_line.proofs.derived.path_of_text.Goals as goal

pub returns-clause-found : goal.returns-clause-found
returns-clause-found c =
    IfOk-weaker c.own_path.result _ _
    (λ path own. path_found c.args.name.now c.args.text.now path c.as_slice-inputs.result.now c.as_slice.result.now c.in_ok-contents.contents c.in_ok-contents.ensures.found c.as_slice-inputs.ensures c.as_slice.ensures own) c.own_path.ensures.own
