use Rattle.nd_bundle.proofs.OneDrvPath.{one_drv_path}
use Rattle.nd_bundle.proofs.drv_paths.drv_path.Goals as goal

pub returns-in-Ok-clause-exactly : goal.returns-in-Ok-clause-exactly
returns-in-Ok-clause-exactly c = λ path is. one_drv_path c.args.name.now c.args.text.now c.in-Ok.path path c.in-Ok.ensures.found is
