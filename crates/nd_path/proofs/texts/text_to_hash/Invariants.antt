use Rattle.std.proofs.Common.{◌≡◌, ◌++◌, drop}
use Rattle.std.specs.Prelude.{codes}
use Rattle.nd_path.specs.TextPaths.{references}
use Rattle.nd_path.proofs.texts.text_to_hash.Given as goal

abbrev pub invariant-loop-path : goal.invariant-loop-path
invariant-loop-path l = l.text.items ++ references (drop l.path-index l.refs) ≡ codes "text" ++ references l.refs
