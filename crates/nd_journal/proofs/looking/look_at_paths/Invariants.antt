use Rattle.std.specs.List.{AllWithin}
use Rattle.nd_path.specs.Refusals.{IsPath}
use Rattle.nd_journal.proofs.looking.look_at_paths.Given as goal

-- those so far were looked at
abbrev pub invariant-loop-path : goal.invariant-loop-path
invariant-loop-path l = AllWithin IsPath l.paths 0 l.path-index
