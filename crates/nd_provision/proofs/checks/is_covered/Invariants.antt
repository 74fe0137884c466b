use Rattle.std.proofs.Common.{take, map}
use Rattle.nd_path_numbers.specs.Numbers.{path_in}
use Rattle.nd_provision.specs.Stored.{IsCovered}
use Rattle.nd_provision.proofs.checks.is_covered.Given as goal

abbrev pub invariant-loop-path : goal.invariant-loop-path
invariant-loop-path l = IsCovered (take l.path-index l.closure) (map (path_in l.numbers.paths) l.held.numbers) l.copied
