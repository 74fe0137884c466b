use Rattle.std.proofs.Common.{take}
use Rattle.nd_closure.specs.Closures.{HoldsAll, AddsOnly}
use Rattle.nd_closure.proofs.closures.add_all.Given as goal

abbrev pub invariant-loop-path : goal.invariant-loop-path
invariant-loop-path l = record {
  only : AddsOnly l.fn.found.keys l.found.keys l.paths;
  all : HoldsAll l.found.keys (take l.path-index l.paths);
}
