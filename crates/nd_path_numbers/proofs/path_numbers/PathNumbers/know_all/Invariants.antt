use Rattle.std.proofs.Common.{take}
use Rattle.nd_path_numbers.specs.Numbers.{AreNumbersOf, HasGrown, AddsOnly}
use Rattle.nd_path_numbers.proofs.path_numbers.PathNumbers.know_all.Given as goal

abbrev pub invariant-loop-path : goal.invariant-loop-path
invariant-loop-path l = record {
  grown : HasGrown l.fn.self l.self;
  only : AddsOnly l.fn.self.paths l.self.paths l.paths;
  numbers : AreNumbersOf l.self.paths (take l.path-index l.paths) l.numbers.items;
}
