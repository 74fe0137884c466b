use Rattle.std.proofs.Common.{take}
use Rattle.nd_path_numbers.specs.Searches.{IsCovered, AddsUnheld}
use Rattle.nd_path_numbers.proofs.searching.add_unheld.Given as goal

abbrev pub invariant-loop-number : goal.invariant-loop-number
invariant-loop-number l = record {
  only : AddsUnheld l.held.numbers l.fn.found l.found l.numbers;
  all : IsCovered (take l.number-index l.numbers) l.held.numbers l.found;
}
