use Rattle.std.proofs.Common.{map, take}
use Rattle.nd_path_numbers.specs.Numbers.{HasGrown}
use Rattle.nd_provision.specs.Stored.{entry_of, AreListings, AreGivenEntries}
use Rattle.nd_provision.proofs.numbering.list_given.Given as goal

abbrev pub invariant-loop-path : goal.invariant-loop-path
invariant-loop-path l = record {
  grown : HasGrown l.fn.numbers l.numbers;
  listed : AreListings l.numbers.paths l.listings.items;
  entries : AreGivenEntries l.info.entries (take l.path-index l.given) (map entry_of l.listings.items);
}
