use Rattle.std.proofs.Common.{◌≡◌, map, take}
use Rattle.std.specs.List.{zip}
use Rattle.nd_path_numbers.specs.Numbers.{HasGrown}
use Rattle.nd_provision.specs.Stored.{entry_of, AreListings}
use Rattle.nd_provision.proofs.numbering.list_beside.Given as goal

abbrev pub invariant-loop-i : goal.invariant-loop-i
invariant-loop-i l = record {
  grown : HasGrown l.fn.numbers l.numbers;
  listed : AreListings l.numbers.paths l.listings.items;
  entries : map entry_of l.listings.items ≡ take l.i (zip l.paths l.refs);
}
