-- The numbers that listings hold.
-- Private clauses alone cite this.
use Rattle.std.specs.Prelude.{ℕ}
use Rattle.nd_provision.specs.declared.copying.Listing.{Listing}

-- the number of the path that is listed
abbrev pub number_in : Listing → ℕ
number_in l = l.number
