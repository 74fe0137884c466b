-- What is seen of the stores' parts, and what is true of them.
-- No public clause cites this: it says what a type keeps.
use Rattle.nd_provision.specs.Told.{AreTold}
use Rattle.nd_provision.specs.Stored.{Stored}
use Rattle.nd_provision.specs.declared.stores.Stores.TheInside.{Inside}

abbrev pub stored : Inside → Stored
stored s = record { entries = s.listed.entries; spare = s.listed.spare; numbers = s.numbers; seeds = s.seeds; stocks = s.holdings; whole = s.whole }

-- the listed numbers are those of the listed paths
abbrev pub AreKept : Inside → Type 0
AreKept s = AreTold s.listed s.numbers.paths
