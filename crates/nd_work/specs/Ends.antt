-- How a worker ends, and how a started lease goes on. It serves proofs alone. This project's own choice.
use Rattle.std.specs.Prelude.{◌≡◌, ℕ, Bool, true, false, []}
use Rattle.nd_transports.specs.Calls.{Deed}
use Rattle.nd_work.specs.declared.working.End.{End}
use Rattle.nd_work.specs.declared.working.End.TheVariants.{Again, Finished, Left, Refused}
use Rattle.nd_receipts.specs.Noted.{Track, GoesOn, IsFinished, afresh}

-- unless an entry of its own was refused, its calls are those of its receipts
abbrev pub EndsWell : (ℕ → Deed → Type 0) → End → Track → Track → Type 0
EndsWell Due Again s t = GoesOn Due s t
EndsWell Due Finished s t = GoesOn Due s t
EndsWell Due Left s t = GoesOn Due s t
EndsWell Due Refused s t = Unit {0}

-- a started lease of d was built, and its end is noted; or nothing was done, since its start isn't durable
abbrev pub HasBuilt : (ℕ → Deed → Type 0) → Track → Track → ℕ → Bool → Type 0
HasBuilt Due s t d true = IsFinished Due s t d (afresh 1 [])
HasBuilt Due s t d false = t ≡ s
