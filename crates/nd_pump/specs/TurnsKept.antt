-- What the turns keep, beside what the model shows.
-- No public clause cites this: it says what a type keeps.
use Rattle.nd_pump.specs.Turned.{Turned, IsWhole}
use Rattle.nd_pump.specs.declared.turns.Turns.TheInside.{Inside}

abbrev pub turned : Inside → Turned
turned t = record { queue = t.queue; kinds = t.kinds; vacant = t.vacancies }

abbrev pub IsKept : Inside → Type 0
IsKept t = IsWhole (turned t)
