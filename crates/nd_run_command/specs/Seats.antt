-- The places of a park that a run has a stand-in for, and the stand-in on each. The contracts of `places` and `stand_ins`
-- cite what stands here. This project's own choice.
use Rattle.std.specs.Prelude.{ℕ, ◌<◌, List, length, None}
use Rattle.nd_script.specs.declared.rule.Rule.{Rule}
use Rattle.nd_transports.specs.Calls.{unused}
use Rattle.nd_transports.specs.StandIns.{Stood}
use Rattle.nd_cli.specs.declared.fault.CliFault.{CliFault}
use Rattle.nd_cli.specs.declared.fault.CliFault.TheVariants.{TooManySlots, Memory}

-- why places are refused: they are more than 1,024, or memory ran out
abbrev pub AreTooMany : List (ℕ × ℕ) → CliFault → Type 0
AreTooMany places TooManySlots = 1024 < length places
AreTooMany places Memory = Unit {0}
AreTooMany places _ = ⊥

-- the stand-in on a place: for the place's machine, with these rules, without a fuse, and before its first call
abbrev pub stand_in_on : List Rule → ℕ × ℕ → Stood
stand_in_on rules place = record { machine = place.0; outputs = 0; rules = rules; fuse = None; state = unused }
