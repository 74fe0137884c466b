-- What a stand-in goes by, beside the transport that it is. No public clause cites these definitions: they serve the proofs
-- of `StandIn` alone.
use Rattle.std.specs.Prelude.{ℕ, List, Option}
use Rattle.nd_script.specs.declared.rule.Rule.{Rule}
use Rattle.nd_transports.specs.Calls.{State}
use Rattle.nd_transports.specs.StandIns.{Stood}

pub record Conducted : Type 0 where
  -- the machine that it stands for
  pub machine : ℕ
  -- the number of outputs of the job that was prepared last
  pub outputs : ℕ
  pub rules : List Rule
  -- how many more calls pass before each answers no or is lost; without a fuse all pass
  pub fuse : Option ℕ

-- the stand-in that goes by this, with the transport that it is
abbrev pub stood : Conducted → State → Stood
stood c state = record { machine = c.machine; outputs = c.outputs; rules = c.rules; fuse = c.fuse; state = state }
