-- How what a stand-in goes by is stored. No clause cites these definitions: they are the view and the invariant of `Conduct`,
-- for proofs alone.
use Rattle.std.specs.Prelude.{◌≡◌}
use Rattle.std.specs.List.{list_any}
use Rattle.nd_script.specs.Rules.{is_no_connect, is_no_copy}
use Rattle.nd_transports.specs.declared.conduct.Conduct.TheInside.{Inside}
use Rattle.nd_transports.specs.Conducts.{Conducted}

abbrev pub conducted : Inside → Conducted
conducted s = record { machine = s.machine; outputs = s.outputs; rules = s.rules; fuse = s.passes }

-- what it keeps of the rules about its machine is what they say
pub record HasLooked (s : Inside) : Type 0 where
  pub connect : s.refuses_connect ≡ list_any (is_no_connect s.machine) s.rules
  pub copy : s.refuses_copy ≡ list_any (is_no_copy s.machine) s.rules
