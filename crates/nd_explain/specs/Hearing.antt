-- What contracts see of a reader or writer that remembers what the system said. Public clauses cite it.
use Rattle.nd_explain.specs.declared.hearing.Heard.{Heard}

-- the device that calls are passed on to
abbrev pub device_of : {T : Type 0} → Heard T → T
device_of heard = heard.device
