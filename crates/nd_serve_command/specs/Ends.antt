-- What is seen of the devices of a session. Public clauses cite this.
use Rattle.std.specs.Prelude.{ℕ, List, Option}
use Rattle.nd_desk.specs.Notes.{Seen, ends_alone}
use Rattle.nd_serve_command.specs.declared.devices.Devices.{Devices}

-- what the input has left and what the output holds, where that is known, and no more
abbrev pub ends_of : {R W J : Type 0} → (R → Option (List ℕ)) → (W → Option (List ℕ)) → Devices R W J → Seen
ends_of remaining contents devices = ends_alone (remaining devices.input) (contents devices.output)
