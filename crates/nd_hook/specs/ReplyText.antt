-- How a reply is written: one line, and for an accepted machine its URI on a second one.
-- Public clauses cite this.
use Rattle.std.specs.Prelude.{ℕ, ◌<◌, ⊤, List, [], ◌∷◌, ◌++◌, length, slice_get, codes}
use Rattle.std.specs.Option.{option_map_or}
use Rattle.nd_machines.specs.Builders.{Builder}
use Rattle.nd_hook.specs.declared.kinds.Reply.{Reply}
use Rattle.nd_hook.specs.declared.kinds.Reply.TheVariants.{Accept, Postpone, Decline, DeclinePermanently}

-- a line with its newline
unfoldable pub line : List ℕ → List ℕ
line text = text ++ 10 ∷ []

-- the URI of a machine of the list (past its end: nothing)
abbrev pub uri_at : List Builder → ℕ → List ℕ
uri_at machines place = option_map_or (λ machine. machine.uri) (slice_get machines place) []

-- the two lines that accept the machine with this URI
abbrev pub accept_text : List ℕ → List ℕ
accept_text uri = line (codes "# accept") ++ line uri

-- the text of a reply
abbrev pub reply_text : List Builder → Reply → List ℕ
reply_text machines (Accept place) = accept_text (uri_at machines place)
reply_text machines Postpone = line (codes "# postpone")
reply_text machines Decline = line (codes "# decline")
reply_text machines DeclinePermanently = line (codes "# decline-permanently")

-- an accepted place is in the list
abbrev pub IsInList : List Builder → Reply → Type 0
IsInList machines (Accept place) = place < length machines
IsInList machines Postpone = ⊤
IsInList machines Decline = ⊤
IsInList machines DeclinePermanently = ⊤
