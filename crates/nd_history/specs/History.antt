-- What a history of entries says of leases, machines and derivations.
--
-- In these definitions a history stands newest first: `e ∷ past` is the history in which the entry e came after `past`.
-- So "the last of the entries that ..", "since the newest choice" and "what came before" are the order of the equations.
-- Calls show their histories oldest first, and clauses apply these definitions to `reverse history`.
--
-- Leases, slots, drained machines and the histories themselves are this project's own choice.
-- Public clauses cite this, but `ends` serves proofs alone.
use Rattle.std.specs.Prelude.{ℕ, Bool, true, false, not, ◌&&◌, ◌||◌, ◌==◌, if◌then◌else◌, List, [], ◌∷◌, length, Option, count_by}
use Rattle.std.specs.List.{find, list_any}
use Rattle.nd_history.specs.declared.entry.Entry.{Entry}
use Rattle.nd_history.specs.declared.entry.Entry.TheVariants.{Chosen, NoBuilder, Started, Down, Built, Failed, Stop, Drain, Enable}
use Rattle.nd_leases.specs.declared.ticket.Ticket.{Ticket}
use Rattle.nd_leases.specs.Tickets.{without, is_on}

-- ---- leases

-- the live leases, newest first: the choices with no later end of the same derivation
abbrev pub live : List Entry → List Ticket
live [] = []
live (Chosen d m s ∷ past) = record { machine = m; slot = s; drv = d; serial = length past } ∷ live past
live (Down d ∷ past) = without d (live past)
live (Built d refs ∷ past) = without d (live past)
live (Failed d why ∷ past) = without d (live past)
live (NoBuilder d ∷ past) = live past
live (Started d paths ∷ past) = live past
live (Stop ∷ past) = live past
live (Drain m ∷ past) = live past
live (Enable m ∷ past) = live past

-- the live lease of derivation d
abbrev pub lease_of : ℕ → List Entry → Option Ticket
lease_of d past = find (λ t. d == t.drv) (live past)

-- derivation d has a live lease
abbrev pub is_leased : ℕ → List Entry → Bool
is_leased d past = list_any (λ t. d == t.drv) (live past)

-- the load of machine m: how many live leases name it
abbrev pub load : ℕ → List Entry → ℕ
load m past = count_by (λ t. m == t.machine) (live past)

-- a live lease is on slot s of machine m
abbrev pub is_taken : ℕ → ℕ → List Entry → Bool
is_taken m s past = list_any (is_on m s) (live past)

-- the live lease on slot s of machine m
abbrev pub current_of : ℕ → ℕ → List Entry → Option Ticket
current_of m s past = find (is_on m s) (live past)

-- derivation d was started since its newest choice
abbrev pub is_started : ℕ → List Entry → Bool
is_started d [] = false
is_started d (Started e paths ∷ past) = (d == e) || is_started d past
is_started d (Chosen e m s ∷ past) = if d == e then false else is_started d past
is_started d (NoBuilder e ∷ past) = is_started d past
is_started d (Down e ∷ past) = is_started d past
is_started d (Built e refs ∷ past) = is_started d past
is_started d (Failed e why ∷ past) = is_started d past
is_started d (Stop ∷ past) = is_started d past
is_started d (Drain m ∷ past) = is_started d past
is_started d (Enable m ∷ past) = is_started d past

-- ---- machines

-- machine m is up: of the entries that are a `Down` of a lease on it, a `Drain` of it or an `Enable` of it, the newest is
-- an `Enable`, or there is none
abbrev pub is_up : ℕ → List Entry → Bool
is_up m [] = true
is_up m (Down d ∷ past) = if list_any (λ t. (m == t.machine) && (d == t.drv)) (live past) then false else is_up m past
is_up m (Drain n ∷ past) = if m == n then false else is_up m past
is_up m (Enable n ∷ past) = if m == n then true else is_up m past
is_up m (Chosen d n s ∷ past) = is_up m past
is_up m (NoBuilder d ∷ past) = is_up m past
is_up m (Started d paths ∷ past) = is_up m past
is_up m (Built d refs ∷ past) = is_up m past
is_up m (Failed d why ∷ past) = is_up m past
is_up m (Stop ∷ past) = is_up m past

-- ---- what has come to pass

-- the entry is the end of a build of d with its outputs
abbrev pub builds : ℕ → Entry → Bool
builds d (Built e refs) = d == e
builds d _ = false

-- the entry says that derivation d failed, or that nothing may ever build it
abbrev pub fails : ℕ → Entry → Bool
fails d (Failed e why) = d == e
fails d (NoBuilder e) = d == e
fails d _ = false

-- the entry says of some derivation that it failed
abbrev pub is_failure : Entry → Bool
is_failure (Failed e why) = true
is_failure (NoBuilder e) = true
is_failure _ = false

abbrev pub is_stop : Entry → Bool
is_stop Stop = true
is_stop _ = false

-- the entry is the end of a lease of d
abbrev pub ends : ℕ → Entry → Bool
ends d (Down e) = d == e
ends d (Built e refs) = d == e
ends d (Failed e why) = d == e
ends d _ = false

abbrev pub is_built : ℕ → List Entry → Bool
is_built d past = list_any (builds d) past

abbrev pub is_failed : ℕ → List Entry → Bool
is_failed d past = list_any (fails d) past

-- a stop was asked for
abbrev pub has_stop : List Entry → Bool
has_stop past = list_any is_stop past

-- no further lease is made: a stop was asked for, or something failed and the rest doesn't go on
-- (Nix Reference Manual, the option `--keep-going`)
abbrev pub is_stopped : Bool → List Entry → Bool
is_stopped keep_going past = has_stop past || (not keep_going && list_any is_failure past)
