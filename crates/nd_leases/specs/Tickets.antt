-- Lists of tickets: the leases of derivations on slots of machines. Leases and slots are this project's own choice.
-- Public clauses cite this.
use Rattle.std.specs.Prelude.{◌≡◌, ℕ, Bool, not, ◌&&◌, ◌==◌, List, [], ◌∷◌, Option, None, count_by}
use Rattle.std.specs.List.{filter, find}
use Rattle.nd_leases.specs.declared.ticket.Ticket.{Ticket}

-- a derivation's ticket taken out of a list of tickets
abbrev pub without : ℕ → List Ticket → List Ticket
without d tickets = filter (λ t. not (d == t.drv)) tickets

-- two places, each a machine and a slot of it, are one
abbrev pub same_place : ℕ × ℕ → ℕ × ℕ → Bool
same_place p q = (p.0 == q.0) && (p.1 == q.1)

-- the ticket is on slot s of machine m
abbrev pub is_on : ℕ → ℕ → Ticket → Bool
is_on m s t = same_place (m, s) (t.machine, t.slot)

-- the ticket of derivation d
abbrev pub ticket_of : ℕ → List Ticket → Option Ticket
ticket_of d tickets = find (λ t. d == t.drv) tickets

-- the ticket on slot s of machine m
abbrev pub ticket_on : ℕ → ℕ → List Ticket → Option Ticket
ticket_on m s tickets = find (is_on m s) tickets

-- how many tickets are on machine m
abbrev pub tickets_on : ℕ → List Ticket → ℕ
tickets_on m tickets = count_by (λ t. m == t.machine) tickets

-- no derivation has two tickets, and no two are on one slot
abbrev pub AreApart : List Ticket → Type 0
AreApart [] = Unit {0}
AreApart (t ∷ tickets) = (ticket_of t.drv tickets ≡ None) × (ticket_on t.machine t.slot tickets ≡ None) × AreApart tickets
