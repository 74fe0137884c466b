-- What becomes of leases that no worker serves. The public clause of `abandon` cites `HasAbandoned` and what it is made of;
-- `LeavesOthers` and `LeavesOtherMachines` serve proofs alone. The histories of these definitions stand newest first.
-- This project's own choice.
use Rattle.std.specs.Prelude.{◌≡◌, ◌≢◌, ℕ, Bool, if◌then◌else◌, List, [], ◌∷◌, ◌++◌, map, reverse, Option, Some, None}
use Rattle.std.specs.List.{filter_map, flat_map, list_any, range_with_len}
use Rattle.nd_history.specs.declared.entry.Entry.{Entry}
use Rattle.nd_history.specs.declared.entry.Entry.TheVariants.{Failed, Stop}
use Rattle.nd_leases.specs.declared.ticket.Ticket.{Ticket}
use Rattle.nd_history.specs.declared.entry.Why.TheVariants.{NoWorker}
use Rattle.nd_history.specs.Premises.{Premises}
use Rattle.nd_history.specs.Choices.{machines_in, jobs_of}
use Rattle.nd_history.specs.History.{current_of, has_stop}
use Rattle.nd_leases.specs.Tickets.{same_place}
use Rattle.nd_ledger.specs.Worlds.{World}

-- the places of machine m: it with each of its slots
abbrev pub places_on : Premises → ℕ → List (ℕ × ℕ)
places_on i m = map (λ s. (m, s)) (range_with_len 0 (jobs_of i m))

-- all places of the park, in the order of the machines and their slots
abbrev pub places_of : Premises → List (ℕ × ℕ)
places_of i = flat_map (places_on i) (range_with_len 0 (machines_in i))

-- the place is one of these
abbrev pub is_manned : List (ℕ × ℕ) → ℕ × ℕ → Bool
is_manned manned p = list_any (same_place p) manned

-- the end of a lease that no worker serves
abbrev pub end_of : Option Ticket → Option Entry
end_of (Some t) = Some (Failed t.drv NoWorker)
end_of None = None

-- the end of the live lease on a place that no worker serves
abbrev pub given_up_at : List (ℕ × ℕ) → List Entry → ℕ × ℕ → Option Entry
given_up_at manned past p = if is_manned manned p then None else end_of (current_of p.0 p.1 past)

-- a stop where none stands
abbrev pub stop_after : List Entry → List Entry
stop_after past = if has_stop past then [] else Stop ∷ []

-- the ends of the live leases on these places that no worker serves
abbrev pub ends_on : List (ℕ × ℕ) → List Entry → List (ℕ × ℕ) → List Entry
ends_on manned past places = filter_map (given_up_at manned past) places

-- a stop where none stands, and then the ends of all live leases on places that no worker serves
abbrev pub last_entries : Premises → List (ℕ × ℕ) → List Entry → List Entry
last_entries i manned past = stop_after past ++ ends_on manned past (places_of i)

-- a dispatch has these behind what it had, and nothing else has changed
abbrev pub HasAbandoned : World → List (ℕ × ℕ) → World → Type 0
HasAbandoned before manned after = after ≡ record before { history = before.history ++ last_entries before.inputs manned (reverse before.history) }

-- what is leased on other places is as it was
pub record LeavesOthers (m s : ℕ) (before after : List Entry) : Type 0 where
  pub each : (n k : ℕ) → ((n ≡ m) × (k ≡ s) → ⊥) → current_of n k after ≡ current_of n k before

-- what is leased on other machines is as it was
pub record LeavesOtherMachines (m : ℕ) (before after : List Entry) : Type 0 where
  pub each : (n k : ℕ) → n ≢ m → current_of n k after ≡ current_of n k before
