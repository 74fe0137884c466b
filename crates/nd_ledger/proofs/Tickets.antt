-- What a live lease names is there.
use Rattle.std.proofs.Common.{◌≡◌, ◌==◌, ℕ, zero, suc, ◌<◌, ◌≤◌, Bool, true, false, length, map, reverse, arith, List}
use Rattle.std.specs.Bool.{MatchBool}
use Rattle.std.proofs.lemmas.List.{length-map}
use Rattle.nd_graph.specs.Graphs.{nodes_of}
use Rattle.nd_provision.specs.declared.copying.PathsError.{PathsError}
use Rattle.nd_provision.specs.declared.copying.PathsError.TheVariants.{Uncovered, Extra, Memory}
use Rattle.nd_history.specs.declared.entry.Entry.{Entry}
use Rattle.nd_history.specs.declared.entry.Entry.TheVariants.{Chosen}
use Rattle.nd_leases.specs.declared.ticket.Ticket.{Ticket}
use Rattle.nd_history.specs.Books.{Recorded}
use Rattle.nd_history.specs.Premises.{Premises}
use Rattle.nd_history.specs.History.{is_started}
use Rattle.nd_history.specs.Standing.{drvs_in}
use Rattle.nd_choose.specs.Best.{jobs_at}
use Rattle.nd_history.specs.Choices.{machines_in, jobs_of, AreSmall}
use Rattle.nd_history.specs.Legal.{IsLegal}
use Rattle.nd_ledger.specs.Refusals.{IsLive}
use Rattle.nd_history.specs.Fitting.{FitTogether}
use Rattle.nd_provision.specs.Stored.{Stored, AreStored, IsPathsFault}
use Rattle.nd_ledger.specs.Moves.{IsStartRefused, refusal_for}
use Rattle.nd_history.proofs.Legality.{leased_ranged, allowed_at}
use Rattle.nd_history.proofs.Headline.{chosen_in}
use Rattle.nd_history.proofs.Provisions.{leased_by}

-- the machine of a live lease is in the park
pub ticket_ranged : (i : Premises) (past : List Entry) (t : Ticket) → IsLegal i past → IsLive past t → t.machine < machines_in i
ticket_ranged i past t legal found =
    let chosen = chosen_in past (λ (u : Ticket). t.drv == u.drv) t found in
    (allowed_at i chosen.later chosen.before past (Chosen t.drv t.machine t.slot) chosen.place legal).0.ranged.1

-- .. and its derivation in the graph
pub live_ranged : (i : Premises) (book : Recorded) (t : Ticket) → FitTogether i book → IsLive (reverse book.entries) t → t.drv < drvs_in i
live_ranged i book t fit found = leased_ranged i (reverse book.entries) fit.legal t.drv (leased_by t.drv (reverse book.entries) t found)

pub live_in_book : (i : Premises) (book : Recorded) (t : Ticket) → FitTogether i book → IsLive (reverse book.entries) t → t.drv < book.drvs
live_in_book i book t fit found = let ranged = live_ranged i book t fit found in let same = fit.drvs in omega arith

pub live_in_graph : (i : Premises) (book : Recorded) (t : Ticket) → FitTogether i book → IsLive (reverse book.entries) t → t.drv < length i.graph.paths
live_in_graph i book t fit found =
    let ranged : t.drv < length (map nodes_of i.graph.inputs) = live_ranged i book t fit found in
    omega (arith, ranged, length-map i.graph.inputs nodes_of, fit.sound.inputs_sized)

pub live_in_park : (i : Premises) (book : Recorded) (s : Stored) (t : Ticket) → FitTogether i book → AreStored i (reverse book.entries) s → IsLive (reverse book.entries) t → t.machine < length s.stocks
live_in_park i book s t fit stored found =
    let ranged = ticket_ranged i (reverse book.entries) t fit.legal found in let park = stored.holdings.park in omega arith

-- what is wrong with the paths is why the start is refused
pub start_refused : (i : Premises) (past : List Entry) (t : Ticket) (paths : List (List ℕ)) (fault : PathsError) → IsLive past t → is_started t.drv past ≡ false → IsPathsFault i past t.drv t.machine paths fault → IsStartRefused i past t paths (refusal_for fault)
start_refused i past t paths Uncovered live fresh h = (live, fresh, h)
start_refused i past t paths Extra live fresh h = (live, fresh, h)
start_refused i past t paths Memory live fresh h = (live, fresh)

-- what a test that says exactly where something holds says of it
pub right_then : (P : Type 0) (b : Bool) → MatchBool b P (P → ⊥) → b ≡ true → P
right_then P true h is = h
right_then P false h is = cc

pub wrong_then : (P : Type 0) (b : Bool) → MatchBool b P (P → ⊥) → b ≡ false → P → ⊥
wrong_then P true h is = cc
wrong_then P false h is = h

-- each machine's jobs are few where those of the builders and of the local machine are
pub small_park : (i : Premises) → ((p : ℕ) → jobs_at i.machines p ≤ 65535) → i.local.jobs ≤ 65535 → AreSmall i
small_park i builders home = record { jobs = each }
  where
    each : (m : ℕ) → jobs_of i m ≤ 65535
    each zero = home
    each (suc p) = builders p
