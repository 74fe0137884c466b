-- What a dispatch holds stays so when an allowed entry is recorded.
use Rattle.std.proofs.Common.{◌≡◌, ℕ, ◌+◌, ◌<◌, ◌≤◌, Bool, true, false, not, ◌==◌, ◌||◌, cond, if◌then◌else◌, List, [], ◌∷◌, length, reverse, refl, sym, ap, ◌∙◌, subst, arith, Option, None, Some}
use Rattle.std.proofs.lemmas.Grind.{common_steps}
use Rattle.std.specs.List.{list_any, filter}
use Rattle.std.specs.Option.{option_map, IfSome}
use Rattle.nd_ledger.specs.declared.dispatch.Dispatch.TheInside.{Inside}
use Rattle.nd_history.specs.declared.entry.Entry.{Entry}
use Rattle.nd_history.specs.declared.entry.Entry.TheVariants.{Chosen, NoBuilder, Started, Down, Built, Failed, Stop, Drain, Enable}
use Rattle.nd_leases.specs.declared.ticket.Ticket.{Ticket}
use Rattle.nd_history.specs.declared.entry.Why.{Why}
use Rattle.nd_history.specs.Books.{Recorded}
use Rattle.nd_history.specs.Premises.{Premises, premises_of}
use Rattle.nd_failure.specs.Progress.{Progress}
use Rattle.nd_history.specs.History.{live, load, lease_of, is_started, has_stop}
use Rattle.nd_leases.specs.Tickets.{without}
use Rattle.nd_graph.specs.Graphs.{IsSound}
use Rattle.nd_history.specs.Standing.{drvs_in}
use Rattle.nd_history.specs.Choices.{AreSmall}
use Rattle.nd_history.specs.Legal.{IsLegal, IsAllowed}
use Rattle.nd_history.specs.Fitting.{FitTogether}
use Rattle.nd_provision.specs.Stored.{Stored, AreStored, is_quiet, IsSameStored, HasTaken}
use Rattle.nd_provision.specs.declared.copying.Additions.{Additions}
use Rattle.nd_history.specs.Pumping.{step_drv}
use Rattle.nd_ledger.specs.declared.state.State.{State}
use Rattle.nd_ledger.specs.States.{IsEntered, IsRoomier, IsAppended, CanTurn}
use Rattle.nd_ledger.specs.Moves.{IsReadyToStart, IsReadyToEnd}
use Rattle.nd_ledger.specs.Inner.{IsKept, room_for, seen}
use Rattle.nd_ledger.specs.Refusals.{IsLive}
use Rattle.nd_ledger.specs.Worlds.{World}
use Rattle.nd_ledger.proofs.Tickets.{live_in_graph, ticket_ranged}
use Rattle.nd_ledger.proofs.Admitting.{own_live, allowed_started, allowed_built, allowed_failed, allowed_down}
use Rattle.nd_history.specs.Marks.{AreMarked, CanFollow}
use Rattle.nd_history.specs.Choices.{machines_in}
use Rattle.nd_history.specs.Legal.{IsInRange}
use Rattle.nd_pump.specs.Turned.{Turned, AreTurns, touched}
use Rattle.nd_pump.specs.Listing.{IsNewsWithin}
use Rattle.nd_pump.proofs.Following.{turned_after}
use Rattle.nd_pump.proofs.Taking.{drvs_needs}
use Rattle.nd_history.proofs.Following.{newest_first}
use Rattle.nd_history.proofs.Slots.{load_within}
use Rattle.nd_history.proofs.Boards.{can_follow}
use Rattle.nd_history.proofs.Provisions.{leased_by}
use Rattle.nd_history.proofs.Marking.{followed}
use Rattle.nd_provision.proofs.Storing.{stored_quiet, stored_same, stored_start, stored_built}

-- one more entry, with what is kept of references and holdings after it
pub kept_with : (d : Inside) (after : State) (stores : Stored) (e : Entry) → IsEntered d.state after e → IsKept d → IsAllowed (premises_of d.inputs) e (reverse d.state.book.entries) → room_for (e ∷ reverse d.state.book.entries) + 1 ≤ d.state.book.room
    → AreStored (premises_of d.inputs) (e ∷ reverse d.state.book.entries) stores → IsKept (record d { state = after; stores = stores })
kept_with d after stores e rec was allowed room stored =
    let turned : reverse after.book.entries ≡ e ∷ reverse d.state.book.entries = newest_first d.state.book.entries after.book.entries e rec.entries in
    let P : List Entry → Type 0 = λ past. IsLegal (premises_of d.inputs) past in
    let Q : List Entry → Type 0 = λ past. room_for past ≤ after.book.room in
    let R : List Entry → Type 0 = λ past. AreStored (premises_of d.inputs) past stores in
    let S : List Entry → Type 0 = λ past. AreMarked (premises_of d.inputs) past after.board in
    let T : Progress → Type 0 = λ p. AreMarked (premises_of d.inputs) (e ∷ reverse d.state.book.entries) p in
    record {
      legal = subst P (sym turned) (allowed, was.legal);
      room = subst Q (sym turned) (let more = rec.room in omega arith);
      sound = was.sound;
      drvs = rec.drvs ∙ was.drvs;
      park = rec.machines ∙ was.park;
      few = was.few;
      small = was.small;
      stores = subst R (sym turned) stored;
      marked = subst S (sym turned) (subst T (sym rec.board) (followed (premises_of d.inputs) (reverse d.state.book.entries) d.state.board e was.legal was.marked allowed));
      turns = (
          let U : List Entry → Type 0 = λ past. AreTurns (premises_of d.inputs) past after.board after.turns in
          let V : Progress → Type 0 = λ p. AreTurns (premises_of d.inputs) (e ∷ reverse d.state.book.entries) p after.turns in
          subst U (sym turned) (subst V (sym rec.board) (turned_after (premises_of d.inputs) (reverse d.state.book.entries) d.state.board d.state.turns after.turns e was.legal was.marked allowed was.turns rec.turned rec.whole))
          );
    }

-- .. which an entry that is no start and no build leaves as it was
pub kept : (d : Inside) (after : State) (e : Entry) → IsEntered d.state after e → IsKept d → IsAllowed (premises_of d.inputs) e (reverse d.state.book.entries) → room_for (e ∷ reverse d.state.book.entries) + 1 ≤ d.state.book.room → is_quiet e ≡ true → IsKept (record d { state = after })
kept d after e rec was allowed room quiet = kept_with d after d.stores e rec was allowed room (stored_quiet (premises_of d.inputs) (reverse d.state.book.entries) e d.stores quiet was.stores)

-- ---- leases that are taken out

filter_le : {X : Type 0} → (p : X → Bool) (xs : List X) → length (filter p xs) ≤ length xs
filter_le p [] = grind (arith, common_steps)
filter_le p (x ∷ xs) = grind (arith, common_steps, filter_le p xs)

fewer_step : (d : ℕ) (t : Ticket) (leases : List Ticket) (b : Bool) → (b || list_any (λ t. d == t.drv) leases) ≡ true → (list_any (λ t. d == t.drv) leases ≡ true → length (without d leases) + 1 ≤ length leases) → length (cond (not b) (t ∷ without d leases) (without d leases)) + 1 ≤ length (t ∷ leases)
fewer_step d t leases true h rest = let le = filter_le (λ (t : Ticket). not (d == t.drv)) leases in omega arith
fewer_step d t leases false h rest = let le = rest h in omega arith

-- taking a lease out leaves fewer
pub fewer : (d : ℕ) (leases : List Ticket) → list_any (λ t. d == t.drv) leases ≡ true → length (without d leases) + 1 ≤ length leases
fewer d [] h = cc
fewer d (t ∷ leases) h = fewer_step d t leases (d == t.drv) h (fewer d leases)

-- ---- the entries that end leases, and a stop

-- where a live lease is taken out, there is room for one entry more
ended_room : (past : List Entry) (t : Ticket) (n : ℕ) → IsLive past t → room_for past ≤ n → length (without t.drv (live past)) + (if has_stop past then 0 else 1) + 1 ≤ n
ended_room past t n found room = let less = fewer t.drv (live past) (leased_by t.drv past t found) in omega arith

pub kept_failed : (d : Inside) (after : State) (t : Ticket) (why : Why) → IsEntered d.state after (Failed t.drv why) → IsKept d → IsLive (reverse d.state.book.entries) t → IsKept (record d { state = after })
kept_failed d after t why rec was found =
    let past = reverse d.state.book.entries in
    kept d after (Failed t.drv why) rec was (allowed_failed (premises_of d.inputs) past t why was.legal found) (ended_room past t d.state.book.room found was.room) refl

pub kept_down : (d : Inside) (after : State) (t : Ticket) → IsEntered d.state after (Down t.drv) → IsKept d → IsLive (reverse d.state.book.entries) t → is_started t.drv (reverse d.state.book.entries) ≡ false → IsKept (record d { state = after })
kept_down d after t rec was found fresh =
    let past = reverse d.state.book.entries in
    kept d after (Down t.drv) rec was (allowed_down (premises_of d.inputs) past t was.legal found fresh) (ended_room past t d.state.book.room found was.room) refl

stop_room : (past : List Entry) (n : ℕ) → has_stop past ≡ false → room_for past ≤ n → room_for (Stop ∷ past) + 1 ≤ n
stop_room past n none room = let at = rw none at room in omega arith

pub kept_stop : (d : Inside) (after : State) → IsEntered d.state after Stop → IsKept d → has_stop (reverse d.state.book.entries) ≡ false → IsKept (record d { state = after })
kept_stop d after rec was none =
    kept d after Stop rec was (record { ranged = tt; may = none }) (stop_room (reverse d.state.book.entries) d.state.book.room none was.room) refl

-- ---- entries that end no lease, for which room was made

stop_bit : (b : Bool) → (if b then 0 else 1) ≤ 1
stop_bit true = omega arith
stop_bit false = omega arith

-- what was held is held with more room
pub kept_room : (d : Inside) (book : Recorded) → IsRoomier d.state.book book → IsKept d → IsKept (record d { state = record d.state { book = book } })
kept_room d book more was =
    let P : List Entry → Type 0 = λ es. IsLegal (premises_of d.inputs) (reverse es) in
    let Q : List Entry → Type 0 = λ es. room_for (reverse es) ≤ book.room in
    record {
      legal = subst P (sym more.entries) was.legal;
      room = subst Q (sym more.entries) (let was_room = was.room in let now = more.room in omega arith);
      sound = was.sound;
      drvs = more.drvs ∙ was.drvs;
      park = more.machines ∙ was.park;
      few = was.few;
      small = was.small;
      stores = (let R : List Entry → Type 0 = λ es. AreStored (premises_of d.inputs) (reverse es) d.stores in subst R (sym more.entries) was.stores);
      marked = (let S : List Entry → Type 0 = λ es. AreMarked (premises_of d.inputs) (reverse es) d.state.board in subst S (sym more.entries) was.marked);
      turns = (let U : List Entry → Type 0 = λ es. AreTurns (premises_of d.inputs) (reverse es) d.state.board d.state.turns in subst U (sym more.entries) was.turns);
    }

-- an entry that makes no more than n leases, with what is kept of references and holdings after it
kept_more : (d : Inside) (roomy : Recorded) (after : State) (stores : Stored) (e : Entry) (n : ℕ) → IsRoomier d.state.book roomy → length (live (reverse d.state.book.entries)) + n + 2 ≤ roomy.room → IsEntered (record d.state { book = roomy }) after e → IsKept d → IsAllowed (premises_of d.inputs) e (reverse d.state.book.entries)
    → length (live (e ∷ reverse d.state.book.entries)) ≤ length (live (reverse d.state.book.entries)) + n → AreStored (premises_of d.inputs) (e ∷ reverse d.state.book.entries) stores → IsKept (record d { state = after; stores = stores })
kept_more d roomy after stores e n more many rec was allowed few stored =
    let P : List Entry → Type 0 = λ es. IsAllowed (premises_of d.inputs) e (reverse es) in
    let Q : List Entry → Type 0 = λ es. room_for (e ∷ reverse es) + 1 ≤ roomy.room in
    let R : List Entry → Type 0 = λ es. AreStored (premises_of d.inputs) (e ∷ reverse es) stores in
    let bit = stop_bit (has_stop (e ∷ reverse d.state.book.entries)) in
    kept_with (record d { state = record d.state { book = roomy } }) after stores e rec (kept_room d roomy more was)
    (subst P (sym more.entries) allowed)
    (subst Q (sym more.entries) (omega arith))
    (subst R (sym more.entries) stored)

-- the load of a machine is a small number
pub small_load : (d : Inside) → IsKept d → (m : ℕ) → load m (reverse d.state.book.entries) ≤ 65535
small_load d was m =
    let within = load_within (premises_of d.inputs) (reverse d.state.book.entries) was.legal m in
    let few = was.small.jobs m in
    omega arith

-- the inputs and the book fit together
pub fit_kept : (d : Inside) → IsKept d → FitTogether (premises_of d.inputs) d.state.book
fit_kept d was = record { legal = was.legal; sound = was.sound; drvs = was.drvs; park = was.park; few = was.few; small = was.small }

-- the derivation of a live lease is in the graph
pub lease_in_graph : (d : Inside) (w : World) (t : Ticket) → IsKept d → seen d ≡ w → IsLive (reverse w.history) t → t.drv < length (premises_of d.inputs).graph.paths
lease_in_graph d w t was is found =
    let P : World → Type 0 = λ w. IsLive (reverse w.history) t in
    live_in_graph (premises_of d.inputs) d.state.book t (fit_kept d was) (subst P (sym is) found)

-- an entry makes at most one lease
pub live_grows : (past : List Entry) (e : Entry) → length (live (e ∷ past)) ≤ length (live past) + 1
live_grows past (Chosen d m s) = grind (arith, common_steps)
live_grows past (Down d) = let le = filter_le (λ (t : Ticket). not (d == t.drv)) (live past) in omega arith
live_grows past (Built d refs) = let le = filter_le (λ (t : Ticket). not (d == t.drv)) (live past) in omega arith
live_grows past (Failed d why) = let le = filter_le (λ (t : Ticket). not (d == t.drv)) (live past) in omega arith
live_grows past (NoBuilder d) = omega arith
live_grows past (Started d paths) = omega arith
live_grows past Stop = omega arith
live_grows past (Drain m) = omega arith
live_grows past (Enable m) = omega arith

-- a step is no start and no build
pub step_quiet : (e : Entry) (d : ℕ) → step_drv e ≡ Some d → is_quiet e ≡ true
step_quiet (Started c paths) d h = cc
step_quiet (Built c refs) d h = cc
step_quiet e d h = refl

-- an entry is appended, with what is kept of references and holdings after it
pub kept_behind : (d : Inside) (after : State) (stores : Stored) (e : Entry) → IsAppended d.state after e → IsKept d → IsAllowed (premises_of d.inputs) e (reverse d.state.book.entries)
    → AreStored (premises_of d.inputs) (e ∷ reverse d.state.book.entries) stores → IsKept (record d { state = after; stores = stores })
kept_behind d after stores e rec was allowed stored =
    let past = reverse d.state.book.entries in
    let one = rec.entered in
    let had = rec.room in
    let roomy : Recorded = record { entries = d.state.book.entries; room = after.book.room + 1; drvs = after.book.drvs; machines = after.book.machines; rooms = after.book.rooms } in
    kept_more d roomy after stores e 1
    (record { entries = refl; drvs = one.drvs; machines = one.machines; room = one.room })
    (omega arith)
    (record { entries = one.entries; room = omega arith; drvs = refl; machines = refl; board = one.board; turned = one.turned; whole = one.whole })
    was allowed (live_grows past e) stored

-- .. which one that is no start and no build leaves as it was
pub kept_appended : (d : Inside) (after : State) (e : Entry) → IsAppended d.state after e → IsKept d → IsAllowed (premises_of d.inputs) e (reverse d.state.book.entries) → is_quiet e ≡ true → IsKept (record d { state = after })
kept_appended d after e rec was allowed quiet =
    kept_behind d after d.stores e rec was allowed (stored_quiet (premises_of d.inputs) (reverse d.state.book.entries) e d.stores quiet was.stores)

-- ---- what stands beside the history

beside : (d : Inside) (stores : Stored) (turns : Turned) → AreStored (premises_of d.inputs) (reverse d.state.book.entries) stores → AreTurns (premises_of d.inputs) (reverse d.state.book.entries) d.state.board turns → IsKept d → IsKept (record d { state = record d.state { turns = turns }; stores = stores })
beside d stores turns stored are was = record {
  legal = was.legal;
  room = was.room;
  sound = was.sound;
  drvs = was.drvs;
  park = was.park;
  few = was.few;
  small = was.small;
  stores = stored;
  marked = was.marked;
  turns = are;
}

-- other room for references and holdings
pub kept_stores : (d : Inside) (stores : Stored) → IsSameStored d.stores stores → IsKept d → IsKept (record d { stores = stores })
kept_stores d stores same was = beside d stores d.state.turns (stored_same (premises_of d.inputs) (reverse d.state.book.entries) d.stores stores same was.stores) was.turns was

-- other turns for the same history
pub kept_turns : (d : Inside) (turns : Turned) → AreTurns (premises_of d.inputs) (reverse d.state.book.entries) d.state.board turns → IsKept d → IsKept (record d { state = record d.state { turns = turns } })
kept_turns d turns are was = beside d d.stores turns was.stores are was

-- ---- starts, and builds that end

-- what is ready to be recorded is allowed
pub allowed_begun : (d : Inside) (t : Ticket) (paths : List (List ℕ)) (book : Recorded) (stores : Stored) (a : Additions) → IsKept d → IsReadyToStart (premises_of d.inputs) (reverse d.state.book.entries) t paths book stores a → IsAllowed (premises_of d.inputs) (Started t.drv paths) (reverse d.state.book.entries)
allowed_begun d t paths book stores a was ready = allowed_started (premises_of d.inputs) (reverse d.state.book.entries) t paths was.legal ready.live ready.fresh ready.right

pub allowed_ended : (d : Inside) (t : Ticket) (refs : List (List (List ℕ))) (stores : Stored) (a : Additions) → IsKept d → IsReadyToEnd (premises_of d.inputs) (reverse d.state.book.entries) t refs stores a → IsAllowed (premises_of d.inputs) (Built t.drv refs) (reverse d.state.book.entries)
allowed_ended d t refs stores a was ready = allowed_built (premises_of d.inputs) (reverse d.state.book.entries) t refs was.legal ready.live ready.started ready.right

pub kept_started : (d : Inside) (roomy : Recorded) (after : State) (mid new : Stored) (t : Ticket) (paths : List (List ℕ)) (a : Additions) → IsRoomier d.state.book roomy → IsEntered (record d.state { book = roomy }) after (Started t.drv paths) → IsKept d → IsSameStored d.stores mid
    → IsReadyToStart (premises_of d.inputs) (reverse d.state.book.entries) t paths roomy mid a → HasTaken mid new a → IsKept (record d { state = after; stores = new })
kept_started d roomy after mid new t paths a more rec was same ready took =
    let i = premises_of d.inputs in
    let past = reverse d.state.book.entries in
    let had = ready.room in
    kept_more d roomy after new (Started t.drv paths) 0 more (omega arith) rec was (allowed_begun d t paths roomy mid a was ready) (omega arith)
    (stored_start i past t.drv t paths mid new a was.legal ready.live ready.right (stored_same i past d.stores mid same was.stores) ready.adds took)

pub kept_built : (d : Inside) (after : State) (mid new : Stored) (t : Ticket) (refs : List (List (List ℕ))) (a : Additions) → IsEntered d.state after (Built t.drv refs) → IsKept d → IsSameStored d.stores mid
    → IsReadyToEnd (premises_of d.inputs) (reverse d.state.book.entries) t refs mid a → HasTaken mid new a → IsKept (record d { state = after; stores = new })
kept_built d after mid new t refs a rec was same ready took =
    let i = premises_of d.inputs in
    let past = reverse d.state.book.entries in
    let allowed = allowed_ended d t refs mid a was ready in
    kept_with d after new (Built t.drv refs) rec was allowed (ended_room past t d.state.book.room ready.live was.room)
    (stored_built i past t.drv t refs mid new a (allowed, was.legal) ready.live (stored_same i past d.stores mid same was.stores) ready.adds took)

-- ---- copies

-- the same inputs and entries, with room for the end of each live lease and for a stop
pub record IsCopy (d copy : Inside) : Type 0 where
  pub inputs : premises_of copy.inputs ≡ premises_of d.inputs
  pub entries : copy.state.book.entries ≡ d.state.book.entries
  pub drvs : copy.state.book.drvs ≡ d.state.book.drvs
  pub machines : copy.state.book.machines ≡ d.state.book.machines
  pub room : length (live (reverse d.state.book.entries)) + 1 ≤ copy.state.book.room
  pub stores : IsSameStored d.stores copy.stores
  pub board : copy.state.board ≡ d.state.board
  pub turns : AreTurns (premises_of copy.inputs) (reverse copy.state.book.entries) copy.state.board copy.state.turns

-- a copy holds what the original holds
pub kept_copy : (d copy : Inside) → IsCopy d copy → IsKept d → IsKept copy
kept_copy d copy same was =
    let past = reverse d.state.book.entries in
    let stored = stored_same (premises_of d.inputs) past d.stores copy.stores same.stores was.stores in
    let roomy : room_for past ≤ copy.state.book.room = (let bit = stop_bit (has_stop past) in let room = same.room in omega arith) in
    let Legal : Premises → Type 0 = λ i. IsLegal i past in
    let Sound : Premises → Type 0 = λ i. IsSound i.graph in
    let Few : Premises → Type 0 = λ i. length i.machines ≤ 1024 in
    let Stores : Premises → Type 0 = λ i. AreStored i past copy.stores in
    let LegalAfter : List Entry → Type 0 = λ es. IsLegal (premises_of copy.inputs) (reverse es) in
    let RoomAfter : List Entry → Type 0 = λ es. room_for (reverse es) ≤ copy.state.book.room in
    let StoresAfter : List Entry → Type 0 = λ es. AreStored (premises_of copy.inputs) (reverse es) copy.stores in
    let Marked : Premises → Type 0 = λ i. AreMarked i past d.state.board in
    let BoardAfter : Progress → Type 0 = λ p. AreMarked (premises_of copy.inputs) past p in
    let MarkedAfter : List Entry → Type 0 = λ es. AreMarked (premises_of copy.inputs) (reverse es) copy.state.board in
    record {
      legal = subst LegalAfter (sym same.entries) (subst Legal (sym same.inputs) was.legal);
      room = subst RoomAfter (sym same.entries) roomy;
      sound = subst Sound (sym same.inputs) was.sound;
      drvs = same.drvs ∙ was.drvs ∙ ap drvs_in (sym same.inputs);
      park = same.machines ∙ was.park ∙ ap (λ (i : Premises). length i.machines + 1) (sym same.inputs);
      few = subst Few (sym same.inputs) was.few;
      small = subst AreSmall (sym same.inputs) was.small;
      stores = subst StoresAfter (sym same.entries) (subst Stores (sym same.inputs) stored);
      marked = subst MarkedAfter (sym same.entries) (subst BoardAfter (sym same.board) (subst Marked (sym same.inputs) was.marked));
      turns = same.turns;
    }

-- ---- what is allowed can be entered

-- what is allowed in what a dispatch holds is so in what is seen of it
pub allowed_seen : (d : Inside) (w : World) (e : Entry) → seen d ≡ w → IsAllowed (premises_of d.inputs) e (reverse d.state.book.entries) → IsAllowed w.inputs e (reverse w.history)
allowed_seen d w e is allowed = let P : World → Type 0 = λ w. IsAllowed w.inputs e (reverse w.history) in subst P is allowed

-- .. and the other way round
pub allowed_inside : (d : Inside) (w : World) (e : Entry) → seen d ≡ w → IsAllowed w.inputs e (reverse w.history) → IsAllowed (premises_of d.inputs) e (reverse d.state.book.entries)
allowed_inside d w e is allowed = let P : World → Type 0 = λ w. IsAllowed w.inputs e (reverse w.history) in subst P (sym is) allowed

-- the board can follow what is allowed
pub can_mark : (d : Inside) (e : Entry) → IsKept d → IsAllowed (premises_of d.inputs) e (reverse d.state.book.entries) → CanFollow d.state.board e
can_mark d e was allowed = can_follow (premises_of d.inputs) (reverse d.state.book.entries) d.state.board e was.legal was.marked allowed

machine_ranged : (n : ℕ) (o : Option Ticket) → ((t : Ticket) → o ≡ Some t → t.machine < n) → IfSome (option_map (λ (t : Ticket). t.machine) o) (λ m. m < n)
machine_ranged n None h = tt
machine_ranged n (Some t) h = h t refl

lease_machine : (i : Premises) (past : List Entry) (n d : ℕ) (t : Ticket) → n ≡ machines_in i → IsLegal i past → lease_of d past ≡ Some t → t.machine < n
lease_machine i past n d t is legal found = let ranged = ticket_ranged i past t legal (own_live d past t found) in omega (arith, is, ranged)

touched_ranged : (i : Premises) (past : List Entry) (n : ℕ) (e : Entry) → n ≡ machines_in i → IsLegal i past → IsInRange i e → IfSome (touched e past) (λ m. m < n)
touched_ranged i past n (Chosen d m s) is legal ranged = tt
touched_ranged i past n (NoBuilder d) is legal ranged = tt
touched_ranged i past n (Started d paths) is legal ranged = tt
touched_ranged i past n (Down d) is legal ranged = machine_ranged n (lease_of d past) (λ t found. lease_machine i past n d t is legal found)
touched_ranged i past n (Built d refs) is legal ranged = machine_ranged n (lease_of d past) (λ t found. lease_machine i past n d t is legal found)
touched_ranged i past n (Failed d why) is legal ranged = machine_ranged n (lease_of d past) (λ t found. lease_machine i past n d t is legal found)
touched_ranged i past n Stop is legal ranged = tt
touched_ranged i past n (Drain m) is legal ranged = omega (arith, is, ranged)
touched_ranged i past n (Enable m) is legal ranged = omega (arith, is, ranged)

news_within : (i : Premises) (n : ℕ) (e : Entry) → n ≡ drvs_in i → IsInRange i e → IsNewsWithin n e
news_within i n (Chosen d m s) is ranged = tt
news_within i n (NoBuilder d) is ranged = tt
news_within i n (Started d paths) is ranged = tt
news_within i n (Down d) is ranged = omega (arith, is, ranged)
news_within i n (Built d refs) is ranged = omega (arith, is, ranged)
news_within i n (Failed d why) is ranged = tt
news_within i n Stop is ranged = tt
news_within i n (Drain m) is ranged = tt
news_within i n (Enable m) is ranged = tt

-- .. and the turns
pub can_turn : (d : Inside) (e : Entry) → IsKept d → IsAllowed (premises_of d.inputs) e (reverse d.state.book.entries) → CanTurn d.state e
can_turn d e was allowed =
    let i = premises_of d.inputs in
    let rows : length d.state.board.inputs ≡ drvs_in i = ap length was.marked.inputs in
    record {
      sized = rows ∙ (sym (drvs_needs i was.sound) ∙ sym was.turns.kinds.sized);
      within = news_within i (length d.state.board.inputs) e rows allowed.ranged;
      machine = touched_ranged i (reverse d.state.book.entries) (length d.state.turns.kinds.users) e was.turns.kinds.park was.legal allowed.ranged;
    }

-- .. over a book with the same entries
pub same_turn : (s : State) (book : Recorded) (e : Entry) → book.entries ≡ s.book.entries → CanTurn s e → CanTurn (record s { book = book }) e
same_turn s book e same can = record {
  sized = can.sized;
  within = can.within;
  machine = subst (λ (es : List Entry). IfSome (touched e (reverse es)) (λ m. m < length s.turns.kinds.users)) (sym same) can.machine;
}
