-- A state that follows a legal history, whatever is kept of references and holdings.
use Rattle.std.proofs.Common.{ℕ, ◌≤◌, List, [], ◌∷◌, length, reverse, sym, subst}
use Rattle.nd_choose.specs.Best.{jobs_at}
use Rattle.nd_graph.specs.Graphs.{IsSound}
use Rattle.nd_failure.specs.Progress.{Progress}
use Rattle.nd_history.specs.declared.entry.Entry.{Entry}
use Rattle.nd_history.specs.declared.inputs.Inputs.{Inputs}
use Rattle.nd_history.specs.Premises.{premises_of}
use Rattle.nd_history.specs.Fitting.{FitTogether}
use Rattle.nd_history.specs.Legal.{IsAllowed, IsLegal}
use Rattle.nd_history.specs.Marks.{AreMarked, CanFollow}
use Rattle.nd_history.specs.Books.{MayRecord}
use Rattle.nd_history.proofs.Following.{may_record}
use Rattle.nd_history.proofs.Marking.{marked_first}
use Rattle.nd_provision.specs.Stored.{Stored, AreStored}
use Rattle.nd_pump.specs.Turned.{Turned, AreTurns, HasSearched}
use Rattle.nd_pump.proofs.Following.{turns_fresh}
use Rattle.nd_pump.proofs.Taking.{turns_searched}
use Rattle.nd_ledger.specs.declared.dispatch.Dispatch.TheInside.{Inside}
use Rattle.nd_ledger.specs.declared.state.State.{State}
use Rattle.nd_ledger.specs.Followed.{IsFollowed}
use Rattle.nd_ledger.specs.States.{IsAppended, IsFresh, CanTurn}
use Rattle.nd_ledger.specs.Inner.{room_for}
use Rattle.nd_ledger.proofs.Tickets.{small_park}
use Rattle.nd_ledger.proofs.Keeping.{fit_kept, kept_turns, kept_behind, can_mark, can_turn}

abbrev inside_of : (j : Inputs) (s : State) → IsFollowed j s → Inside
inside_of j s f = record { inputs = j; state = s; stores = f.stores }

pub followed_legal : (j : Inputs) (s : State) → IsFollowed j s → IsLegal (premises_of j) (reverse s.book.entries)
followed_legal j s f = f.kept.legal

pub followed_fit : (j : Inputs) (s : State) → IsFollowed j s → FitTogether (premises_of j) s.book
followed_fit j s f = fit_kept (inside_of j s f) f.kept

pub followed_marked : (j : Inputs) (s : State) → IsFollowed j s → AreMarked (premises_of j) (reverse s.book.entries) s.board
followed_marked j s f = f.kept.marked

pub followed_turns : (j : Inputs) (s : State) → IsFollowed j s → AreTurns (premises_of j) (reverse s.book.entries) s.board s.turns
followed_turns j s f = f.kept.turns

-- .. it is still so once builders were looked at
pub followed_searched : (j : Inputs) (s : State) (t : Turned) → IsFollowed j s → HasSearched (premises_of j) (reverse s.book.entries) s.turns t → IsFollowed j (record s { turns = t })
followed_searched j s t f searched = record {
  stores = f.stores;
  kept = kept_turns (inside_of j s f) t (turns_searched (premises_of j) (reverse s.book.entries) s.board s.turns t searched f.kept.turns) f.kept;
}

-- .. what is allowed can be recorded
pub followed_may : (j : Inputs) (s : State) (e : Entry) → IsFollowed j s → IsAllowed (premises_of j) e (reverse s.book.entries) → MayRecord s.book e
followed_may j s e f allowed = may_record (premises_of j) s.book e (followed_fit j s f) allowed

pub followed_can : (j : Inputs) (s : State) (e : Entry) → IsFollowed j s → IsAllowed (premises_of j) e (reverse s.book.entries) → CanFollow s.board e
followed_can j s e f allowed = can_mark (inside_of j s f) e f.kept allowed

pub followed_turn : (j : Inputs) (s : State) (e : Entry) → IsFollowed j s → IsAllowed (premises_of j) e (reverse s.book.entries) → CanTurn s e
followed_turn j s e f allowed = can_turn (inside_of j s f) e f.kept allowed

-- .. and it follows the longer history then
pub followed_behind : (j : Inputs) (s after : State) (stores : Stored) (e : Entry) → IsFollowed j s → IsAppended s after e → IsAllowed (premises_of j) e (reverse s.book.entries)
    → AreStored (premises_of j) (e ∷ reverse s.book.entries) stores → IsFollowed j after
followed_behind j s after stores e f rec allowed stored = record {
  stores = stores;
  kept = kept_behind (inside_of j s f) after stores e rec f.kept allowed stored;
}

-- the empty history is followed
pub followed_fresh : (j : Inputs) (s : State) (stores : Stored) → length j.machines ≤ 1024 → IsSound j.graph → ((p : ℕ) → jobs_at j.machines p ≤ 65535) → j.local.jobs ≤ 65535
    → IsFresh j.graph j.machines j.local j.keep_going s → AreStored (premises_of j) [] stores → IsFollowed j s
followed_fresh j s stores few sound builders home fresh stored =
    let i = premises_of j in
    let empty = fresh.entries in
    let P : List Entry → Type 0 = λ es. IsLegal i (reverse es) in
    let Q : List Entry → Type 0 = λ es. room_for (reverse es) ≤ s.book.room in
    let S : List Entry → Type 0 = λ es. AreMarked i (reverse es) s.board in
    let T : Progress → Type 0 = λ p. AreMarked i [] p in
    let R : List Entry → Type 0 = λ es. AreStored i (reverse es) stores in
    record {
      stores = stores;
      kept = record {
        legal = subst P (sym empty) tt;
        room = subst Q (sym empty) fresh.room;
        sound = sound;
        drvs = fresh.drvs;
        park = fresh.park;
        few = few;
        small = small_park i builders home;
        stores = subst R (sym empty) stored;
        marked = subst S (sym empty) (subst T (sym fresh.board) (marked_first i));
        turns = turns_fresh i (reverse s.book.entries) s.board s.turns fresh.whole fresh.kinds fresh.listed fresh.parked fresh.vacant;
      };
    }
