-- Entries that are judged by the rules which take no memory, and recorded.
use Rattle.std.proofs.Common.{◌≡◌, ◌∙◌, ℕ, ◌+◌, ◌<◌, ◌≤◌, inl, inr, Bool, true, false, ◌==◌, ◌||◌, cond, Option, Some, is_some, List, [], ◌∷◌, ◌++◌, length, reverse, refl, sym, ap, subst, append_assoc, arith, Result, Ok, Err}
use Rattle.std.proofs.lemmas.List.{append-nil, length-append, reverse-append}
use Rattle.nd_history.specs.declared.entry.Entry.{Entry}
use Rattle.nd_history.specs.declared.entry.Entry.TheVariants.{Started as Starting, Down, Built, Failed, Stop, Drain, Enable}
use Rattle.nd_history.specs.declared.entry.Why.{Why}
use Rattle.nd_history.specs.declared.inputs.Inputs.{Inputs}
use Rattle.nd_history.specs.declared.rule.Rule.{Rule}
use Rattle.nd_history.specs.declared.rule.Rule.TheVariants.{Live, Started as StartedRule, References, Stopped}
use Rattle.nd_history.specs.Premises.{Premises, premises_of}
use Rattle.std.specs.List.{find, list_any}
use Rattle.nd_leases.specs.declared.ticket.Ticket.{Ticket}
use Rattle.nd_history.specs.History.{live, lease_of, is_leased, is_started, has_stop}
use Rattle.nd_history.specs.Standing.{drvs_in}
use Rattle.nd_history.specs.Choices.{machines_in}
use Rattle.nd_history.specs.References.{outputs_of}
use Rattle.nd_history.specs.Legal.{IsAllowed, IsLegal}
use Rattle.nd_history.specs.Audit.{IsFirstRule, IsJudged}
use Rattle.nd_history.proofs.Following.{newest_first}
use Rattle.nd_history.proofs.Rules.{started_unleased, started_twice, down_unleased, down_late, built_unleased, built_early, built_wrongly, failed_unleased, stopped_twice}
use Rattle.nd_ledger.specs.declared.state.State.{State}
use Rattle.nd_ledger.specs.Followed.{IsFollowed}
use Rattle.nd_ledger.specs.States.{IsAppended, IsFresh}
use Rattle.nd_audit.specs.declared.ahead.Ahead.{Ahead}
use Rattle.nd_choose.specs.Best.{jobs_at}
use Rattle.nd_graph.specs.Graphs.{IsSound}
use Rattle.nd_ledger.specs.Admitting.{PassesFreely, IsAdmitRefused}
use Rattle.nd_ledger.specs.declared.refusal.AdmitError.{AdmitError}
use Rattle.nd_ledger.specs.declared.refusal.AdmitError.TheVariants.{Memory}
use Rattle.nd_audit.specs.declared.judging.Unadmitted.{Unadmitted}
use Rattle.nd_audit.specs.declared.ahead.Batch.{Batch}
use Rattle.nd_audit.specs.declared.ahead.End.{End}
use Rattle.nd_audit.specs.declared.ahead.End.TheVariants.{More, Last, Stopped as Held}
use Rattle.nd_audit.specs.Ahead.{IsCleared, AreCleared, IsHeldUp, IsEnd, IsSizedFor, IsKeptAfter, IsNext}
use Rattle.nd_audit.specs.Judging.{IsFreelyJudged, IsUnadmitted, IsHeldEnd, AwaitsJudge, AreRecorded, IsFree, IsRefusedIn, IsNotAdmitted, IsBegun, IsUnderWay, batches_behind, work_left, IsAuditOf, IsSomeAudit, HasStepped, IsRefusedFor, IsDoneWith}
use Rattle.nd_audit.specs.declared.side_by_side.UnderWay.{UnderWay}
use Rattle.std.specs.Vec.Iter.{into_iter_items}
use Rattle.nd_ledger.proofs.Admitting.{freely, free_allowed}
use Rattle.nd_ledger.proofs.Followed.{followed_legal, followed_fit, followed_marked, followed_turns, followed_searched, followed_behind, followed_fresh}

-- ---- an entry that was gone through

pub cleared_allowed : (j : Inputs) (s : State) (e : Entry) → IsFollowed j s → IsCleared (premises_of j) (reverse s.book.entries) e → PassesFreely (premises_of j) (reverse s.book.entries) e
    → IsAllowed (premises_of j) e (reverse s.book.entries)
cleared_allowed j s e f cleared free = cleared.allowed (followed_legal j s f) free

pub cleared_behind : (j : Inputs) (s after : State) (e : Entry) → IsFollowed j s → IsCleared (premises_of j) (reverse s.book.entries) e → PassesFreely (premises_of j) (reverse s.book.entries) e
    → IsAppended s after e → IsFollowed j after
cleared_behind j s after e f cleared free rec =
    let allowed = cleared_allowed j s e f cleared free in
    let some = cleared.stored (allowed, followed_legal j s f) in
    followed_behind j s after some.stores e f rec allowed some.stored

-- ---- tests by the rules that take no memory

pub judged_freely : {T : Type 0} → (i : Premises) (past : List Entry) (e : Entry) (r : Result T Rule) → IsJudged i past e r → IsFreelyJudged i past e r
judged_freely i past e (Ok x) h = free_allowed i past e h
judged_freely i past e (Err rule) h = h

some_step : (b : Bool) (t : Ticket) (rest : Option Ticket) (more : Bool) → is_some rest ≡ more → is_some (cond b (Some t) rest) ≡ (b || more)
some_step true t rest more h = refl
some_step false t rest more h = h

some_any : (d : ℕ) (leases : List Ticket) → is_some (find (λ t. d == t.drv) leases) ≡ list_any (λ t. d == t.drv) leases
some_any d [] = refl
some_any d (t ∷ leases) = some_step (d == t.drv) t (find (λ u. d == u.drv) leases) (list_any (λ u. d == u.drv) leases) (some_any d leases)

-- whether a lease is found tells whether there is one
pub leased_told : (d : ℕ) (past : List Entry) (found : Option Ticket) → found ≡ lease_of d past → is_some found ≡ is_leased d past
leased_told d past found is = ap is_some is ∙ some_any d (live past)

isnt : (b : Bool) → b ≡ false → b ≡ true → ⊥
isnt b off on = cc

isnt_not : (b : Bool) → b ≡ true → b ≡ false → ⊥
isnt_not b on off = cc

pub start_unleased : (i : Premises) (past : List Entry) (d : ℕ) (paths : List (List ℕ)) → d < drvs_in i → is_leased d past ≡ false → IsFirstRule i past (Starting d paths) Live
start_unleased i past d paths ranged off = started_unleased i past d paths ranged (isnt (is_leased d past) off)

pub start_begun : (i : Premises) (past : List Entry) (d : ℕ) (paths : List (List ℕ)) → d < drvs_in i → is_leased d past ≡ true → is_started d past ≡ true → IsFirstRule i past (Starting d paths) StartedRule
start_begun i past d paths ranged leased on = started_twice i past d paths ranged leased (isnt_not (is_started d past) on)

pub back_unleased : (i : Premises) (past : List Entry) (d : ℕ) → d < drvs_in i → is_leased d past ≡ false → IsFirstRule i past (Down d) Live
back_unleased i past d ranged off = down_unleased i past d ranged (isnt (is_leased d past) off)

pub back_late : (i : Premises) (past : List Entry) (d : ℕ) → d < drvs_in i → is_leased d past ≡ true → is_started d past ≡ true → IsFirstRule i past (Down d) StartedRule
back_late i past d ranged leased on = down_late i past d ranged leased (isnt_not (is_started d past) on)

pub back_free : (i : Premises) (past : List Entry) (d : ℕ) → d < drvs_in i → is_leased d past ≡ true → is_started d past ≡ false → PassesFreely i past (Down d)
back_free i past d ranged leased fresh = freely i past (Down d) ranged tt tt tt tt leased fresh tt tt

pub end_unleased : (i : Premises) (past : List Entry) (d : ℕ) (refs : List (List (List ℕ))) → d < drvs_in i → is_leased d past ≡ false → IsFirstRule i past (Built d refs) Live
end_unleased i past d refs ranged off = built_unleased i past d refs ranged (isnt (is_leased d past) off)

pub end_early : (i : Premises) (past : List Entry) (d : ℕ) (refs : List (List (List ℕ))) → d < drvs_in i → is_leased d past ≡ true → is_started d past ≡ false → IsFirstRule i past (Built d refs) StartedRule
end_early i past d refs ranged leased off = built_early i past d refs ranged leased (isnt (is_started d past) off)

pub end_unlisted : (i : Premises) (past : List Entry) (d : ℕ) (refs : List (List (List ℕ))) → d < drvs_in i → is_leased d past ≡ true → is_started d past ≡ true → (length refs ≡ length (outputs_of i d) → ⊥) → IsFirstRule i past (Built d refs) References
end_unlisted i past d refs ranged leased started wrong = built_wrongly i past d refs ranged leased started (λ right. wrong right.sized)

pub failure_unleased : (i : Premises) (past : List Entry) (d : ℕ) (why : Why) → d < drvs_in i → is_leased d past ≡ false → IsFirstRule i past (Failed d why) Live
failure_unleased i past d why ranged off = failed_unleased i past d why ranged (isnt (is_leased d past) off)

pub failure_free : (i : Premises) (past : List Entry) (d : ℕ) (why : Why) → d < drvs_in i → is_leased d past ≡ true → PassesFreely i past (Failed d why)
failure_free i past d why ranged leased = freely i past (Failed d why) ranged tt tt tt tt leased tt tt tt

pub stop_again : (i : Premises) (past : List Entry) → has_stop past ≡ true → IsFirstRule i past Stop Stopped
stop_again i past on = stopped_twice i past (isnt_not (has_stop past) on)

pub stop_free : (i : Premises) (past : List Entry) → has_stop past ≡ false → PassesFreely i past Stop
stop_free i past off = freely i past Stop tt tt tt tt tt tt tt off tt

pub drain_free : (i : Premises) (past : List Entry) (m : ℕ) → m < machines_in i → PassesFreely i past (Drain m)
drain_free i past m ranged = freely i past (Drain m) ranged tt tt tt tt tt tt tt tt

pub enable_free : (i : Premises) (past : List Entry) (m : ℕ) → m < machines_in i → PassesFreely i past (Enable m)
enable_free i past m ranged = freely i past (Enable m) ranged tt tt tt tt tt tt tt tt

pub ruleset followed = (followed_fit, followed_marked, followed_turns, followed_searched, judged_freely)

-- ---- entries that are recorded one after another

-- these were recorded, and the rest was gone through
pub record HasRecorded (j : Inputs) (first s : State) (seen rest : List Entry) : Type 0 where
  pub followed : IsFollowed j s
  pub same : s.book.entries ≡ first.book.entries ++ seen
  pub cleared : AreCleared (premises_of j) (reverse s.book.entries) rest

pub recorded_none : (j : Inputs) (s : State) (entries : List Entry) → IsFollowed j s → AreCleared (premises_of j) (reverse s.book.entries) entries → HasRecorded j s s [] entries
recorded_none j s entries f cleared = record { followed = f; same = sym (append-nil s.book.entries); cleared = cleared }

pub recorded_next : (j : Inputs) (first s : State) (seen rest : List Entry) (e : Entry) → HasRecorded j first s seen (e ∷ rest) → IsCleared (premises_of j) (reverse s.book.entries) e
recorded_next j first s seen rest e h = h.cleared.0

pub recorded_one : (j : Inputs) (first s after : State) (seen rest : List Entry) (e : Entry) → HasRecorded j first s seen (e ∷ rest) → IsFollowed j after → after.book.entries ≡ s.book.entries ++ e ∷ []
    → HasRecorded j first after (seen ++ e ∷ []) rest
recorded_one j first s after seen rest e h f more = record {
  followed = f;
  same = more ∙ (ap (λ (l : List Entry). l ++ e ∷ []) h.same ∙ append_assoc first.book.entries seen (e ∷ []));
  cleared = subst (λ (past : List Entry). AreCleared (premises_of j) past rest) (sym (newest_first s.book.entries after.book.entries e more)) h.cleared.1;
}

pub recorded_all : (j : Inputs) (first s : State) (seen rest entries : List Entry) → HasRecorded j first s seen rest → entries ≡ seen → s.book.entries ≡ first.book.entries ++ entries
recorded_all j first s seen rest entries h all = h.same ∙ ap (λ (l : List Entry). first.book.entries ++ l) (sym all)

pub recorded_refused : (j : Inputs) (first s : State) (seen rest entries : List Entry) (e : Entry) (error : AdmitError) (u : Unadmitted) → HasRecorded j first s seen (e ∷ rest) → entries ≡ seen ++ e ∷ rest
    → IsAdmitRefused (premises_of j) (reverse s.book.entries) e error → u.index ≡ length s.book.entries → u.error ≡ error → IsUnadmitted (premises_of j) (first.book.entries ++ entries) u
recorded_refused j first s seen rest entries e error u h whole refused place is = record {
  before = s.book.entries;
  entry = e;
  after = rest;
  whole =
      ap (λ (l : List Entry). first.book.entries ++ l) whole ∙ (sym (append_assoc first.book.entries seen (e ∷ rest))
      ∙ ap (λ (l : List Entry). l ++ e ∷ rest) (sym h.same));
  place = place;
  legal = followed_legal j s h.followed;
  refused = subst (λ (x : AdmitError). IsAdmitRefused (premises_of j) (reverse s.book.entries) e x) (sym is) refused;
}

-- ---- a batch

pub recorded_by : (old new : State) (batch : Batch) → new.book.entries ≡ old.book.entries ++ batch.entries.items → AreRecorded old batch new
recorded_by old new batch same = record { entries = same }

-- what isn't admitted among some entries isn't among these and others behind them
unadmitted_more : (i : Premises) (entries more : List Entry) (u : Unadmitted) → IsUnadmitted i entries u → IsUnadmitted i (entries ++ more) u
unadmitted_more i entries more u h = record {
  before = h.before;
  entry = h.entry;
  after = h.after ++ more;
  whole = ap (λ (l : List Entry). l ++ more) h.whole ∙ append_assoc h.before (h.entry ∷ h.after) more;
  place = h.place;
  legal = h.legal;
  refused = h.refused;
}

pub refused_early : (i : Premises) (done : List Entry) (batch : Batch) (u : Unadmitted) → IsUnadmitted i (done ++ batch.entries.items) u → IsRefusedIn i done batch u
refused_early i done batch u h = record {
  tells = λ rest after ended. unadmitted_more i (done ++ batch.entries.items) rest u h;
}

turned_twice : (done entries : List Entry) → reverse (done ++ entries) ≡ reverse entries ++ reverse done
turned_twice done entries = reverse-append done entries

-- the entry that is held up is the first that isn't admitted
pub refused_held : (j : Inputs) (s : State) (done : List Entry) (batch : Batch) (e : Entry) (error : AdmitError) (u : Unadmitted) → IsFollowed j s → s.book.entries ≡ done ++ batch.entries.items
    → batch.end ≡ Held e error → u.index ≡ length s.book.entries → IsAdmitRefused (premises_of j) (reverse s.book.entries) e u.error → IsRefusedIn (premises_of j) done batch u
refused_held j s done batch e error u f same held place refused = record {
  tells = λ rest after ended.
      let P : End → Type 0 = λ x. IsEnd (premises_of j) (reverse batch.entries.items ++ reverse done) rest after x in
      let left : rest ≡ e ∷ after = (subst P held ended).0 in
      record {
        before = s.book.entries;
        entry = e;
        after = after;
        whole = ap (λ (l : List Entry). l ++ rest) (sym same) ∙ ap (λ (l : List Entry). s.book.entries ++ l) left;
        place = place;
        legal = followed_legal j s f;
        refused = refused;
      };
}

-- what is known of the entry that is held up
pub held_there : (j : Inputs) (s : State) (done : List Entry) (batch : Batch) (e : Entry) (error : AdmitError) → AwaitsJudge (premises_of j) (reverse done) batch → s.book.entries ≡ done ++ batch.entries.items
    → batch.end ≡ Held e error → IsHeldUp (premises_of j) (reverse s.book.entries) e error
held_there j s done batch e error awaited same held =
    let P : End → Type 0 = λ x. IsHeldEnd (premises_of j) (reverse batch.entries.items ++ reverse done) x in
    let there : IsHeldUp (premises_of j) (reverse batch.entries.items ++ reverse done) e error = subst P held awaited.held in
    subst (λ (past : List Entry). IsHeldUp (premises_of j) past e error) (sym (ap reverse same ∙ turned_twice done batch.entries.items)) there

-- .. so it is refused, if it passes the rules that take no memory
pub held_refused : (j : Inputs) (s : State) (e : Entry) (error : AdmitError) → IsFollowed j s → IsHeldUp (premises_of j) (reverse s.book.entries) e error → PassesFreely (premises_of j) (reverse s.book.entries) e
    → IsAdmitRefused (premises_of j) (reverse s.book.entries) e error
held_refused j s e error f held free = held.refused (followed_legal j s f) free

-- ---- an audit by two threads

pub begun_by : (i : Premises) (entries all left : List Entry) (first ahead : Ahead) (batch : Batch) → IsKeptAfter i [] first → IsSizedFor i ahead → IsNext i first ahead all left batch → all ≡ entries → IsBegun i entries ahead left batch
begun_by i entries all left first ahead batch kept sized next is = record {
  first = first;
  kept = kept;
  sized = sized;
  next = subst (λ (l : List Entry). IsNext i first ahead l left batch) is next;
}

-- the first batch waits to be judged
pub way_begun : (j : Inputs) (entries left : List Entry) (ahead : Ahead) (s : State) (batch : Batch) → length j.machines ≤ 1024 → IsSound j.graph → ((p : ℕ) → jobs_at j.machines p ≤ 65535) → j.local.jobs ≤ 65535
    → IsFresh j.graph j.machines j.local j.keep_going s → IsBegun (premises_of j) entries ahead left batch → IsUnderWay j entries ahead left s batch
way_begun j entries left ahead s batch few sound builders home fresh begun =
    let i = premises_of j in
    let next = begun.next in
    let empty = fresh.entries in
    let told = next.cleared.tells [] begun.kept in
    let K : List Entry → Type 0 = λ es. IsKeptAfter i (reverse batch.entries.items ++ reverse es) ahead in
    let C : List Entry → Type 0 = λ es. AreCleared i (reverse es) batch.entries.items in
    let E : List Entry → Type 0 = λ es. IsEnd i (reverse batch.entries.items ++ reverse es) next.rest left batch.end in
    record {
      followed = followed_fresh j s begun.first.stores few sound builders home fresh (begun.kept.stored tt);
      sized = begun.sized;
      kept = subst K (sym empty) told.1;
      cleared = subst C (sym empty) told.0;
      rest = next.rest;
      whole = next.whole ∙ ap (λ (l : List Entry). l ++ batch.entries.items ++ next.rest) (sym empty);
      ended = subst E (sym empty) (next.ended [] begun.kept);
    }

held_of : (i : Premises) (past left after : List Entry) (end : End) → IsEnd i past left after end → IsHeldEnd i past end
held_of i past left after More h = tt
held_of i past left after Last h = tt
held_of i past left after (Held e error) h = h.1

pub way_awaits : (j : Inputs) (entries left : List Entry) (ahead : Ahead) (s : State) (batch : Batch) → IsUnderWay j entries ahead left s batch → AwaitsJudge (premises_of j) (reverse s.book.entries) batch
way_awaits j entries left ahead s batch h = record {
  cleared = h.cleared;
  held = held_of (premises_of j) (reverse batch.entries.items ++ reverse s.book.entries) h.rest left batch.end h.ended;
}

-- .. and so does the next one, once it is judged
pub way_on : (j : Inputs) (entries left after : List Entry) (ahead new : Ahead) (s later : State) (batch next : Batch) → IsUnderWay j entries ahead left s batch → batch.end ≡ More
    → IsSizedFor (premises_of j) new → IsNext (premises_of j) ahead new left after next → IsFollowed j later → later.book.entries ≡ s.book.entries ++ batch.entries.items
    → IsUnderWay j entries new after later next
way_on j entries left after ahead new s later batch next h more sized goes f same =
    let i = premises_of j in
    let E : End → Type 0 = λ x. IsEnd i (reverse batch.entries.items ++ reverse s.book.entries) h.rest left x in
    let gone : h.rest ≡ left = subst E more h.ended in
    let turned : reverse later.book.entries ≡ reverse batch.entries.items ++ reverse s.book.entries = ap reverse same ∙ turned_twice s.book.entries batch.entries.items in
    let kept : IsKeptAfter i (reverse later.book.entries) ahead = subst (λ (past : List Entry). IsKeptAfter i past ahead) (sym turned) h.kept in
    let told = goes.cleared.tells (reverse later.book.entries) kept in
    record {
      followed = f;
      sized = sized;
      kept = told.1;
      cleared = told.0;
      rest = goes.rest;
      whole =
          h.whole
          ∙ (ap (λ (l : List Entry). l ++ h.rest) (sym same)
          ∙ (ap (λ (l : List Entry). later.book.entries ++ l) (gone ∙ goes.whole)
          ∙ sym (append_assoc later.book.entries next.entries.items goes.rest)));
      ended = goes.ended (reverse later.book.entries) kept;
    }

pub way_refused : (j : Inputs) (entries left : List Entry) (ahead : Ahead) (s : State) (batch : Batch) (u : Unadmitted) → IsUnderWay j entries ahead left s batch → IsRefusedIn (premises_of j) s.book.entries batch u
    → IsNotAdmitted (premises_of j) entries u
way_refused j entries left ahead s batch u h refused =
    inl (subst (λ (l : List Entry). IsUnadmitted (premises_of j) l u) (sym h.whole) (refused.tells h.rest left h.ended))

left_none : (i : Premises) (past left after : List Entry) (end : End) → IsEnd i past left after end → IsFree end → (end ≡ More → ⊥) → left ≡ []
left_none i past left after More h free off = absurd (off refl)
left_none i past left after Last h free off = h.0
left_none i past left after (Held e error) h free off = absurd free

less_left : (i : Premises) (past entries rest left after : List Entry) (end : End) → IsEnd i past rest after end → (end ≡ More → 0 < length entries) → left ≡ entries ++ rest → length after + batches_behind end < length left + 1
less_left i past entries rest left after More h some whole = let one = some refl in omega (arith, ap length whole, length-append entries rest, ap length h, one)
less_left i past entries rest left after Last h some whole = omega (arith, ap length h.1)
less_left i past entries rest left after (Held e error) h some whole = omega (arith, ap length whole, length-append entries rest, ap length h.0)

-- each batch leaves fewer entries, or is the last
pub way_less : (j : Inputs) (entries left after : List Entry) (ahead new : Ahead) (s : State) (batch next : Batch) → IsUnderWay j entries ahead left s batch → batch.end ≡ More → IsNext (premises_of j) ahead new left after next
    → length after + batches_behind next.end < length left + batches_behind batch.end
way_less j entries left after ahead new s batch next h more goes =
    let past = reverse batch.entries.items ++ reverse s.book.entries in
    let less = less_left (premises_of j) (reverse next.entries.items ++ past) next.entries.items goes.rest left after next.end (goes.ended past h.kept) goes.some goes.whole in
    subst (λ (end : End). length after + batches_behind next.end < length left + batches_behind end) (sym more) less

-- all is judged, where no entry was held up and none is left
pub way_done : (j : Inputs) (entries left : List Entry) (ahead : Ahead) (s later : State) (batch : Batch) → IsUnderWay j entries ahead left s batch → (batch.end ≡ More → ⊥) → IsFree batch.end
    → IsFollowed j later → later.book.entries ≡ s.book.entries ++ batch.entries.items → IsLegal (premises_of j) (reverse entries)
way_done j entries left ahead s later batch h off free f same =
    let i = premises_of j in
    let none = left_none i (reverse batch.entries.items ++ reverse s.book.entries) h.rest left batch.end h.ended free off in
    let whole : entries ≡ later.book.entries =
    h.whole
    ∙ (ap (λ (l : List Entry). s.book.entries ++ batch.entries.items ++ l) none
    ∙ (append-nil (s.book.entries ++ batch.entries.items) ∙ sym same)) in
    subst (λ (l : List Entry). IsLegal i (reverse l)) (sym whole) (followed_legal j later f)

-- .. whatever entries it is the audit of
pub for_awaits : (j : Inputs) (w : UnderWay) → IsSomeAudit j w → AwaitsJudge (premises_of j) (reverse w.state.book.entries) w.batch
for_awaits j w some = way_awaits j some.entries (into_iter_items w.left) w.ahead w.state w.batch some.audit

pub for_followed : (j : Inputs) (w : UnderWay) → IsSomeAudit j w → IsFollowed j w.state
for_followed j w some = some.audit.followed

pub for_sized : (j : Inputs) (w : UnderWay) → IsSomeAudit j w → IsSizedFor (premises_of j) w.ahead
for_sized j w some = some.audit.sized

pub for_refused : (j : Inputs) (w : UnderWay) (u : Unadmitted) → IsRefusedIn (premises_of j) w.state.book.entries w.batch u → IsRefusedFor j w u
for_refused j w u refused = record { tells = λ entries audit. way_refused j entries (into_iter_items w.left) w.ahead w.state w.batch u audit refused }

pub for_short : (j : Inputs) (w : UnderWay) (u : Unadmitted) → u.error ≡ Memory → IsRefusedFor j w u
for_short j w u short = record { tells = λ entries audit. inr short }

pub for_stepped : (j : Inputs) (old new : UnderWay) → old.batch.end ≡ More → IsSizedFor (premises_of j) new.ahead → IsNext (premises_of j) old.ahead new.ahead (into_iter_items old.left) (into_iter_items new.left) new.batch
    → IsFollowed j new.state → AreRecorded old.state old.batch new.state → HasStepped j old new
for_stepped j old new more sized goes f same = record {
  tells = λ entries audit.
      way_on j entries (into_iter_items old.left) (into_iter_items new.left) old.ahead new.ahead old.state new.state old.batch new.batch audit more sized goes f same.entries;
}

pub for_less : (j : Inputs) (old new : UnderWay) → IsSomeAudit j old → old.batch.end ≡ More → IsNext (premises_of j) old.ahead new.ahead (into_iter_items old.left) (into_iter_items new.left) new.batch → work_left new < work_left old
for_less j old new some more goes = way_less j some.entries (into_iter_items old.left) (into_iter_items new.left) old.ahead new.ahead old.state old.batch new.batch some.audit more goes

pub for_done : (j : Inputs) (w : UnderWay) (later : State) → (w.batch.end ≡ More → ⊥) → IsFree w.batch.end → IsFollowed j later → AreRecorded w.state w.batch later → IsDoneWith j w
for_done j w later off free f same = record {
  tells = λ entries audit. way_done j entries (into_iter_items w.left) w.ahead w.state later w.batch audit off free f same.entries;
}

pub ruleset ways = (for_awaits, for_followed, for_sized, for_refused, for_short, for_stepped, for_less, for_done)

-- ---- of these entries

pub some_audit : (j : Inputs) (w : UnderWay) (entries : List Entry) → IsAuditOf j entries w → IsSomeAudit j w
some_audit j w entries audit = record { entries = entries; audit = audit }

pub audit_stepped : (j : Inputs) (old new : UnderWay) (entries : List Entry) → IsAuditOf j entries old → HasStepped j old new → IsAuditOf j entries new
audit_stepped j old new entries audit stepped = stepped.tells entries audit

pub audit_refused : (j : Inputs) (old : UnderWay) (u : Unadmitted) (entries : List Entry) → IsAuditOf j entries old → IsRefusedFor j old u → IsNotAdmitted (premises_of j) entries u
audit_refused j old u entries audit refused = refused.tells entries audit

pub audit_done : (j : Inputs) (old : UnderWay) (entries : List Entry) → IsAuditOf j entries old → IsDoneWith j old → IsLegal (premises_of j) (reverse entries)
audit_done j old entries audit done = done.tells entries audit

pub audit_short : (i : Premises) (entries : List Entry) (u : Unadmitted) → u.error ≡ Memory → IsNotAdmitted i entries u
audit_short i entries u short = inr short

pub ruleset audits = (some_audit, audit_stepped, audit_refused, audit_done, audit_short)
