-- Lemmas on receipts that are compared with a history.
use Rattle.std.proofs.Common.{◌≡◌, ℕ, ◌==◌, Bool, true, false, List, [], ◌∷◌, ◌++◌, reverse, take, refl, sym, ap, ◌∙◌, subst, eq-eqb, append_assoc, inl, inr, Vec}
use Rattle.std.specs.Prelude.{All}
use Rattle.std.proofs.lemmas.Bool.{eqb-true}
use Rattle.std.proofs.lemmas.List.Elements.{All-nil, All-cons}
use Rattle.std.specs.List.{AllZip}
use Rattle.nd_history.specs.declared.entry.Entry.{Entry}
use Rattle.nd_history.specs.declared.entry.Entry.TheVariants.{Chosen, NoBuilder, Started, Down, Built, Failed, Stop, Drain, Enable}
use Rattle.nd_history.specs.declared.entry.Why.{Why}
use Rattle.nd_history.specs.declared.entry.Why.TheVariants.{Status, Lost, BadReferences, NoWorker, Memory}
use Rattle.nd_history.specs.History.{is_started, ends}
use Rattle.nd_transports.specs.declared.kinds.Call.{Call}
use Rattle.nd_transports.specs.declared.kinds.Call.TheVariants.{Build}
use Rattle.nd_receipts.specs.declared.receipt.Receipt.{Receipt}
use Rattle.nd_receipts.specs.declared.standing.Standing.{Standing}
use Rattle.nd_transports.specs.Calls.{Deed, calls_of}
use Rattle.nd_receipts.specs.Receipts.{AreCallsOfShortage, AreCallsOfFailure, AreCallsFor, AreCallsBy, AreCallsOf, AreCallsAt, AreCallsIn, AreDueFor, IsOf}
use Rattle.nd_receipts.specs.Receipts.AreCallsIn.{none, more}
use Rattle.nd_receipts.specs.Noted.{AreLeases, IsNotedIn, AreRowsNotedBy, AreRowsNoted}
use Rattle.nd_receipts.specs.Noted.AreLeases.{none as no_leases, unstarted, served, left}
use Rattle.nd_receipts.specs.Standing.{is_building, is_flagged, Tells}

-- ---- the entries before a receipt's

-- the calls for want of memory, by what the number of calls says of the start
shortage : (own b : Bool) (n d : ℕ) (paths : List (List ℕ)) (these : List Call) → AreCallsOfShortage own n paths d these → (n == 1) ≡ b → AreCallsOfShortage b n paths d these
shortage true b n d paths these h says =
    let P : Bool → Type 0 = λ x. AreCallsOfShortage x n paths d these in
    subst P (sym (eq-eqb n 1 h.one) ∙ says) h
shortage false b n d paths these h says =
    let P : Bool → Type 0 = λ x. AreCallsOfShortage x n paths d these in
    let test : ℕ → Bool = λ m. m == 1 in
    let other : (n == 1) ≡ false = elim h [ inl without ↦ ap test without.0 | inr two ↦ ap test two.0 ] in
    subst P (sym other ∙ says) h

failure : (own past : List Entry) (n d : ℕ) (paths : List (List ℕ)) (refs : List (List (List ℕ))) (why : Why) (these : List Call) → AreCallsOfFailure (is_started d own) n paths refs d why these → (why ≡ Memory → (n == 1) ≡ is_started d past) → AreCallsOfFailure (is_started d past) n paths refs d why these
failure own past n d paths refs (Status code) these h says = h
failure own past n d paths refs Lost these h says = h
failure own past n d paths refs BadReferences these h says = h
failure own past n d paths refs NoWorker these h says = h
failure own past n d paths refs Memory these h says = shortage (is_started d own) (is_started d past) n d paths these h (says refl)

calls_for : (own past : List Entry) (n : ℕ) (paths : List (List ℕ)) (refs : List (List (List ℕ))) (e : Entry) (these : List Call) → AreCallsFor own n paths refs e these → ((d : ℕ) → e ≡ Failed d Memory → (n == 1) ≡ is_started d past) → AreCallsFor past n paths refs e these
calls_for own past n paths refs (Started d copied) these h says = h
calls_for own past n paths refs (Down d) these h says = h
calls_for own past n paths refs (Built d reported) these h says = h
calls_for own past n paths refs (Failed d why) these h says = failure own past n d paths refs why these h (λ is. says d (ap (Failed d) is))
calls_for own past n paths refs (Chosen d m s) these h says = h
calls_for own past n paths refs (NoBuilder d) these h says = h
calls_for own past n paths refs Stop these h says = h
calls_for own past n paths refs (Drain m) these h says = h
calls_for own past n paths refs (Enable m) these h says = h

-- .. where the lease was started before the run, nothing is asked of them
calls_by : (own past : List Entry) (n : ℕ) (paths : List (List ℕ)) (refs : List (List (List ℕ))) (e : Entry) (these : List Call) (again : Bool) → AreCallsBy again own n paths refs e these → ((d : ℕ) → e ≡ Failed d Memory → again ≡ false → (n == 1) ≡ is_started d past) → AreCallsBy again past n paths refs e these
calls_by own past n paths refs e these true h says = h
calls_by own past n paths refs e these false h says = calls_for own past n paths refs e these h (λ d is. says d is refl)

calls_at : (Due : ℕ → Deed → Type 0) (opened : ℕ) (history own : List Entry) (r : Receipt) (e : Entry) (these : List Deed) → AreCallsOf own r e (calls_of these) → AreDueFor Due e these → IsNotedIn opened history r e → AreCallsAt Due opened history r these
calls_at Due opened history own r e these h due noted = record {
  entry = e;
  at = noted.at;
  again = noted.again;
  calls = record {
    kind = h.kind;
    calls = calls_by own (reverse (take r.index history)) r.calls r.paths r.refs e (calls_of these) r.again h.calls noted.start.each;
  };
  due = due;
}

-- the derivation of the end of a lease
ended_of : (d e : ℕ) (entry : Entry) → ends d entry ≡ true → IsOf e entry → d ≡ e
ended_of d e (Started x copied) is own = cc
ended_of d e (Down x) is own = eqb-true d x is ∙ own
ended_of d e (Built x refs) is own = eqb-true d x is ∙ own
ended_of d e (Failed x why) is own = eqb-true d x is ∙ own
ended_of d e (Chosen x m s) is own = absurd own
ended_of d e (NoBuilder x) is own = absurd own
ended_of d e Stop is own = absurd own
ended_of d e (Drain m) is own = absurd own
ended_of d e (Enable m) is own = absurd own

due_end : (Due : ℕ → Deed → Type 0) (d : ℕ) (entry : Entry) (these : List Deed) → ends d entry ≡ true → All (Due d) these → AreDueFor Due entry these
due_end Due d entry these is all = record { each = λ e own. subst (λ (x : ℕ). All (Due x) these) (ended_of d e entry is own) all }

due_start : (Due : ℕ → Deed → Type 0) (d : ℕ) (paths : List (List ℕ)) (entry : Entry) (these : List Deed) → entry ≡ Started d paths → All (Due d) these → AreDueFor Due entry these
due_start Due d paths entry these is all =
    let P : Entry → Type 0 = λ x. AreDueFor Due x these in
    subst P (sym is) (record { each = λ e own. subst (λ (x : ℕ). All (Due x) these) own all })

-- ---- all receipts

-- the history's entries in the place of the copies
pub calls_in : (Due : ℕ → Deed → Type 0) (opened : ℕ) (history : List Entry) (rs : List Receipt) (es : List Entry) (cs : List Deed) → AreLeases Due rs es cs → AllZip (IsNotedIn opened history) rs es → AreCallsIn Due opened history rs cs
calls_in Due opened history rs es cs no_leases all = none
calls_in Due opened history rs es cs (unstarted r e these rest_rs rest_es rest h t) all = more r these rest_rs rest (calls_at Due opened history [] r e these h.calls (due_end Due h.drv e these h.ends h.due) all.0) (calls_in Due opened history rest_rs rest_es rest t all.1)
calls_in Due opened history rs es cs (served r q start end these rest_rs rest_es rest h t) all =
    let one : List Deed = h.last ∷ [] in
    let P : List Deed → Type 0 = λ deeds. AreCallsIn Due opened history (r ∷ q ∷ rest_rs) deeds in
    let Q : Call → Type 0 = λ call. AreCallsOf (Started h.drv h.paths ∷ []) q end (call ∷ []) in
    let behind : AreCallsAt Due opened history q one = calls_at Due opened history (Started h.drv h.paths ∷ []) q end one (subst Q (sym h.build.call) h.finishes.calls) (due_end Due h.drv end one h.finishes.ends (All-cons (Due h.drv) h.last [] h.build.due (All-nil (Due h.drv)))) all.1.0 in
    let later : AreCallsIn Due opened history (q ∷ rest_rs) (one ++ rest) = more q one rest_rs rest behind (calls_in Due opened history rest_rs rest_es rest t all.1.1) in
    let first : AreCallsAt Due opened history r h.fetched = calls_at Due opened history [] r start h.fetched h.begins.begins (due_start Due h.drv h.paths start h.fetched h.begins.start_is h.begins.due) all.0 in
    subst P (sym (ap (λ deeds. deeds ++ rest) h.deeds_are ∙ append_assoc h.fetched one rest)) (more r h.fetched (q ∷ rest_rs) (one ++ rest) first later)
calls_in Due opened history rs es cs (left r e these rest_rs rest_es rest h t) all = more r these rest_rs rest (calls_at Due opened history [] r e these h.begins.begins (due_start Due h.drv h.paths e these h.begins.start_is h.begins.due) all.0) (calls_in Due opened history rest_rs rest_es rest t all.1)

-- ---- what was being built

-- by the flags as by the entries that they tell of
pub noted_by : {A B : Type 0} (s : Standing) (opened : ℕ) (history : List Entry) (rows : List (Vec Receipt A)) (copies : List (Vec Entry B)) → Tells s (reverse (take opened history)) → AreRowsNotedBy (λ d. is_flagged s d) history rows copies → AreRowsNoted opened history rows copies
noted_by s opened history rows copies tells noted =
    let P : (ℕ → Bool) → Type 0 = λ these. AreRowsNotedBy these history rows copies in
    let flagged : ℕ → Bool = λ d. is_flagged s d in
    let building : ℕ → Bool = λ d. is_building d (reverse (take opened history)) in
    let same : flagged ≡ building = λ i. λ d. tells.each d i in
    subst P same noted

pub told_by : {A B : Type 0} (s : Standing) (opened : ℕ) (history : List Entry) (rows : List (Vec Receipt A)) (copies : List (Vec Entry B)) → Tells s (reverse (take opened history)) → AreRowsNoted opened history rows copies → AreRowsNotedBy (λ d. is_flagged s d) history rows copies
told_by s opened history rows copies tells noted =
    let P : (ℕ → Bool) → Type 0 = λ these. AreRowsNotedBy these history rows copies in
    let flagged : ℕ → Bool = λ d. is_flagged s d in
    let building : ℕ → Bool = λ d. is_building d (reverse (take opened history)) in
    let same : building ≡ flagged = λ i. λ d. sym (tells.each d) i in
    subst P same noted

pub ruleset tellings = (noted_by, told_by)
