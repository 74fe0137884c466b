-- Lemmas on failures for references: what is kept of each that came since a run began.
use Rattle.std.proofs.Common.{◌≡◌, ℕ, suc, zero, ◌+◌, ◌<◌, ◌≤◌, Bool, true, false, ◌&&◌, if◌then◌else◌, inl, inr, List, [], ◌∷◌, ◌++◌, length, reverse, Option, Some, None, slice_get, refl, sym, ap, ◌∙◌, subst, arith, length-append}
use Rattle.std.specs.List.{filter_map, cons_option, list_all}
use Rattle.std.proofs.lemmas.Bool.{cases_eq, cases_lt}
use Rattle.std.proofs.Math.Arith.{lt_of_le-ne}
use Rattle.nd_history.specs.declared.entry.Entry.{Entry}
use Rattle.nd_history.specs.declared.entry.Entry.TheVariants.{Chosen, NoBuilder, Started, Down, Built, Failed, Stop, Drain, Enable}
use Rattle.nd_history.specs.declared.entry.Why.{Why}
use Rattle.nd_history.specs.declared.entry.Why.TheVariants.{Status, Lost, BadReferences, NoWorker, Memory}
use Rattle.nd_history.specs.Premises.{Premises}
use Rattle.nd_history.specs.History.{current_of, has_stop}
use Rattle.nd_history.specs.Pumping.{step_drv, ArePumpSteps, HasPumped}
use Rattle.nd_leases.specs.declared.ticket.Ticket.{Ticket}
use Rattle.nd_ledger.specs.declared.refusal.Refusal.TheVariants.{BadReferences as WrongReferences}
use Rattle.nd_ledger.specs.Moves.{IsEndRefused}
use Rattle.nd_ledger.specs.Worlds.{World}
use Rattle.nd_receipts.specs.declared.judging.Misreports.{Misreports}
use Rattle.nd_receipts.specs.Judged.{refused_at, HasNone, HasKept, KeepsSame}
use Rattle.nd_receipts.specs.Made.{is_worker_cause}
use Rattle.nd_run_desk.specs.Abandoned.{is_manned, end_of, given_up_at, stop_after, last_entries, places_of}
use Rattle.nd_run_desk.specs.Judgements.{is_own_cause, is_no_misreport, HasReferences, AreJudged}
use Rattle.nd_run_desk.proofs.Kept.{get_before, misreports_none, misreports_made, misreports_pumped, misreports_abandoned, misreports_more, misreports_same}

-- ---- what a worker says by its own word

pub own_cause_made : (why : Why) → is_own_cause why ≡ true → is_worker_cause why ≡ true
own_cause_made (Status code) own = refl
own_cause_made Lost own = refl
own_cause_made BadReferences own = absurd (cc)
own_cause_made NoWorker own = absurd (cc)
own_cause_made Memory own = refl

pub own_cause_quiet : (d : ℕ) (why : Why) → is_own_cause why ≡ true → is_no_misreport (Failed d why) ≡ true
own_cause_quiet d (Status code) own = refl
own_cause_quiet d Lost own = refl
own_cause_quiet d BadReferences own = absurd (cc)
own_cause_quiet d NoWorker own = absurd (cc)
own_cause_quiet d Memory own = refl

-- ---- entries by which no build failed for its references

both : (a b : Bool) → (a && b) ≡ true → (a ≡ true) × (b ≡ true)
both true b h = (refl, h)
both false b h = absurd (cc)

all_append : (xs ys : List Entry) → list_all is_no_misreport xs ≡ true → list_all is_no_misreport ys ≡ true → list_all is_no_misreport (xs ++ ys) ≡ true
all_append [] ys first rest = rest
all_append (x ∷ xs) ys first rest =
    let parts = both (is_no_misreport x) (list_all is_no_misreport xs) first in
    ap (λ b. b && list_all is_no_misreport (xs ++ ys)) parts.0 ∙ all_append xs ys parts.1 rest

-- none of these failed for its references
none_at : (more : List Entry) (k d : ℕ) → list_all is_no_misreport more ≡ true → slice_get more k ≡ Some (Failed d BadReferences) → ⊥
none_at [] k d all at = cc
none_at (e ∷ more) zero d all at =
    let is : e ≡ Failed d BadReferences = cc at in
    let first = (both (is_no_misreport e) (list_all is_no_misreport more) all).0 in
    let never : false ≡ true = sym (ap is_no_misreport is) ∙ first in
    cc never
none_at (e ∷ more) (suc k) d all at = none_at more k d (both (is_no_misreport e) (list_all is_no_misreport more) all).1 at

none_behind : (old more : List Entry) (k d : ℕ) → list_all is_no_misreport more ≡ true → length old ≤ k → slice_get (old ++ more) k ≡ Some (Failed d BadReferences) → ⊥
none_behind [] more k d all le at = none_at more k d all at
none_behind (e ∷ old) more zero d all le at = omega (arith, le)
none_behind (e ∷ old) more (suc k) d all le at = none_behind old more k d all (omega (arith, le)) at

get_within : (entries : List Entry) (k : ℕ) (e : Entry) → slice_get entries k ≡ Some e → k < length entries
get_within [] k e at = absurd (cc)
get_within (x ∷ entries) zero e at = omega arith
get_within (x ∷ entries) (suc k) e at = let rest = get_within entries k e at in omega (arith, rest)

-- ---- since the opening

-- for each failure for references behind the first entries of a history some are kept
pub record HasEach (opened : ℕ) (history : List Entry) (m : Misreports) : Type 0 where
  pub each : (index d : ℕ) → opened ≤ index → slice_get history index ≡ Some (Failed d BadReferences) → HasReferences m index

each_on : (opened : ℕ) (old new more : List Entry) (m : Misreports) → HasEach opened old m → new ≡ old ++ more → list_all is_no_misreport more ≡ true → HasEach opened new m
each_on opened old new more m has grown quiet =
    subst (λ (h : List Entry). HasEach opened h m) (sym grown) (record {
      each = λ index d le at. elim (cases_lt index (length old)) [
        | inl lt ↦ has.each index d le (sym (get_before old more index lt) ∙ at)
        | inr ge ↦ absurd (none_behind old more index d quiet ge at)
      ];
    })

has_of : (o a : World) (m : Misreports) → AreJudged o a m → HasEach (length o.history) a.history m
has_of o a m are = record { each = are.each }

-- none came yet
pub judged_none : (o w : World) (m : Misreports) → o ≡ w → HasNone m → AreJudged o w m
judged_none o w m same none = record {
  wrong = misreports_none w m none;
  each = λ index d le at.
      let lt : index < length w.history = get_within w.history index (Failed d BadReferences) at in
      let size : length o.history ≡ length w.history = ap (λ (x : World). length x.history) same in
      absurd (omega (arith, lt, le, size));
}

-- the same is kept
pub judged_same : (o w : World) (m n : Misreports) → AreJudged o w m → KeepsSame m n → AreJudged o w n
judged_same o w m n are same = record {
  wrong = misreports_same w m n are.wrong same;
  each = λ index d le at. record { some = λ none. (are.each index d le at).some (sym (same.each index) ∙ none) };
}

-- one entry by which no build failed for its references
pub judged_made : (o a b : World) (e : Entry) (m : Misreports) → AreJudged o a m → b ≡ record a { history = a.history ++ e ∷ [] } → is_no_misreport e ≡ true → AreJudged o b m
judged_made o a b e m are grown is = record {
  wrong = misreports_made a b e m are.wrong grown;
  each = (each_on (length o.history) a.history b.history (e ∷ []) m (has_of o a m are) (ap (λ (w : World). w.history) grown) (ap (λ (t : Bool). t && true) is)).each;
}

-- steps of a pump
step_quiet : (d : ℕ) (e : Entry) → step_drv e ≡ Some d → is_no_misreport e ≡ true
step_quiet d (Chosen e m s) about = refl
step_quiet d (NoBuilder e) about = refl
step_quiet d (Started e paths) about = refl
step_quiet d (Down e) about = refl
step_quiet d (Built e refs) about = refl
step_quiet d (Failed e why) about = absurd (cc)
step_quiet d Stop about = refl
step_quiet d (Drain m) about = refl
step_quiet d (Enable m) about = refl

steps_quiet : (i : Premises) (history steps : List Entry) → ArePumpSteps i history steps → list_all is_no_misreport steps ≡ true
steps_quiet i history [] h = refl
steps_quiet i history (e ∷ steps) h = ap (λ b. b && list_all is_no_misreport steps) (step_quiet h.0.drv e h.0.step.about) ∙ steps_quiet i (history ++ e ∷ []) steps h.1

pub judged_pumped : (o a b : World) (m : Misreports) → AreJudged o a m → b.inputs ≡ a.inputs → HasPumped a.inputs a.history b.history → AreJudged o b m
judged_pumped o a b m are inputs pumped = record {
  wrong = misreports_pumped a b m are.wrong inputs pumped;
  each = (each_on (length o.history) a.history b.history pumped.steps m (has_of o a m are) pumped.grown (steps_quiet a.inputs a.history pumped.steps pumped.each)).each;
}

-- the ends of leases that no worker serves
one_quiet : (manned : List (ℕ × ℕ)) (past : List Entry) (p : ℕ × ℕ) (rest : List Entry) → list_all is_no_misreport rest ≡ true → list_all is_no_misreport (cons_option (given_up_at manned past p) rest) ≡ true
one_quiet manned past p rest quiet = by (is_manned manned p) (current_of p.0 p.1 past)
  where
    by : (b : Bool) (o : Option Ticket) → list_all is_no_misreport (cons_option (if b then None else end_of o) rest) ≡ true
    by true o = quiet
    by false None = quiet
    by false (Some t) = quiet

ends_quiet : (manned : List (ℕ × ℕ)) (past : List Entry) (places : List (ℕ × ℕ)) → list_all is_no_misreport (filter_map (given_up_at manned past) places) ≡ true
ends_quiet manned past [] = refl
ends_quiet manned past (p ∷ places) = one_quiet manned past p (filter_map (given_up_at manned past) places) (ends_quiet manned past places)

stop_quiet : (b : Bool) → list_all is_no_misreport (if b then [] else Stop ∷ []) ≡ true
stop_quiet true = refl
stop_quiet false = refl

pub judged_abandoned : (o a b : World) (manned : List (ℕ × ℕ)) (m : Misreports) → AreJudged o a m → b ≡ record a { history = a.history ++ last_entries a.inputs manned (reverse a.history) } → AreJudged o b m
judged_abandoned o a b manned m are grown =
    let past = reverse a.history in
    let new = last_entries a.inputs manned past in
    let quiet : list_all is_no_misreport new ≡ true =
    all_append (stop_after past) (filter_map (given_up_at manned past) (places_of a.inputs)) (stop_quiet (has_stop past)) (ends_quiet manned past (places_of a.inputs)) in
    record {
      wrong = misreports_abandoned a b manned m are.wrong grown;
      each = (each_on (length o.history) a.history b.history new m (has_of o a m are) (ap (λ (w : World). w.history) grown) quiet).each;
    }

-- references are refused, and the failure that says so is recorded
pub judged_more : (o a b : World) (t : Ticket) (refs : List (List (List ℕ))) (index : ℕ) (m n : Misreports) → AreJudged o a m → HasKept m n index refs → index ≡ length a.history
    → IsEndRefused a.inputs (reverse a.history) t refs WrongReferences → b ≡ record a { history = a.history ++ Failed t.drv BadReferences ∷ [] } → AreJudged o b n
judged_more o a b t refs index m n are kept last refused grown = record {
  wrong = misreports_more a b t refs index m n are.wrong kept last refused grown;
  each = λ k d le at. elim (cases_eq k index) [
    | inl same ↦ record { some = λ none. cc (ap (refused_at n) same ∙ kept.here, none) }
    | inr other ↦ earlier k d le other (ap (λ (w : World). slice_get w.history k) (sym grown) ∙ at)
  ];
}
  where
    earlier : (k d : ℕ) → length o.history ≤ k → (k ≡ index → ⊥) → slice_get (a.history ++ Failed t.drv BadReferences ∷ []) k ≡ Some (Failed d BadReferences) → HasReferences n k
    earlier k d le other at =
        let more : List Entry = Failed t.drv BadReferences ∷ [] in
        let within : k < length (a.history ++ more) = get_within (a.history ++ more) k (Failed d BadReferences) at in
        let size : length (a.history ++ more) ≡ length a.history + 1 = length-append a.history more in
        let apart : k ≡ length a.history → ⊥ = λ same. other (same ∙ sym last) in
        let lt : k < length a.history = lt_of_le-ne (omega (arith, within, size)) apart in
        record { some = λ none. (are.each k d le (sym (get_before a.history more k lt) ∙ at)).some (sym (kept.others k other) ∙ none) }
