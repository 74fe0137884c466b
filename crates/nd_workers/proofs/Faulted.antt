-- Lemmas on a run's fault and its cause.
use Rattle.std.proofs.Common.{◌≡◌, ℕ, zero, suc, ◌<◌, ◌⊎◌, inl, inr, Bool, true, false, ◌||◌, List, [], ◌∷◌, ◌++◌, length, take, drop, reverse, Option, Some, None, slice_get, Vec, refl, sym, ap, ◌∙◌, subst, arith}
use Rattle.std.proofs.Math.Logic.{∥∥₁_elim}
use denote.Struct.Props.{props}
use Rattle.std.proofs.lemmas.List.{reverse-append, reverse-reverse}
use Rattle.std.proofs.lemmas.List.Elements.{All-nil, All-cons}
use Rattle.std.specs.Prelude.{All}
use Rattle.std.specs.List.{AllZip, zip, list_any, list_all}
use Rattle.nd_history.specs.declared.entry.Entry.{Entry}
use Rattle.nd_history.specs.declared.entry.Entry.TheVariants.{Chosen, Failed}
use Rattle.nd_history.specs.declared.entry.Why.TheVariants.{BadReferences}
use Rattle.nd_history.specs.History.{is_stop}
use Rattle.nd_history.specs.Legal.{IsInRange, IsLegal}
use Rattle.nd_history.specs.Premises.{Premises}
use Rattle.nd_history.specs.Standing.{drvs_in}
use Rattle.nd_ledger.specs.Worlds.{World}
use Rattle.nd_receipts.specs.declared.receipt.Receipt.{Receipt}
use Rattle.nd_receipts.specs.declared.judging.Misreports.{Misreports}
use Rattle.nd_receipts.specs.Judged.{IsJudgedIn, AreMisreports, WereWrong}
use Rattle.nd_receipts.specs.Made.{is_quiet}
use Rattle.nd_receipts.specs.Noted.{IsNotedIn}
use Rattle.nd_receipts.specs.Walks.{AreWithin}
use Rattle.nd_workers.specs.declared.run_end.Evidence.{Evidence}
use Rattle.nd_workers.specs.declared.run_end.RunFault.{RunFault}
use Rattle.nd_workers.specs.declared.run_end.RunFault.TheVariants.{Thread, Memory, Receipts, Journal}
use Rattle.nd_workers.specs.declared.seat.Seat.{Seat}
use Rattle.nd_workers.specs.declared.threads.Stint.{Stint}
use Rattle.nd_workers.specs.Faults.{IsAlikeFrom, IsFaultBy, IsFaultFrom, AreAllWrong}
use Rattle.nd_workers.specs.Runs.{Agrees}
use Rattle.nd_workers.specs.Served.{IsSound, is_refused}
use Rattle.nd_run_desk.specs.Steps.{RunsOn, StopsAreTold}

-- ---- each choice of a legal history is about a derivation of the graph

last_or_before : {X : Type 0} (xs : List X) (x : X) (k : ℕ) (y : X) → slice_get (xs ++ x ∷ []) k ≡ Some y → (slice_get xs k ≡ Some y) ⊎ (x ≡ y)
last_or_before [] x zero y h = inr (cc h)
last_or_before [] x (suc k) y h = absurd (cc h)
last_or_before (z ∷ xs) x zero y h = inl h
last_or_before (z ∷ xs) x (suc k) y h = last_or_before xs x k y h

ranged_at : (i : Premises) (past : List Entry) (k : ℕ) (e : Entry) → IsLegal i past → slice_get (reverse past) k ≡ Some e → IsInRange i e
ranged_at i [] k e legal h = absurd (cc h)
ranged_at i (f ∷ past) k e legal h =
    let P : List Entry → Type 0 = λ es. slice_get es k ≡ Some e in
    elim (last_or_before (reverse past) f k e (subst P (reverse-append (f ∷ []) past) h)) [
      | inl before ↦ ranged_at i past k e legal.1 before
      | inr last ↦ subst (IsInRange i) last legal.0.ranged
    ]

behind : (n : ℕ) (es : List Entry) (k : ℕ) (e : Entry) → slice_get (drop n es) k ≡ Some e → (j : ℕ) × (slice_get es j ≡ Some e)
behind zero es k e h = (k, h)
behind (suc n) [] k e h = absurd (cc h)
behind (suc n) (f ∷ es) k e h = let rest = behind n es k e h in (suc rest.0, rest.1)

pub all_within : (i : Premises) (history new : List Entry) (opened n : ℕ) → IsLegal i (reverse history) → new ≡ drop opened history → n ≡ drvs_in i → AreWithin n new
all_within i history new opened n legal is sized = record {
  each = λ k d m s at.
      let P : List Entry → Type 0 = λ es. slice_get es k ≡ Some (Chosen d m s) in
      let Q : List Entry → Type 0 = λ es. slice_get es (there k d m s (subst P is at)).0 ≡ Some (Chosen d m s) in
      let R : ℕ → Type 0 = λ drvs. d < drvs in
      subst R (sym sized) (ranged_at i (reverse history) (there k d m s (subst P is at)).0 (Chosen d m s) legal (subst Q (sym (reversed history)) (there k d m s (subst P is at)).1)).0;
}
  where
    there : (k d m s : ℕ) → slice_get (drop opened history) k ≡ Some (Chosen d m s) → (j : ℕ) × (slice_get history j ≡ Some (Chosen d m s))
    there k d m s at = behind opened history k (Chosen d m s) at

    reversed : (es : List Entry) → reverse (reverse es) ≡ es
    reversed es = reverse-reverse es

before : (n : ℕ) (es : List Entry) (k : ℕ) (e : Entry) → slice_get (take n es) k ≡ Some e → slice_get es k ≡ Some e
before zero es k e h = absurd (cc h)
before (suc n) [] k e h = h
before (suc n) (f ∷ es) zero e h = h
before (suc n) (f ∷ es) (suc k) e h = before n es k e h

pub all_before : (i : Premises) (history old : List Entry) (opened n : ℕ) → IsLegal i (reverse history) → old ≡ take opened history → n ≡ drvs_in i → AreWithin n old
all_before i history old opened n legal is sized = record {
  each = λ k d m s at.
      let P : List Entry → Type 0 = λ es. slice_get es k ≡ Some (Chosen d m s) in
      let R : ℕ → Type 0 = λ drvs. d < drvs in
      subst R (sym sized) (ranged_at i (reverse history) k (Chosen d m s) legal (subst P (sym (reverse-reverse history)) (before opened history k (Chosen d m s) (subst P is at)))).0;
}

-- a run keeps the number of derivations
pub drvs_kept : (o w : World) (n : ℕ) → RunsOn o w → n ≡ drvs_in o.inputs → n ≡ drvs_in w.inputs
drvs_kept o w n runs sized = ∥∥₁_elim runs.merely (hlevel props) (λ run. sized ∙ sym (ap drvs_in run.inputs))

-- ---- the fault

pub fault_by : {A : Type 0} (opened : ℕ) (now : World) (places : List (ℕ × ℕ)) (receipts : List (Vec Receipt A)) (evidence : Evidence) (alike kept : Bool) (threads workers : ℕ) (fault : Option RunFault)
    → IsFaultBy alike kept threads workers (drop opened now.history) fault → (alike ≡ true → IsAlikeFrom opened now places receipts evidence) → (alike ≡ false → IsAlikeFrom opened now places receipts evidence → ⊥)
    → kept ≡ evidence.kept → threads ≡ evidence.threads → workers ≡ length places → IsFaultFrom opened now places receipts evidence fault
fault_by opened now places receipts evidence alike kept threads workers (Some Receipts) by is not all same count = record { cause = not by }
fault_by opened now places receipts evidence alike kept threads workers (Some Journal) by is not all same count = record { cause = (is by.0, sym all ∙ by.1) }
fault_by opened now places receipts evidence alike kept threads workers (Some Thread) by is not all same count = record { cause = (is by.0, sym all ∙ by.1, (let lt = by.2 in omega arith)) }
fault_by opened now places receipts evidence alike kept threads workers (Some Memory) by is not all same count = record { cause = (is by.0, sym all ∙ by.1, (let le = by.2 in omega arith), by.3) }
fault_by opened now places receipts evidence alike kept threads workers None by is not all same count = record { cause = (is by.0, sym all ∙ by.1, (let le = by.2 in omega arith), by.3) }

pub alike_of : {A : Type 0} (opened : ℕ) (now : World) (places : List (ℕ × ℕ)) (receipts : List (Vec Receipt A)) (evidence : Evidence) (fault : Option RunFault) → IsFaultFrom opened now places receipts evidence fault → Agrees fault → IsAlikeFrom opened now places receipts evidence
alike_of opened now places receipts evidence (Some Receipts) is agrees = absurd (agrees refl)
alike_of opened now places receipts evidence (Some Journal) is agrees = is.cause.0
alike_of opened now places receipts evidence (Some Thread) is agrees = is.cause.0
alike_of opened now places receipts evidence (Some Memory) is agrees = is.cause.0
alike_of opened now places receipts evidence None is agrees = is.cause.0

pub quiet_of : {A : Type 0} (opened : ℕ) (now : World) (places : List (ℕ × ℕ)) (receipts : List (Vec Receipt A)) (evidence : Evidence) (fault : Option RunFault) → IsFaultFrom opened now places receipts evidence fault → fault ≡ None → list_all is_quiet (drop opened now.history) ≡ true
quiet_of opened now places receipts evidence fault is none =
    let P : Option RunFault → Type 0 = λ f. IsFaultFrom opened now places receipts evidence f in
    (subst P none is).cause.3

pub journal_of : {A : Type 0} (opened : ℕ) (now : World) (places : List (ℕ × ℕ)) (receipts : List (Vec Receipt A)) (evidence : Evidence) (fault : Option RunFault) → IsFaultFrom opened now places receipts evidence fault → fault ≡ Some Journal → list_any is_stop now.history ≡ true
journal_of opened now places receipts evidence fault is journal =
    let P : Option RunFault → Type 0 = λ f. IsFaultFrom opened now places receipts evidence f in
    let cause = (subst P journal is).cause in
    cause.0.halted cause.1

pub thread_of : {A : Type 0} (opened : ℕ) (now : World) (places : List (ℕ × ℕ)) (receipts : List (Vec Receipt A)) (evidence : Evidence) (fault : Option RunFault) → IsFaultFrom opened now places receipts evidence fault → fault ≡ Some Thread → list_any is_stop now.history ≡ true
thread_of opened now places receipts evidence fault is thread =
    let P : Option RunFault → Type 0 = λ f. IsFaultFrom opened now places receipts evidence f in
    let cause = (subst P thread is).cause in
    cause.0.stopped cause.2

pub memory_of : {A : Type 0} (opening now : World) (places : List (ℕ × ℕ)) (receipts : List (Vec Receipt A)) (evidence : Evidence) (fault : Option RunFault) → IsFaultFrom (length opening.history) now places receipts evidence fault → StopsAreTold opening now → fault ≡ Some Memory → list_any is_stop now.history ≡ true
memory_of opening now places receipts evidence fault is told memory = by (list_any is_stop now.history) refl
  where
    P : Option RunFault → Type 0
    P f = IsFaultFrom (length opening.history) now places receipts evidence f

    loud : list_all is_quiet (drop (length opening.history) now.history) ≡ false
    loud = (subst P memory is).cause.3

    by : (b : Bool) → list_any is_stop now.history ≡ b → b ≡ true
    by true is = refl
    by false is = absurd (cc (loud, told.quiet is))

-- ---- what the workers noted

willing : {T : Type 0} (history : List Entry) (y : Stint T) (rest : Bool) → (is_refused y.end || rest) ≡ false → (is_refused y.end ≡ false) × (rest ≡ false)
willing history y rest h = by (is_refused y.end) h
  where
    by : (b : Bool) → (b || rest) ≡ false → (b ≡ false) × (rest ≡ false)
    by true h = absurd (cc h)
    by false h = (refl, h)

pub sound_all : {T A B : Type 0} (opened : ℕ) (history : List Entry) (stints : List (Stint T)) (workers : List (Seat T)) (receipts : List (Vec Receipt A)) (copies : List (Vec Entry B))
    → AllZip (λ y x. (x.0 ≡ y.seat) × (x.1.items ≡ y.notes.receipts)) stints (zip workers receipts) → AllZip (λ y x. x.items ≡ y.notes.copies) stints copies → list_any (λ stint. is_refused stint.end) stints ≡ false
    → AllZip (λ row beside. AllZip (IsNotedIn opened history) row.items beside.items) receipts copies → All (IsSound opened history) stints
sound_all opened history [] workers receipts copies each beside none noted = All-nil (IsSound opened history)
sound_all opened history (y ∷ stints) [] receipts copies each beside none noted = absurd each
sound_all opened history (y ∷ stints) (w ∷ workers) [] copies each beside none noted = absurd each
sound_all opened history (y ∷ stints) (w ∷ workers) (row ∷ receipts) [] each beside none noted = absurd beside
sound_all {T = T} opened history (y ∷ stints) (w ∷ workers) (row ∷ receipts) (copy ∷ copies) each beside none noted =
    let both = willing history y (list_any (λ (stint : Stint T). is_refused stint.end) stints) none in
    let P : List Receipt → Type 0 = λ rs. AllZip (IsNotedIn opened history) rs copy.items in
    let Q : List Entry → Type 0 = λ es. AllZip (IsNotedIn opened history) y.notes.receipts es in
    All-cons (IsSound opened history) y stints
    ((λ is. cc (both.0, ap is_refused is)), subst Q beside.0 (subst P each.0.1 noted.0))
    (sound_all opened history stints workers receipts copies each.1 beside.1 both.1 noted.1)

-- ---- references that were refused

wrong_one : (i : Premises) (opened : ℕ) (history : List Entry) (m : Misreports) (r : Receipt) (e : Entry) → AreMisreports i history m → IsNotedIn opened history r e → IsJudgedIn m r e → WereWrong i history r
wrong_one i opened history m r e are noted judged = record {
  each = λ d at.
      let same : Some e ≡ Some (Failed d BadReferences) = sym noted.at ∙ at in
      let is : e ≡ Failed d BadReferences = cc same in
      are.wrong r.index d r.refs (judged.each d is) at;
}

wrong_row : (i : Premises) (opened : ℕ) (history : List Entry) (m : Misreports) (rs : List Receipt) (es : List Entry) → AreMisreports i history m → AllZip (IsNotedIn opened history) rs es → AllZip (IsJudgedIn m) rs es → All (WereWrong i history) rs
wrong_row i opened history m [] es are noted judged = All-nil (WereWrong i history)
wrong_row i opened history m (r ∷ rs) [] are noted judged = absurd noted
wrong_row i opened history m (r ∷ rs) (e ∷ es) are noted judged = All-cons (WereWrong i history) r rs (wrong_one i opened history m r e are noted.0 judged.0) (wrong_row i opened history m rs es are noted.1 judged.1)

pub wrong_rows : {A B : Type 0} (i : Premises) (opened : ℕ) (history : List Entry) (m : Misreports) (rows : List (Vec Receipt A)) (copies : List (Vec Entry B))
    → AreMisreports i history m → AllZip (λ row beside. AllZip (IsNotedIn opened history) row.items beside.items) rows copies → AllZip (λ row beside. AllZip (IsJudgedIn m) row.items beside.items) rows copies → AreAllWrong i history rows
wrong_rows {A = A} i opened history m [] copies are noted judged = All-nil (λ (v : Vec Receipt A). All (WereWrong i history) v.items)
wrong_rows i opened history m (row ∷ rows) [] are noted judged = absurd noted
wrong_rows {A = A} i opened history m (row ∷ rows) (copy ∷ copies) are noted judged =
    All-cons (λ (v : Vec Receipt A). All (WereWrong i history) v.items) row rows (wrong_row i opened history m row.items copy.items are noted.0 judged.0) (wrong_rows i opened history m rows copies are noted.1 judged.1)
