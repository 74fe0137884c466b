-- Lemmas on what a worker and its transport have done.
use Rattle.std.proofs.Common.{◌≡◌, ℕ, ◌+◌, ◌≤◌, ◌||◌, Bool, true, false, List, [], ◌∷◌, ◌++◌, Result, Ok, Err, refl, sym, ap, ◌∙◌, subst, append_assoc, eq-eqb, inl, inr}
use Rattle.std.specs.Prelude.{IfOk, OnOk, All}
use Rattle.std.proofs.lemmas.List.{append-nil}
use Rattle.std.proofs.lemmas.List.Elements.{All-nil, All-cons}
use Rattle.nd_history.specs.declared.entry.Entry.{Entry}
use Rattle.nd_history.specs.declared.entry.Entry.TheVariants.{Chosen, NoBuilder, Started, Down, Built, Failed, Stop, Drain, Enable}
use Rattle.nd_history.specs.declared.entry.Why.{Why}
use Rattle.nd_history.specs.declared.entry.Why.TheVariants.{Status, Lost, BadReferences, NoWorker, Memory}
use Rattle.nd_history.specs.History.{ends, is_started}
use Rattle.nd_transports.specs.declared.kinds.Answer.{Answer}
use Rattle.nd_transports.specs.declared.kinds.Answer.TheVariants.{Built as AnswerBuilt, Status as AnswerStatus, Lost as AnswerLost}
use Rattle.nd_transports.specs.declared.kinds.Call.{Call}
use Rattle.nd_transports.specs.declared.kinds.Call.TheVariants.{Connect, Copy, Build}
use Rattle.nd_receipts.specs.declared.receipt.Behind.{Behind}
use Rattle.nd_receipts.specs.declared.receipt.Receipt.{Receipt}
use Rattle.nd_receipts.specs.declared.receipt.Kind.{Kind}
use Rattle.nd_receipts.specs.declared.receipt.Kind.TheVariants.{Started as KindStarted, Down as KindDown, Built as KindBuilt, Failed as KindFailed}
use Rattle.nd_keeping.specs.Listing.{Listed}
use Rattle.nd_ledger.specs.declared.job.Job.{Job}
use Rattle.nd_ledger.specs.Worlds.{World}
use Rattle.nd_run_desk.specs.declared.keeping.Step.TheVariants.{Call as Calling, Build as Building}
use Rattle.nd_run_desk.specs.Jobs.{IsJobOf, IsDue, MayCall}
use Rattle.nd_leases.specs.declared.ticket.Ticket.{Ticket}
use Rattle.nd_run_desk.specs.Leaves.{Keeping, Allows}
use Rattle.nd_transports.specs.Calls.{State, Deed, calls_of, deed_for, deed_of, IsIdleAgain, built}
use Rattle.nd_transports.specs.Services.{IsFetched, IsTurnedAway, IsShort, fetching}
use Rattle.nd_receipts.specs.Receipts.{AreCallsOfShortage, AreCallsOfFailure, AreCallsOfFailureAgain, AreCallsFor, AreCallsAgain, AreCallsBy, IsOfKind, whole_build}
use Rattle.nd_receipts.specs.Noted.{Noted, HasNoted, HasNotedWith, HasBegun, HasJudged, HasEnded, Track, track, afresh, once_more, AreLeases, IsFailureBy, IsEndBy, IsBegun, IsFinished, HasEndedAgain, HasFetched, GoesOn}
use Rattle.nd_receipts.specs.Noted.AreLeases.{none, unstarted, served, left}
use Rattle.nd_work.specs.declared.working.End.{End}
use Rattle.nd_work.specs.declared.working.End.TheVariants.{Again, Finished, Left, Refused}
use Rattle.nd_work.specs.Ends.{EndsWell, HasBuilt}

-- ---- leases, one after another

all_append : (Due : ℕ → Deed → Type 0) (rs : List Receipt) (es : List Entry) (cs : List Deed) (qs : List Receipt) (fs : List Entry) (ds : List Deed) → AreLeases Due rs es cs → AreLeases Due qs fs ds → AreLeases Due (rs ++ qs) (es ++ fs) (cs ++ ds)
all_append Due rs es cs qs fs ds none later = later
all_append Due rs es cs qs fs ds (unstarted r e these rest_rs rest_es rest h t) later =
    let P : List Deed → Type 0 = λ deeds. AreLeases Due (r ∷ (rest_rs ++ qs)) (e ∷ (rest_es ++ fs)) deeds in
    subst P (sym (append_assoc these rest ds)) (unstarted r e these (rest_rs ++ qs) (rest_es ++ fs) (rest ++ ds) h (all_append Due rest_rs rest_es rest qs fs ds t later))
all_append Due rs es cs qs fs ds (served r q start end these rest_rs rest_es rest h t) later =
    let P : List Deed → Type 0 = λ deeds. AreLeases Due (r ∷ q ∷ (rest_rs ++ qs)) (start ∷ end ∷ (rest_es ++ fs)) deeds in
    subst P (sym (append_assoc these rest ds)) (served r q start end these (rest_rs ++ qs) (rest_es ++ fs) (rest ++ ds) h (all_append Due rest_rs rest_es rest qs fs ds t later))
all_append Due rs es cs qs fs ds (left r e these rest_rs rest_es rest h t) later =
    let P : List Deed → Type 0 = λ deeds. AreLeases Due (r ∷ (rest_rs ++ qs)) (e ∷ (rest_es ++ fs)) deeds in
    subst P (sym (append_assoc these rest ds)) (left r e these (rest_rs ++ qs) (rest_es ++ fs) (rest ++ ds) h (all_append Due rest_rs rest_es rest qs fs ds t later))

pub goes_nowhere : (Due : ℕ → Deed → Type 0) (s : Track) → GoesOn Due s s
goes_nowhere Due s = record {
  receipts = [];
  copies = [];
  deeds = [];
  receipts_are = sym (append-nil s.receipts);
  copies_are = sym (append-nil s.copies);
  deeds_are = sym (append-nil s.deeds);
  agree = none;
}

pub goes_further : (Due : ℕ → Deed → Type 0) (s t u : Track) → GoesOn Due s t → GoesOn Due t u → GoesOn Due s u
goes_further Due s t u one two = record {
  receipts = one.receipts ++ two.receipts;
  copies = one.copies ++ two.copies;
  deeds = one.deeds ++ two.deeds;
  receipts_are = two.receipts_are ∙ ap (λ rs. rs ++ two.receipts) one.receipts_are ∙ append_assoc s.receipts one.receipts two.receipts;
  copies_are = two.copies_are ∙ ap (λ es. es ++ two.copies) one.copies_are ∙ append_assoc s.copies one.copies two.copies;
  deeds_are = two.deeds_are ∙ ap (λ cs. cs ++ two.deeds) one.deeds_are ∙ append_assoc s.deeds one.deeds two.deeds;
  agree = all_append Due one.receipts one.copies one.deeds two.receipts two.copies two.deeds one.agree two.agree;
}

-- ---- what a call was made for

due_one : (P : Deed → Type 0) (x : Deed) → P x → All P (x ∷ [])
due_one P x is = All-cons P x [] is (All-nil P)

due_two : (P : Deed → Type 0) (x y : Deed) → P x → P y → All P (x ∷ y ∷ [])
due_two P x y is so = All-cons P x (y ∷ []) is (due_one P y so)

-- the calls of a copy for a job
fetched_due : (k : Keeping) (o : World) (job : Job) (by : Listed) (answered done : Bool) (paths : List (List ℕ)) → MayCall k o job by Calling → All (IsDue k o job.ticket.drv) (fetching job by (Connect answered ∷ Copy paths done ∷ []))
fetched_due k o job by answered done paths may = due_two (IsDue k o job.ticket.drv) (deed_for job by (Connect answered)) (deed_for job by (Copy paths done)) (record { drv = refl; may = may }) (record { drv = refl; may = may })

reached_due : (k : Keeping) (o : World) (job : Job) (by : Listed) (answered : Bool) → MayCall k o job by Calling → All (IsDue k o job.ticket.drv) (fetching job by (Connect answered ∷ []))
reached_due k o job by answered may = due_one (IsDue k o job.ticket.drv) (deed_for job by (Connect answered)) (record { drv = refl; may = may })

-- ---- one receipt

-- the end of a lease that its worker didn't start was noted, with its calls
goes_one : (Due : ℕ → Deed → Type 0) (old new : Noted) (of : Kind) (behind : Behind) (d : ℕ) (e : Entry) (before after these : List Deed) → HasNoted old new of behind e → IsOfKind of e → ends d e ≡ true → AreCallsBy behind.again [] behind.calls behind.paths [] e (calls_of these) → All (Due d) these → after ≡ before ++ these → GoesOn Due (track old before) (track new after)
goes_one Due old new of behind d e before after these noted kind end calls due grown =
    let r : Receipt = record { index = noted.index; kind = of; calls = behind.calls; paths = behind.paths; refs = []; again = behind.again } in
    let P : List Deed → Type 0 = λ cs. AreLeases Due (r ∷ []) (e ∷ []) cs in
    record {
      receipts = r ∷ [];
      copies = e ∷ [];
      deeds = these;
      receipts_are = noted.receipts;
      copies_are = noted.copies;
      deeds_are = grown;
      agree = subst P (append-nil these) (unstarted r e these [] [] [] (record { drv = d; ends = end; calls = record { kind = kind; calls = calls }; due = due }) none);
    }

same : (d : ℕ) → ends d (Down d) ≡ true
same d = eq-eqb d d refl

pub has_begun : (k : Keeping) (o : World) (old new : Noted) (job : Job) (by : Listed) (paths : List (List ℕ)) (b : Bool) (s t : State) → IsFetched s job by t → MayCall k o job by Calling → paths ≡ job.paths → HasBegun old new job.ticket.drv paths b → HasFetched (IsDue k o) (track old s.deeds) (track new t.deeds) job.ticket.drv b
has_begun k o old new job by paths b s t fetched may is begun =
    let P : List (List ℕ) → Type 0 = λ ps. HasBegun old new job.ticket.drv ps b in
    begun_with k o old new job by b s t fetched may (subst P is begun)
  where
    begun_with : (k : Keeping) (o : World) (old new : Noted) (job : Job) (by : Listed) (b : Bool) (s t : State) → IsFetched s job by t → MayCall k o job by Calling → HasBegun old new job.ticket.drv job.paths b → HasFetched (IsDue k o) (track old s.deeds) (track new t.deeds) job.ticket.drv b
    begun_with k o old new job by true s t fetched may begun = record {
      receipt = record { index = begun.index; kind = KindStarted; calls = 2; paths = []; refs = []; again = false };
      paths = job.paths;
      deeds = fetching job by (Connect true ∷ Copy job.paths true ∷ []);
      receipts_are = begun.receipts;
      copies_are = begun.copies;
      deeds_are = fetched.deeds;
      agree = record { kind = refl; calls = (refl, refl) };
      due = fetched_due k o job by true true job.paths may;
    }
    begun_with k o old new job by false s t fetched may begun =
        goes_one (IsDue k o) old new KindFailed (afresh 2 job.paths) job.ticket.drv (Failed job.ticket.drv Memory) s.deeds t.deeds (fetching job by (Connect true ∷ Copy job.paths true ∷ [])) begun refl (same job.ticket.drv) (inr (refl, refl)) (fetched_due k o job by true true job.paths may) fetched.deeds

pub begun_room : (old new : Noted) (d : ℕ) (paths : List (List ℕ)) (b : Bool) → HasBegun old new d paths b → old.room ≤ new.room + 1
begun_room old new d paths true begun = begun.room
begun_room old new d paths false begun = begun.room

pub goes_away : (k : Keeping) (o : World) (old new : Noted) (job : Job) (by : Listed) (n : ℕ) (kept : List (List ℕ)) (s t : State) → IsTurnedAway s job by n t → MayCall k o job by Calling → (n ≡ 2 → kept ≡ job.paths) → HasNoted old new KindDown (afresh n kept) (Down job.ticket.drv) → GoesOn (IsDue k o) (track old s.deeds) (track new t.deeds)
goes_away k o old new job by n kept s t away may is noted =
    let d = job.ticket.drv in
    elim away.either [
      | inl one ↦ goes_one (IsDue k o) old new KindDown (afresh n kept) d (Down d) s.deeds t.deeds (fetching job by (Connect false ∷ [])) noted refl (same d) (inl (one.0, refl)) (reached_due k o job by false may) one.1
      | inr two ↦
          let P : List (List ℕ) → Type 0 = λ ps. t.deeds ≡ s.deeds ++ fetching job by (Connect true ∷ Copy ps false ∷ []) in
          goes_one (IsDue k o) old new KindDown (afresh n kept) d (Down d) s.deeds t.deeds (fetching job by (Connect true ∷ Copy kept false ∷ [])) noted refl (same d) (inr (two.0, refl)) (fetched_due k o job by true false kept may) (subst P (sym (is two.0)) two.1)
    ]

-- before the first call
none_by : (again : Bool) (n d : ℕ) (paths : List (List ℕ)) → n ≡ 0 → AreCallsBy again [] n paths [] (Failed d Memory) []
none_by true n d paths is = inl (is, refl)
none_by false n d paths is = inl (is, refl)

pub goes_unserved : (Due : ℕ → Deed → Type 0) (old new : Noted) (d : ℕ) (behind : Behind) (deeds : List Deed) → behind.calls ≡ 0 → HasNoted old new KindFailed behind (Failed d Memory) → GoesOn Due (track old deeds) (track new deeds)
goes_unserved Due old new d behind deeds is noted = goes_one Due old new KindFailed behind d (Failed d Memory) deeds deeds [] noted refl (same d) (none_by behind.again behind.calls d behind.paths is) (All-nil (Due d)) (sym (append-nil deeds))

pub goes_short : (Due : ℕ → Deed → Type 0) (old new : Noted) (d : ℕ) (behind : Behind) (s t : State) → IsIdleAgain s t → behind.calls ≡ 0 → HasNoted old new KindFailed behind (Failed d Memory) → GoesOn Due (track old s.deeds) (track new t.deeds)
goes_short Due old new d behind s t idle is noted =
    let P : List Deed → Type 0 = λ deeds. GoesOn Due (track old s.deeds) (track new deeds) in
    subst P (sym idle.deeds) (goes_unserved Due old new d behind s.deeds is noted)

-- ---- the end of a started lease

-- the end of a lease that was started was noted, with its one build
finishes : (k : Keeping) (o : World) (old new : Noted) (of : Kind) (behind : Behind) (d : ℕ) (refs : List (List (List ℕ))) (e : Entry) (answer : Answer) (s t : State) (by : Listed) → HasNotedWith old new of behind refs e → IsOfKind of e → IsEndBy d refs answer e → s.job.ticket.drv ≡ d → MayCall k o s.job by Building → t ≡ built s by answer → IsFinished (IsDue k o) (track old s.deeds) (track new t.deeds) d behind
finishes k o old new of behind d refs e answer s t by noted kind end is may after = record {
  last = deed_of s by (Build s.job.ticket.drv answer);
  index = noted.index;
  of = of;
  refs = refs;
  copy = e;
  answer = answer;
  receipts_are = noted.receipts;
  copies_are = noted.copies;
  deeds_are = ap (λ (u : State). u.deeds) after;
  build = record { call = ap (λ n. Build n answer) is; due = record { drv = is; may = may } };
  kind_is = kind;
  ends = end;
}

pub finishes_ended : (k : Keeping) (o : World) (old new : Noted) (d : ℕ) (behind : Behind) (refs : List (List (List ℕ))) (s t : State) (by : Listed) → s.job.ticket.drv ≡ d → MayCall k o s.job by Building → t ≡ built s by (AnswerBuilt refs) → HasEnded old new d behind refs → IsFinished (IsDue k o) (track old s.deeds) (track new t.deeds) d behind
finishes_ended k o old new d behind refs s t by is may after ended =
    let answer : Answer = AnswerBuilt refs in
    elim ended.either [
      | inl judged ↦ elim judged.either [
        | inl noted ↦ finishes k o old new KindBuilt behind d [] (Built d refs) answer s t by noted refl (refl, refl) is may after
        | inr noted ↦ finishes k o old new KindFailed behind d refs (Failed d BadReferences) answer s t by noted refl (refl, refl) is may after
      ]
      | inr noted ↦ finishes k o old new KindFailed behind d [] (Failed d Memory) answer s t by noted refl (refl, inl (refs, refl)) is may after
    ]

pub finishes_status : (k : Keeping) (o : World) (old new : Noted) (d code : ℕ) (behind : Behind) (s t : State) (by : Listed) → s.job.ticket.drv ≡ d → MayCall k o s.job by Building → t ≡ built s by (AnswerStatus code) → HasNoted old new KindFailed behind (Failed d (Status code)) → IsFinished (IsDue k o) (track old s.deeds) (track new t.deeds) d behind
finishes_status k o old new d code behind s t by is may after noted = finishes k o old new KindFailed behind d [] (Failed d (Status code)) (AnswerStatus code) s t by noted refl (refl, refl) is may after

pub finishes_lost : (k : Keeping) (o : World) (old new : Noted) (d : ℕ) (behind : Behind) (s t : State) (by : Listed) → s.job.ticket.drv ≡ d → MayCall k o s.job by Building → t ≡ built s by AnswerLost → HasNoted old new KindFailed behind (Failed d Lost) → IsFinished (IsDue k o) (track old s.deeds) (track new t.deeds) d behind
finishes_lost k o old new d behind s t by is may after noted = finishes k o old new KindFailed behind d [] (Failed d Lost) AnswerLost s t by noted refl (refl, refl) is may after

pub finishes_unreported : (k : Keeping) (o : World) (old new : Noted) (d : ℕ) (behind : Behind) (s t : State) (by : Listed) → s.job.ticket.drv ≡ d → MayCall k o s.job by Building → IsShort s by t → HasNoted old new KindFailed behind (Failed d Memory) → IsFinished (IsDue k o) (track old s.deeds) (track new t.deeds) d behind
finishes_unreported k o old new d behind s t by is may h noted = finishes k o old new KindFailed behind d [] (Failed d Memory) h.answer s t by noted refl (refl, h.either) is may h.after

pub judged_right : (old new : Noted) (d : ℕ) (behind : Behind) (refs : List (List (List ℕ))) → HasNoted old new KindBuilt behind (Built d refs) → HasJudged old new d behind refs
judged_right old new d behind refs h = record { either = inl h }

pub judged_wrong : (old new : Noted) (d : ℕ) (behind : Behind) (refs : List (List (List ℕ))) → HasNotedWith old new KindFailed behind refs (Failed d BadReferences) → HasJudged old new d behind refs
judged_wrong old new d behind refs h = record { either = inr h }

pub ended_judged : (old new : Noted) (d : ℕ) (behind : Behind) (refs : List (List (List ℕ))) → HasJudged old new d behind refs → HasEnded old new d behind refs
ended_judged old new d behind refs h = record { either = inl h }

pub ended_short : (old new : Noted) (d : ℕ) (behind : Behind) (refs : List (List (List ℕ))) → HasNoted old new KindFailed behind (Failed d Memory) → HasEnded old new d behind refs
ended_short old new d behind refs h = record { either = inr h }

pub ruleset endings = (ended_judged, ended_short)

pub ruleset judgements = (judged_right, judged_wrong)

-- ---- the calls of a build

built_as : (d e : ℕ) (answer other : Answer) → e ≡ d → answer ≡ other → Build d answer ∷ [] ≡ Build e other ∷ []
built_as d e answer other drv is = λ i. Build (sym drv i) (is i) ∷ []

whole_as : (paths : List (List ℕ)) (d e : ℕ) (answer other : Answer) → e ≡ d → answer ≡ other → whole_build paths d answer ≡ whole_build paths e other
whole_as paths d e answer other drv is = λ i. whole_build paths (sym drv i) (is i)

-- behind the start of the lease, by one build
failed_first : (d e : ℕ) (paths apart : List (List ℕ)) (refs : List (List (List ℕ))) (answer : Answer) (why : Why) → e ≡ d → IsFailureBy refs answer why → AreCallsOfFailure (is_started e (Started d paths ∷ [])) 1 apart refs e why (Build d answer ∷ [])
failed_first d e paths apart refs answer (Status code) drv h = (refl, built_as d e answer (AnswerStatus code) drv h)
failed_first d e paths apart refs answer Lost drv h = (refl, built_as d e answer AnswerLost drv h)
failed_first d e paths apart refs answer BadReferences drv h = (refl, built_as d e answer (AnswerBuilt refs) drv h)
failed_first d e paths apart refs answer NoWorker drv h = h
failed_first d e paths apart refs answer Memory drv h =
    let P : Bool → Type 0 = λ b. AreCallsOfShortage (b || false) 1 apart e (Build d answer ∷ []) in
    subst P (sym (eq-eqb e d drv)) (record { answer = answer; either = h; one = refl; is = built_as d e answer answer drv refl })

first_calls : (d : ℕ) (paths apart : List (List ℕ)) (refs : List (List (List ℕ))) (answer : Answer) (e : Entry) → IsEndBy d refs answer e → AreCallsFor (Started d paths ∷ []) 1 apart refs e (Build d answer ∷ [])
first_calls d paths apart refs answer (Built e own) h = (refl, built_as d e answer (AnswerBuilt own) h.0 h.1)
first_calls d paths apart refs answer (Failed e why) h = failed_first d e paths apart refs answer why h.0 h.1
first_calls d paths apart refs answer (Started e copied) h = absurd h
first_calls d paths apart refs answer (Down e) h = absurd h
first_calls d paths apart refs answer (Chosen e m s) h = h
first_calls d paths apart refs answer (NoBuilder e) h = h
first_calls d paths apart refs answer Stop h = h
first_calls d paths apart refs answer (Drain m) h = h
first_calls d paths apart refs answer (Enable m) h = h

-- where the lease was started before the run, by all three calls
failed_again : (d e : ℕ) (paths : List (List ℕ)) (refs : List (List (List ℕ))) (answer : Answer) (why : Why) → e ≡ d → IsFailureBy refs answer why → AreCallsOfFailureAgain 3 paths refs e why (whole_build paths d answer)
failed_again d e paths refs answer (Status code) drv h = (refl, whole_as paths d e answer (AnswerStatus code) drv h)
failed_again d e paths refs answer Lost drv h = inr (refl, whole_as paths d e answer AnswerLost drv h)
failed_again d e paths refs answer BadReferences drv h = (refl, whole_as paths d e answer (AnswerBuilt refs) drv h)
failed_again d e paths refs answer NoWorker drv h = h
failed_again d e paths refs answer Memory drv h = inr (record { answer = answer; either = h; three = refl; is = whole_as paths d e answer answer drv refl })

again_calls : (d : ℕ) (paths : List (List ℕ)) (refs : List (List (List ℕ))) (answer : Answer) (e : Entry) → IsEndBy d refs answer e → AreCallsAgain 3 paths refs e (whole_build paths d answer)
again_calls d paths refs answer (Built e own) h = (refl, whole_as paths d e answer (AnswerBuilt own) h.0 h.1)
again_calls d paths refs answer (Failed e why) h = failed_again d e paths refs answer why h.0 h.1
again_calls d paths refs answer (Started e copied) h = h
again_calls d paths refs answer (Down e) h = h
again_calls d paths refs answer (Chosen e m s) h = h
again_calls d paths refs answer (NoBuilder e) h = h
again_calls d paths refs answer Stop h = h
again_calls d paths refs answer (Drain m) h = h
again_calls d paths refs answer (Enable m) h = h

ends_by : (d : ℕ) (refs : List (List (List ℕ))) (answer : Answer) (e : Entry) → IsEndBy d refs answer e → ends d e ≡ true
ends_by d refs answer (Built e own) h = eq-eqb d e (sym h.0)
ends_by d refs answer (Failed e why) h = eq-eqb d e (sym h.0)
ends_by d refs answer (Started e copied) h = absurd h
ends_by d refs answer (Down e) h = absurd h
ends_by d refs answer (Chosen e m s) h = absurd h
ends_by d refs answer (NoBuilder e) h = absurd h
ends_by d refs answer Stop h = absurd h
ends_by d refs answer (Drain m) h = absurd h
ends_by d refs answer (Enable m) h = absurd h

-- ---- a whole lease

-- a lease that didn't start
pub goes_unbegun : (Due : ℕ → Deed → Type 0) (s t : Track) (d : ℕ) (b : Bool) → b ≡ false → HasFetched Due s t d b → GoesOn Due s t
goes_unbegun Due s t d b is h =
    let P : Bool → Type 0 = λ x. HasFetched Due s t d x in
    subst P is h

-- one that was started, and ended
begun_finished : (Due : ℕ → Deed → Type 0) (s t u : Track) (d : ℕ) → IsBegun Due s t d → IsFinished Due t u d (afresh 1 []) → GoesOn Due s u
begun_finished Due s t u d one two =
    let build : List Deed = two.last ∷ [] in
    let start : Entry = Started d one.paths in
    let end : Receipt = record { index = two.index; kind = two.of; calls = 1; paths = []; refs = two.refs; again = false } in
    let these : List Deed = one.deeds ++ build in
    let P : List Deed → Type 0 = λ cs. AreLeases Due (one.receipt ∷ end ∷ []) (start ∷ two.copy ∷ []) cs in
    record {
      receipts = one.receipt ∷ end ∷ [];
      copies = start ∷ two.copy ∷ [];
      deeds = these;
      receipts_are = two.receipts_are ∙ ap (λ rs. rs ++ end ∷ []) one.receipts_are ∙ append_assoc s.receipts (one.receipt ∷ []) (end ∷ []);
      copies_are = two.copies_are ∙ ap (λ es. es ++ two.copy ∷ []) one.copies_are ∙ append_assoc s.copies (start ∷ []) (two.copy ∷ []);
      deeds_are = two.deeds_are ∙ ap (λ cs. cs ++ build) one.deeds_are ∙ append_assoc s.deeds one.deeds build;
      agree = subst P (append-nil these) (served one.receipt end start two.copy these [] [] [] (record {
        drv = d;
        paths = one.paths;
        fetched = one.deeds;
        answer = two.answer;
        last = two.last;
        begins = record { start_is = refl; begins = one.agree; due = one.due };
        finishes = record { ends = ends_by d two.refs two.answer two.copy two.ends; calls = record { kind = two.kind_is; calls = first_calls d one.paths [] two.refs two.answer two.copy two.ends } };
        build = two.build;
        deeds_are = refl;
      }) none);
    }

pub goes_served : (Due : ℕ → Deed → Type 0) (s t u : Track) (d : ℕ) (b : Bool) (behind : Behind) → b ≡ true → behind ≡ afresh 1 [] → HasFetched Due s t d b → IsFinished Due t u d behind → GoesOn Due s u
goes_served Due s t u d b behind is one h finished =
    let P : Bool → Type 0 = λ x. HasFetched Due s t d x in
    let Q : Behind → Type 0 = λ x. IsFinished Due t u d x in
    begun_finished Due s t u d (subst P is h) (subst Q one finished)

-- ---- a lease that was started before the run

pub goes_again : (Due : ℕ → Deed → Type 0) (s t : Track) (d : ℕ) → HasEndedAgain Due s t d → GoesOn Due s t
goes_again Due s t d one =
    let P : List Deed → Type 0 = λ cs. AreLeases Due (one.receipt ∷ []) (one.copy ∷ []) cs in
    record {
      receipts = one.receipt ∷ [];
      copies = one.copy ∷ [];
      deeds = one.deeds;
      receipts_are = one.receipts_are;
      copies_are = one.copies_are;
      deeds_are = one.deeds_are;
      agree = subst P (append-nil one.deeds) (unstarted one.receipt one.copy one.deeds [] [] [] (record { drv = d; ends = one.ends; calls = one.agree; due = one.due }) none);
    }

-- it failed, with these calls
failed_with : (Due : ℕ → Deed → Type 0) (old new : Noted) (behind : Behind) (d : ℕ) (e : Entry) (before after these : List Deed) → HasNoted old new KindFailed behind e → behind.again ≡ true → IsOfKind KindFailed e → ends d e ≡ true → AreCallsBy behind.again [] behind.calls behind.paths [] e (calls_of these) → All (Due d) these → after ≡ before ++ these → HasEndedAgain Due (track old before) (track new after) d
failed_with Due old new behind d e before after these noted again kind end calls due grown = record {
  receipt = record { index = noted.index; kind = KindFailed; calls = behind.calls; paths = behind.paths; refs = []; again = behind.again };
  copy = e;
  deeds = these;
  receipts_are = noted.receipts;
  copies_are = noted.copies;
  deeds_are = grown;
  again = again;
  ends = end;
  agree = record { kind = kind; calls = calls };
  due = due;
}

pub again_lost : (k : Keeping) (o : World) (old new : Noted) (job : Job) (by : Listed) (n : ℕ) (kept : List (List ℕ)) (s t : State) → IsTurnedAway s job by n t → MayCall k o job by Calling → (n ≡ 2 → kept ≡ job.paths) → HasNoted old new KindFailed (once_more n kept) (Failed job.ticket.drv Lost) → HasEndedAgain (IsDue k o) (track old s.deeds) (track new t.deeds) job.ticket.drv
again_lost k o old new job by n kept s t away may is noted =
    let d = job.ticket.drv in
    elim away.either [
      | inl one ↦ failed_with (IsDue k o) old new (once_more n kept) d (Failed d Lost) s.deeds t.deeds (fetching job by (Connect false ∷ [])) noted refl refl (same d) (inl (inl (one.0, refl))) (reached_due k o job by false may) one.1
      | inr two ↦
          let P : List (List ℕ) → Type 0 = λ ps. t.deeds ≡ s.deeds ++ fetching job by (Connect true ∷ Copy ps false ∷ []) in
          failed_with (IsDue k o) old new (once_more n kept) d (Failed d Lost) s.deeds t.deeds (fetching job by (Connect true ∷ Copy kept false ∷ [])) noted refl refl (same d) (inl (inr (two.0, refl))) (fetched_due k o job by true false kept may) (subst P (sym (is two.0)) two.1)
    ]

pub again_short : (Due : ℕ → Deed → Type 0) (old new : Noted) (d : ℕ) (behind : Behind) (s t : State) → IsIdleAgain s t → behind.calls ≡ 0 → behind.again ≡ true → HasNoted old new KindFailed behind (Failed d Memory) → HasEndedAgain Due (track old s.deeds) (track new t.deeds) d
again_short Due old new d behind s t idle is again noted =
    failed_with Due old new behind d (Failed d Memory) s.deeds t.deeds [] noted again refl (same d) (none_by behind.again behind.calls d behind.paths is) (All-nil (Due d)) (idle.deeds ∙ sym (append-nil s.deeds))

pub again_built : (k : Keeping) (o : World) (old new : Noted) (job : Job) (by : Listed) (s t u : State) → IsFetched s job by t → MayCall k o job by Calling → IsFinished (IsDue k o) (track old t.deeds) (track new u.deeds) job.ticket.drv (once_more 3 job.paths) → HasEndedAgain (IsDue k o) (track old s.deeds) (track new u.deeds) job.ticket.drv
again_built k o old new job by s t u fetched may two =
    let d = job.ticket.drv in
    let copied : List Deed = fetching job by (Connect true ∷ Copy job.paths true ∷ []) in
    let build : List Deed = two.last ∷ [] in
    let Q : Call → Type 0 = λ call. AreCallsAgain 3 job.paths two.refs two.copy (Connect true ∷ Copy job.paths true ∷ call ∷ []) in
    record {
      receipt = record { index = two.index; kind = two.of; calls = 3; paths = job.paths; refs = two.refs; again = true };
      copy = two.copy;
      deeds = copied ++ build;
      receipts_are = two.receipts_are;
      copies_are = two.copies_are;
      deeds_are = two.deeds_are ∙ ap (λ cs. cs ++ build) fetched.deeds ∙ append_assoc s.deeds copied build;
      again = refl;
      ends = ends_by d two.refs two.answer two.copy two.ends;
      agree = record { kind = two.kind_is; calls = subst Q (sym two.build.call) (again_calls d job.paths two.refs two.answer two.copy two.ends) };
      due = All-cons (IsDue k o d) (deed_for job by (Connect true)) (deed_for job by (Copy job.paths true) ∷ build) (record { drv = refl; may = may })
          (due_two (IsDue k o d) (deed_for job by (Copy job.paths true)) two.last (record { drv = refl; may = may }) two.build.due);
    }

-- ---- a worker that leaves

-- one that was started, and whose worker left
pub goes_left : (Due : ℕ → Deed → Type 0) (s t : Track) (d : ℕ) → IsBegun Due s t d → GoesOn Due s t
goes_left Due s t d one =
    let P : List Deed → Type 0 = λ cs. AreLeases Due (one.receipt ∷ []) (Started d one.paths ∷ []) cs in
    record {
      receipts = one.receipt ∷ [];
      copies = Started d one.paths ∷ [];
      deeds = one.deeds;
      receipts_are = one.receipts_are;
      copies_are = one.copies_are;
      deeds_are = one.deeds_are;
      agree = subst P (append-nil one.deeds) (left one.receipt (Started d one.paths) one.deeds [] [] [] (record { drv = d; paths = one.paths; begins = record { start_is = refl; begins = one.agree; due = one.due } }) none);
    }

-- ---- a started lease, which is built or left

pub built_behind : (Due : ℕ → Deed → Type 0) (s t : Track) (d : ℕ) (behind : Behind) → behind ≡ afresh 1 [] → IsFinished Due s t d behind → IsFinished Due s t d (afresh 1 [])
built_behind Due s t d behind one finished = subst (IsFinished Due s t d) one finished

goes_built : (Due : ℕ → Deed → Type 0) (s t u : Track) (d : ℕ) (b : Bool) → IsBegun Due s t d → HasBuilt Due t u d b → GoesOn Due s u
goes_built Due s t u d true begun built = begun_finished Due s t u d begun built
goes_built Due s t u d false begun built = subst (GoesOn Due s) (sym built) (goes_left Due s t d begun)

pub goes_on_built : {E : Type 0} (Due : ℕ → Deed → Type 0) (s t u : Track) (d : ℕ) (b : Bool) (r : Result Bool E) → b ≡ true → HasFetched Due s t d b → IfOk r (HasBuilt Due t u d) → OnOk r (GoesOn Due s u)
goes_on_built Due s t u d b (Ok on) is fetched built =
    let P : Bool → Type 0 = λ x. HasFetched Due s t d x in
    goes_built Due s t u d on (subst P is fetched) built
goes_on_built Due s t u d b (Err e) is fetched built = tt

-- one end after another
pub ends_further : (Due : ℕ → Deed → Type 0) (how : End) (s t u : Track) → GoesOn Due s t → EndsWell Due how t u → EndsWell Due how s u
ends_further Due Again s t u one two = goes_further Due s t u one two
ends_further Due Finished s t u one two = goes_further Due s t u one two
ends_further Due Left s t u one two = goes_further Due s t u one two
ends_further Due Refused s t u one two = tt

-- a job that was fetched is the transport's
pub fetched_job : (o : World) (job : Job) (by : Listed) (s t : State) → IsFetched s job by t → IsJobOf o job → IsJobOf o t.job
fetched_job o job by s t fetched of = subst (IsJobOf o) (sym fetched.prepared) of

pub fetched_ticket : (job : Job) (by : Listed) (s t : State) → IsFetched s job by t → t.job.ticket ≡ job.ticket
fetched_ticket job by s t fetched = ap (λ (j : Job). j.ticket) fetched.prepared

-- leave for a job of the run
pub may_call : (k : Keeping) (o : World) (job : Job) (by : Listed) (place : ℕ) → IsJobOf o job → by.book ≡ k.book → Allows k.keeps by.entries place Calling job.ticket → MayCall k o job by Calling
may_call k o job by place of book allows = record { of = of; leave = record { book = book; place = place; allows = allows } }

pub may_build : (k : Keeping) (o : World) (job : Job) (by : Listed) (place : ℕ) (t : Ticket) → IsJobOf o job → by.book ≡ k.book → job.ticket ≡ t → Allows k.keeps by.entries place Building t → MayCall k o job by Building
may_build k o job by place t of book same allows =
    let P : Ticket → Type 0 = λ u. Allows k.keeps by.entries place Building u in
    record { of = of; leave = record { book = book; place = place; allows = subst P (sym same) allows } }
