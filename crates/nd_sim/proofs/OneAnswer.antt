-- A command has one outcome: one entry, one refusal or one reply, and no two of them.
use Rattle.std.proofs.Common.{◌≡◌, ◌⊎◌, ◌↔◌, IsTrue, ℕ, Bool, true, false, List, [], ◌∷◌, ◌++◌, reverse, refl, sym, ap, ◌∙◌, subst, inl, inr, Some, slice_get}
use Rattle.std.specs.List.{Contains}
use Rattle.std.proofs.lemmas.List.{append_cancel_left}
use Rattle.nd_path.specs.PathSets.{IsRising}
use Rattle.nd_path.proofs.Rising.{rising_same}
use Rattle.nd_eligible.specs.declared.need.Need.{Need}
use Rattle.nd_eligible.specs.Eligibility.{IsEligibleAt}
use Rattle.nd_hook.specs.declared.kinds.Reply.{Reply}
use Rattle.nd_hook.specs.Replies.{IsReply}
use Rattle.nd_hook.specs.ReplyText.{reply_text}
use Rattle.nd_history.specs.declared.entry.Entry.{Entry}
use Rattle.nd_leases.specs.declared.ticket.Ticket.{Ticket}
use Rattle.nd_history.specs.declared.entry.Why.{Why}
use Rattle.nd_history.specs.Premises.{Premises}
use Rattle.nd_history.specs.History.{lease_of, is_leased, is_started, has_stop}
use Rattle.nd_history.specs.Choices.{loads_of, ups_of, IsLocalFree, HasReply}
use Rattle.nd_history.specs.Legal.{MayStart, MayEnd, IsAllowed, IsLegal}
use Rattle.nd_history.specs.References.{IsInClosure, IsHeld, ArePathsRight, AreReferencesRight}
use Rattle.nd_history.proofs.OneChoice.{reply_once}
use Rattle.nd_history.proofs.Provisions.{leased_by}
use Rattle.nd_provision.specs.Stored.{IsMissing, IsUncovered, IsExtra}
use Rattle.nd_ledger.specs.declared.refusal.Refusal.{Refusal}
use Rattle.nd_ledger.specs.declared.refusal.Refusal.TheVariants.{NotLive, AlreadyStarted, NotStarted, Uncovered, Extra, BadReferences, AlreadyStopped, Memory}
use Rattle.nd_ledger.specs.Refusals.{IsLive, IsFailRefused, IsDownRefused, IsStopRefused}
use Rattle.nd_ledger.specs.Moves.{IsStartRefused, IsEndRefused}
use Rattle.nd_ledger.proofs.Admitting.{unleased}
use Rattle.nd_script.specs.declared.command.Command.{Command}
use Rattle.nd_script.specs.declared.command.Command.TheVariants.{Start, StartWith, Built, BuiltWith, Fail, Lose, Down, Stop, Drain, Enable, Ask}
use Rattle.nd_history_text.specs.HistoryTexts.{line_of}
use Rattle.nd_sim.specs.declared.answer.Answer.{Answer}
use Rattle.nd_sim.specs.declared.answer.Answer.TheVariants.{Added, Refused, Replied}
use Rattle.nd_sim.specs.Answers.{no_references, Adds, IsStartInFull, HasAdded, IsFullStartRefused, IsRefusedWith, IsLeaseRefused, IsTicketRefused, IsCommandRefused}
use Rattle.nd_sim.specs.Outcomes.{HasReplied, IsAnswer}
use Rattle.nd_sim.specs.Runs.{refused_line, IsAddedLine, IsAnswerText, IsObeyed}
use Rattle.nd_sim.specs.OneText.{OneOutcome}
use Rattle.nd_sim.proofs.OneStep.{grown_legal}
use Rattle.nd_sim.proofs.Tickets.{own_ticket, live_lease}

-- ---- the lease, and what its machine lacks

lease_once : (past : List Entry) (d : ℕ) (t u : Ticket) → lease_of d past ≡ Some t → lease_of d past ≡ Some u → t ≡ u
lease_once past d t u one other = cc

none_missing : (i : Premises) (past : List Entry) (d m : ℕ) (paths others : List (List ℕ)) → IsMissing i past d m paths → IsMissing i past d m others → (p : List ℕ)
    → Contains paths p → Contains others p
none_missing i past d m paths others one other p there = elim (other.all p (one.needed p there)) [ inl too ↦ too | inr held ↦ absurd (one.lacked p there held) ]

missing_once : (i : Premises) (past : List Entry) (d m : ℕ) (paths others : List (List ℕ)) → IsMissing i past d m paths → IsMissing i past d m others → IsRising paths → IsRising others → paths ≡ others
missing_once i past d m paths others one other rises too =
    rising_same paths others rises too (record { to = none_missing i past d m paths others one other; from = none_missing i past d m others paths other one })

-- ---- one entry

started_once : (i : Premises) (past : List Entry) (d : ℕ) (e f : Entry) → IsStartInFull i past d e → IsStartInFull i past d f → e ≡ f
started_once i past d e f one other =
    let tickets = lease_once past d one.ticket other.ticket one.lease other.lease in
    let missing = subst (λ (t : Ticket). IsMissing i past d t.machine one.paths) tickets one.missing in
    let same = missing_once i past d other.ticket.machine one.paths other.paths missing other.missing one.rising other.rising in
    one.is ∙ ap (λ (paths : List (List ℕ)). Entry.Started d paths) same ∙ sym other.is

pub entry_once : (i : Premises) (past : List Entry) (command : Command) (e f : Entry) → Adds i past command e → Adds i past command f → e ≡ f
entry_once i past (Start d) e f one other = started_once i past d e f one other
entry_once i past (StartWith d paths) e f one other = one ∙ sym other
entry_once i past (Built d) e f one other = one ∙ sym other
entry_once i past (BuiltWith d refs) e f one other = one ∙ sym other
entry_once i past (Fail d c) e f one other = one ∙ sym other
entry_once i past (Lose d) e f one other = one ∙ sym other
entry_once i past (Down d) e f one other = one ∙ sym other
entry_once i past Stop e f one other = one ∙ sym other
entry_once i past (Drain m) e f one other = one ∙ sym other
entry_once i past (Enable m) e f one other = one ∙ sym other
entry_once i past (Ask d) e f one other = absurd one

-- ---- why a call with a live lease's ticket is refused

covered : (i : Premises) (past : List Entry) (d m : ℕ) (paths : List (List ℕ)) → IsUncovered i past d m paths
    → ((p : List ℕ) → IsInClosure i past d p → Contains paths p ⊎ IsHeld i past m p) → ⊥
covered i past d m paths bare all = elim (all bare.path bare.needed) [ inl copied ↦ bare.uncopied copied | inr held ↦ bare.lacked held ]

record IsLate (past : List Entry) (d : ℕ) (r : Refusal) : Type 0 where
  is : r ≡ AlreadyStarted
  started : is_started d past ≡ true

record IsBare (i : Premises) (past : List Entry) (t : Ticket) (paths : List (List ℕ)) (r : Refusal) : Type 0 where
  is : r ≡ Uncovered
  fresh : is_started t.drv past ≡ false
  bare : IsUncovered i past t.drv t.machine paths

record IsBeside (i : Premises) (past : List Entry) (t : Ticket) (paths : List (List ℕ)) (r : Refusal) : Type 0 where
  is : r ≡ Extra
  fresh : is_started t.drv past ≡ false
  beside : IsExtra i past t.drv t.machine paths

IsStartWay : Premises → List Entry → Ticket → List (List ℕ) → Refusal → Type 0
IsStartWay i past t paths r = IsLate past t.drv r ⊎ (IsBare i past t paths r ⊎ IsBeside i past t paths r)

start_way : (i : Premises) (past : List Entry) (t : Ticket) (paths : List (List ℕ)) (r : Refusal) → IsLive past t → (r ≡ Memory → ⊥) → IsStartRefused i past t paths r → IsStartWay i past t paths r
unfolding IsStartWay
start_way i past t paths NotLive live genuine h = absurd (h live)
start_way i past t paths AlreadyStarted live genuine h = inl (record { is = refl; started = h.1 })
start_way i past t paths Uncovered live genuine h = inr (inl (record { is = refl; fresh = h.1; bare = h.2 }))
start_way i past t paths Extra live genuine h = inr (inr (record { is = refl; fresh = h.1; beside = h.2 }))
start_way i past t paths NotStarted live genuine h = absurd h
start_way i past t paths BadReferences live genuine h = absurd h
start_way i past t paths AlreadyStopped live genuine h = absurd h
start_way i past t paths Memory live genuine h = absurd (genuine refl)

start_ways : (i : Premises) (past : List Entry) (t : Ticket) (paths : List (List ℕ)) (r s : Refusal) → IsStartWay i past t paths r → IsStartWay i past t paths s → r ≡ s
unfolding IsStartWay
start_ways i past t paths r s (inl one) (inl other) = one.is ∙ sym other.is
start_ways i past t paths r s (inl one) (inr (inl other)) = let started = one.started in let fresh = other.fresh in cc
start_ways i past t paths r s (inl one) (inr (inr other)) = let started = one.started in let fresh = other.fresh in cc
start_ways i past t paths r s (inr (inl one)) (inl other) = let started = other.started in let fresh = one.fresh in cc
start_ways i past t paths r s (inr (inl one)) (inr (inl other)) = one.is ∙ sym other.is
start_ways i past t paths r s (inr (inl one)) (inr (inr other)) = absurd (covered i past t.drv t.machine paths one.bare other.beside.covered)
start_ways i past t paths r s (inr (inr one)) (inl other) = let started = other.started in let fresh = one.fresh in cc
start_ways i past t paths r s (inr (inr one)) (inr (inl other)) = absurd (covered i past t.drv t.machine paths other.bare one.beside.covered)
start_ways i past t paths r s (inr (inr one)) (inr (inr other)) = one.is ∙ sym other.is

-- right paths are refused for a lease that was started alone
right_late : (i : Premises) (past : List Entry) (t : Ticket) (paths : List (List ℕ)) (r : Refusal) → ArePathsRight i past t.drv t.machine paths → IsStartWay i past t paths r → IsLate past t.drv r
unfolding IsStartWay
right_late i past t paths r right (inl late) = late
right_late i past t paths r right (inr (inl bare)) = absurd (covered i past t.drv t.machine paths bare.bare right.covered)
right_late i past t paths r right (inr (inr extra)) = absurd (extra.beside.unneeded (right.needed extra.beside.path extra.beside.copied))

-- .. and what a machine lacks is right
missing_right : (i : Premises) (past : List Entry) (d m : ℕ) (paths : List (List ℕ)) → IsMissing i past d m paths → ArePathsRight i past d m paths
missing_right i past d m paths missing = record { needed = missing.needed; covered = missing.all }

full_late : (i : Premises) (past : List Entry) (t : Ticket) (r : Refusal) → IsLive past t → (r ≡ Memory → ⊥) → IsFullStartRefused i past t.drv t r → IsLate past t.drv r
full_late i past t r live genuine full =
    right_late i past t full.paths r (missing_right i past t.drv t.machine full.paths full.missing) (start_way i past t full.paths r live genuine full.refused)

record IsEarly (past : List Entry) (d : ℕ) (r : Refusal) : Type 0 where
  is : r ≡ NotStarted
  fresh : is_started d past ≡ false

record IsIllReported (i : Premises) (past : List Entry) (d : ℕ) (refs : List (List (List ℕ))) (r : Refusal) : Type 0 where
  is : r ≡ BadReferences
  started : is_started d past ≡ true
  wrong : AreReferencesRight i past d refs → ⊥

IsEndWay : Premises → List Entry → ℕ → List (List (List ℕ)) → Refusal → Type 0
IsEndWay i past d refs r = IsEarly past d r ⊎ IsIllReported i past d refs r

end_way : (i : Premises) (past : List Entry) (t : Ticket) (refs : List (List (List ℕ))) (r : Refusal) → IsLive past t → (r ≡ Memory → ⊥) → IsEndRefused i past t refs r → IsEndWay i past t.drv refs r
unfolding IsEndWay
end_way i past t refs NotLive live genuine h = absurd (h live)
end_way i past t refs NotStarted live genuine h = inl (record { is = refl; fresh = h.1 })
end_way i past t refs BadReferences live genuine h = inr (record { is = refl; started = h.1; wrong = h.2 })
end_way i past t refs AlreadyStarted live genuine h = absurd h
end_way i past t refs Uncovered live genuine h = absurd h
end_way i past t refs Extra live genuine h = absurd h
end_way i past t refs AlreadyStopped live genuine h = absurd h
end_way i past t refs Memory live genuine h = absurd (genuine refl)

end_ways : (i : Premises) (past : List Entry) (d : ℕ) (refs : List (List (List ℕ))) (r s : Refusal) → IsEndWay i past d refs r → IsEndWay i past d refs s → r ≡ s
unfolding IsEndWay
end_ways i past d refs r s (inl one) (inl other) = one.is ∙ sym other.is
end_ways i past d refs r s (inl one) (inr other) = let fresh = one.fresh in let started = other.started in cc
end_ways i past d refs r s (inr one) (inl other) = let started = one.started in let fresh = other.fresh in cc
end_ways i past d refs r s (inr one) (inr other) = one.is ∙ sym other.is

never_failed : (past : List Entry) (t : Ticket) (r : Refusal) → IsLive past t → IsFailRefused past t r → ⊥
never_failed past t NotLive live h = h live
never_failed past t AlreadyStarted live h = h
never_failed past t NotStarted live h = h
never_failed past t Uncovered live h = h
never_failed past t Extra live h = h
never_failed past t BadReferences live h = h
never_failed past t AlreadyStopped live h = h
never_failed past t Memory live h = h

given_late : (past : List Entry) (t : Ticket) (r : Refusal) → IsLive past t → IsDownRefused past t r → IsLate past t.drv r
given_late past t NotLive live h = absurd (h live)
given_late past t AlreadyStarted live h = record { is = refl; started = h.1 }
given_late past t NotStarted live h = absurd h
given_late past t Uncovered live h = absurd h
given_late past t Extra live h = absurd h
given_late past t BadReferences live h = absurd h
given_late past t AlreadyStopped live h = absurd h
given_late past t Memory live h = absurd h

record IsStoppedBefore (past : List Entry) (r : Refusal) : Type 0 where
  is : r ≡ AlreadyStopped
  stopped : has_stop past ≡ true

stopped_before : (past : List Entry) (r : Refusal) → IsStopRefused past r → IsStoppedBefore past r
stopped_before past NotLive h = absurd h
stopped_before past AlreadyStarted h = absurd h
stopped_before past NotStarted h = absurd h
stopped_before past Uncovered h = absurd h
stopped_before past Extra h = absurd h
stopped_before past BadReferences h = absurd h
stopped_before past AlreadyStopped h = record { is = refl; stopped = h }
stopped_before past Memory h = absurd h

-- ---- what is allowed isn't refused

-- where there is a lease, it is the call with its ticket that is refused
with_ticket : (i : Premises) (past : List Entry) (d : ℕ) (command : Command) (r : Refusal) → is_leased d past ≡ true → IsTicketRefused i past d command r → IsLeaseRefused i past d command r
with_ticket i past d command r leased (inl gone) = absurd (unleased d past gone.none leased)
with_ticket i past d command r leased (inr refused) = refused

fresh_late : (past : List Entry) (d e : ℕ) (r : Refusal) → e ≡ d → is_started d past ≡ false → IsLate past e r → ⊥
fresh_late past d e r own fresh late = let started : is_started d past ≡ true = subst (λ (x : ℕ). is_started x past ≡ true) own late.started in cc

-- a start in full
start_free : (i : Premises) (past : List Entry) (d : ℕ) (paths : List (List ℕ)) (r : Refusal) → MayStart i past d paths → (r ≡ Memory → ⊥) → IsTicketRefused i past d (Start d) r → ⊥
start_free i past d paths r may genuine h =
    let refused = with_ticket i past d (Start d) r (leased_by d past may.ticket may.live) h in
    let own = own_ticket d past refused.ticket refused.lease in
    let full = subst (λ (x : ℕ). IsFullStartRefused i past x refused.ticket r) (sym own) refused.refused in
    fresh_late past d refused.ticket.drv r own may.fresh (full_late i past refused.ticket r (live_lease d past refused.ticket refused.lease) genuine full)

-- a start with these paths
start_with_free : (i : Premises) (past : List Entry) (d : ℕ) (paths : List (List ℕ)) (r : Refusal) → MayStart i past d paths → (r ≡ Memory → ⊥) → IsTicketRefused i past d (StartWith d paths) r → ⊥
start_with_free i past d paths r may genuine h =
    let refused = with_ticket i past d (StartWith d paths) r (leased_by d past may.ticket may.live) h in
    let own = own_ticket d past refused.ticket refused.lease in
    let same = lease_once past d may.ticket refused.ticket may.live refused.lease in
    let right = subst (λ (x : ℕ). ArePathsRight i past x refused.ticket.machine paths) (sym own) (subst (λ (t : Ticket). ArePathsRight i past d t.machine paths) same may.right) in
    let way = start_way i past refused.ticket paths r (live_lease d past refused.ticket refused.lease) genuine refused.refused in
    fresh_late past d refused.ticket.drv r own may.fresh (right_late i past refused.ticket paths r right way)

right_end : (i : Premises) (past : List Entry) (d : ℕ) (refs : List (List (List ℕ))) (r : Refusal) → MayEnd i past d refs → IsEndWay i past d refs r → ⊥
unfolding IsEndWay
right_end i past d refs r may (inl early) = let started = may.started in let fresh = early.fresh in cc
right_end i past d refs r may (inr wrong) = wrong.wrong may.right

-- an end, of which the refusal is this
end_free : (i : Premises) (past : List Entry) (d : ℕ) (refs : List (List (List ℕ))) (t : Ticket) (r : Refusal) → MayEnd i past d refs → (r ≡ Memory → ⊥) → lease_of d past ≡ Some t → IsEndRefused i past t refs r → ⊥
end_free i past d refs t r may genuine lease refused =
    right_end i past d refs r may
    (subst (λ (x : ℕ). IsEndWay i past x refs r) (own_ticket d past t lease) (end_way i past t refs r (live_lease d past t lease) genuine refused))

pub not_refused : (i : Premises) (past : List Entry) (command : Command) (e : Entry) (r : Refusal) → Adds i past command e → IsAllowed i e past → (r ≡ Memory → ⊥) → IsCommandRefused i past command r → ⊥
not_refused i past (Start d) e r adds allowed genuine h =
    let may : IsAllowed i (Entry.Started d adds.paths) past = subst (λ (x : Entry). IsAllowed i x past) adds.is allowed in
    start_free i past d adds.paths r may.may genuine h
not_refused i past (StartWith d paths) e r adds allowed genuine h =
    let may : IsAllowed i (Entry.Started d paths) past = subst (λ (x : Entry). IsAllowed i x past) adds allowed in
    start_with_free i past d paths r may.may genuine h
not_refused i past (Built d) e r adds allowed genuine h =
    let may : IsAllowed i (Entry.Built d (no_references i d)) past = subst (λ (x : Entry). IsAllowed i x past) adds allowed in
    let refused = with_ticket i past d (Built d) r may.may.live h in
    end_free i past d (no_references i d) refused.ticket r may.may genuine refused.lease refused.refused
not_refused i past (BuiltWith d refs) e r adds allowed genuine h =
    let may : IsAllowed i (Entry.Built d refs) past = subst (λ (x : Entry). IsAllowed i x past) adds allowed in
    let refused = with_ticket i past d (BuiltWith d refs) r may.may.live h in
    end_free i past d refs refused.ticket r may.may genuine refused.lease refused.refused
not_refused i past (Fail d c) e r adds allowed genuine h =
    let may : IsAllowed i (Entry.Failed d (Why.Status c)) past = subst (λ (x : Entry). IsAllowed i x past) adds allowed in
    let refused = with_ticket i past d (Fail d c) r may.may h in
    never_failed past refused.ticket r (live_lease d past refused.ticket refused.lease) refused.refused
not_refused i past (Lose d) e r adds allowed genuine h =
    let may : IsAllowed i (Entry.Failed d Why.Lost) past = subst (λ (x : Entry). IsAllowed i x past) adds allowed in
    let refused = with_ticket i past d (Lose d) r may.may h in
    never_failed past refused.ticket r (live_lease d past refused.ticket refused.lease) refused.refused
not_refused i past (Down d) e r adds allowed genuine h =
    let may : IsAllowed i (Entry.Down d) past = subst (λ (x : Entry). IsAllowed i x past) adds allowed in
    let refused = with_ticket i past d (Down d) r may.may.live h in
    fresh_late past d refused.ticket.drv r (own_ticket d past refused.ticket refused.lease) may.may.fresh
    (given_late past refused.ticket r (live_lease d past refused.ticket refused.lease) refused.refused)
not_refused i past Stop e r adds allowed genuine h =
    let may : IsAllowed i Entry.Stop past = subst (λ (x : Entry). IsAllowed i x past) adds allowed in
    let fresh = may.may in
    let before = (stopped_before past r h).stopped in
    cc
not_refused i past (Drain m) e r adds allowed genuine h = h
not_refused i past (Enable m) e r adds allowed genuine h = h
not_refused i past (Ask d) e r adds allowed genuine h = h

-- ---- one refusal

tickets_once : (i : Premises) (past : List Entry) (d : ℕ) (command : Command) (r s : Refusal)
    → ((t : Ticket) → lease_of d past ≡ Some t → IsRefusedWith i past command t r → IsRefusedWith i past command t s → r ≡ s)
    → IsTicketRefused i past d command r → IsTicketRefused i past d command s → r ≡ s
tickets_once i past d command r s same (inl none) (inl too) = none.is ∙ sym too.is
tickets_once i past d command r s same (inl none) (inr refused) = let no = none.none in let some = refused.lease in cc
tickets_once i past d command r s same (inr refused) (inl none) = let no = none.none in let some = refused.lease in cc
tickets_once i past d command r s same (inr one) (inr other) =
    let tickets = lease_once past d one.ticket other.ticket one.lease other.lease in
    same other.ticket other.lease (subst (λ (t : Ticket). IsRefusedWith i past command t r) tickets one.refused) other.refused

full_once : (i : Premises) (past : List Entry) (d : ℕ) (t : Ticket) (r s : Refusal) → (r ≡ Memory → ⊥) → (s ≡ Memory → ⊥) → lease_of d past ≡ Some t → IsFullStartRefused i past d t r
    → IsFullStartRefused i past d t s → r ≡ s
full_once i past d t r s genuine true_too lease one other =
    let own = own_ticket d past t lease in
    let live = live_lease d past t lease in
    (full_late i past t r live genuine (subst (λ (x : ℕ). IsFullStartRefused i past x t r) (sym own) one)).is
    ∙ sym ((full_late i past t s live true_too (subst (λ (x : ℕ). IsFullStartRefused i past x t s) (sym own) other)).is)

ends_once : (i : Premises) (past : List Entry) (d : ℕ) (refs : List (List (List ℕ))) (t : Ticket) (r s : Refusal) → (r ≡ Memory → ⊥) → (s ≡ Memory → ⊥) → lease_of d past ≡ Some t
    → IsEndRefused i past t refs r → IsEndRefused i past t refs s → r ≡ s
ends_once i past d refs t r s genuine true_too lease one other =
    let live = live_lease d past t lease in
    end_ways i past t.drv refs r s (end_way i past t refs r live genuine one) (end_way i past t refs s live true_too other)

pub refused_once : (i : Premises) (past : List Entry) (command : Command) (r s : Refusal) → (r ≡ Memory → ⊥) → (s ≡ Memory → ⊥) → IsCommandRefused i past command r → IsCommandRefused i past command s → r ≡ s
refused_once i past (Start d) r s genuine true_too one other =
    tickets_once i past d (Start d) r s (λ t lease a b. full_once i past d t r s genuine true_too lease a b) one other
refused_once i past (StartWith d paths) r s genuine true_too one other =
    tickets_once i past d (StartWith d paths) r s
    (λ t lease a b.
    let live = live_lease d past t lease in
    start_ways i past t paths r s (start_way i past t paths r live genuine a) (start_way i past t paths s live true_too b)) one other
refused_once i past (Built d) r s genuine true_too one other =
    tickets_once i past d (Built d) r s (λ t lease a b. ends_once i past d (no_references i d) t r s genuine true_too lease a b) one other
refused_once i past (BuiltWith d refs) r s genuine true_too one other =
    tickets_once i past d (BuiltWith d refs) r s (λ t lease a b. ends_once i past d refs t r s genuine true_too lease a b) one other
refused_once i past (Fail d c) r s genuine true_too one other =
    tickets_once i past d (Fail d c) r s (λ t lease a b. absurd (never_failed past t r (live_lease d past t lease) a)) one other
refused_once i past (Lose d) r s genuine true_too one other =
    tickets_once i past d (Lose d) r s (λ t lease a b. absurd (never_failed past t r (live_lease d past t lease) a)) one other
refused_once i past (Down d) r s genuine true_too one other =
    tickets_once i past d (Down d) r s
    (λ t lease a b. let live = live_lease d past t lease in (given_late past t r live a).is ∙ sym ((given_late past t s live b).is)) one other
refused_once i past Stop r s genuine true_too one other = (stopped_before past r one).is ∙ sym ((stopped_before past s other).is)
refused_once i past (Drain m) r s genuine true_too one other = absurd one
refused_once i past (Enable m) r s genuine true_too one other = absurd one
refused_once i past (Ask d) r s genuine true_too one other = absurd one

-- ---- one reply

same_flag : (a b : Bool) (P : Type 0) → (IsTrue a ↔ P) → (IsTrue b ↔ P) → a ≡ b
same_flag true true P h k = refl
same_flag true false P h k = sym (k.1 (h.0 refl))
same_flag false true P h k = h.1 (k.0 refl)
same_flag false false P h k = refl

same_need : (i : Premises) (d : ℕ) (a b : Need) → slice_get i.graph.needs d ≡ Some a → slice_get i.graph.needs d ≡ Some b → a ≡ b
same_need i d a b h k = cc

reply_now_once : (i : Premises) (past : List Entry) (d : ℕ) (r s : Reply) → HasReply i past d r → HasReply i past d s → r ≡ s
reply_now_once i past d r s one other =
    let same = same_need i d other.need one.need other.needs one.needs in
    let P : Need → Type 0 = λ n. IsTrue other.loc_free ↔ IsLocalFree i past n in
    let free = same_flag other.loc_free one.loc_free (IsLocalFree i past one.need) (subst P same other.loc_free_is) one.loc_free_is in
    let Q : Need → Type 0 = λ n. IsReply i.machines (loads_of i past) (ups_of i past) (IsEligibleAt i.machines n) other.loc_free s in
    let R : Bool → Type 0 = λ b. IsReply i.machines (loads_of i past) (ups_of i past) (IsEligibleAt i.machines one.need) b s in
    reply_once i.machines (loads_of i past) (ups_of i past) one.need one.loc_free r s one.replied (subst R free (subst Q same other.replied))

asked : (d e : ℕ) → Ask d ≡ Ask e → d ≡ e
asked d e h = cc

replied_once : (i : Premises) (old new other : List Entry) (command : Command) (r s : Reply) → HasReplied i old new command r → HasReplied i old other command s → r ≡ s
replied_once i old new other command r s one also =
    let same = asked one.drv also.drv (sym one.asks ∙ also.asks) in
    reply_now_once i (reverse old) also.drv r s (subst (λ (d : ℕ). HasReply i (reverse old) d r) same one.replies) also.replies

-- a question adds nothing, and isn't refused
asks_alone : (i : Premises) (past : List Entry) (command : Command) (d : ℕ) (e : Entry) → command ≡ Ask d → Adds i past command e → ⊥
asks_alone i past command d e is adds = subst (λ (c : Command). Adds i past c e) is adds

asks_freely : (i : Premises) (past : List Entry) (command : Command) (d : ℕ) (r : Refusal) → command ≡ Ask d → IsCommandRefused i past command r → ⊥
asks_freely i past command d r is refused = subst (λ (c : Command). IsCommandRefused i past c r) is refused

-- ---- one outcome

last_same : (old : List Entry) (e f : Entry) → old ++ e ∷ [] ≡ old ++ f ∷ [] → e ≡ f
last_same old e f h = let ends = append_cancel_left old (e ∷ []) (f ∷ []) h in cc

added_line : (i : Premises) (old new : List Entry) (command : Command) (text : List ℕ) → (added : HasAdded i old new command) → IsAddedLine old new text → text ≡ line_of added.entry
added_line i old new command text added line = line.is ∙ ap line_of (last_same old line.entry added.entry (sym line.grown ∙ added.grown))

added_once : (i : Premises) (old new other : List Entry) (command : Command) (text said : List ℕ) → HasAdded i old new command → IsAddedLine old new text → HasAdded i old other command
    → IsAddedLine old other said → (new ≡ other) × (text ≡ said)
added_once i old new other command text said one line also too =
    let same = entry_once i (reverse old) command one.entry also.entry one.adds also.adds in (
      one.grown ∙ ap (λ (e : Entry). old ++ e ∷ []) same ∙ sym also.grown,
      added_line i old new command text one line ∙ ap line_of same ∙ sym (added_line i old other command said also too),
    )

outcome_once : (i : Premises) (old new other : List Entry) (command : Command) (a b : Answer) (text said : List ℕ) → IsAnswer i old new command a → IsAnswerText i.machines old new a text
    → IsAnswer i old other command b → IsAnswerText i.machines old other b said → (new ≡ other) × (text ≡ said)
outcome_once i old new other command Added Added text said one line also too = added_once i old new other command text said one line also too
outcome_once i old new other command Added (Refused s) text said one line also too = absurd (not_refused i (reverse old) command one.entry s one.adds one.allowed also.genuine also.cause)
outcome_once i old new other command Added (Replied s) text said one line also too = absurd (asks_alone i (reverse old) command also.drv one.entry also.asks one.adds)
outcome_once i old new other command (Refused r) Added text said one line also too = absurd (not_refused i (reverse old) command also.entry r also.adds also.allowed one.genuine one.cause)
outcome_once i old new other command (Refused r) (Refused s) text said one line also too =
    (one.kept ∙ sym also.kept, line ∙ ap refused_line (refused_once i (reverse old) command r s one.genuine also.genuine one.cause also.cause) ∙ sym too)
outcome_once i old new other command (Refused r) (Replied s) text said one line also too = absurd (asks_freely i (reverse old) command also.drv r also.asks one.cause)
outcome_once i old new other command (Replied r) Added text said one line also too = absurd (asks_alone i (reverse old) command one.drv also.entry one.asks also.adds)
outcome_once i old new other command (Replied r) (Refused s) text said one line also too = absurd (asks_freely i (reverse old) command one.drv s one.asks also.cause)
outcome_once i old new other command (Replied r) (Replied s) text said one line also too =
    (one.kept ∙ sym also.kept, line ∙ ap (reply_text i.machines) (replied_once i old new other command r s one also) ∙ sym too)

pub one_outcome : OneOutcome
one_outcome i old new other command text said one also =
    outcome_once i old new other command one.answer also.answer text said one.comes.is one.says also.comes.is also.says

-- what a command comes to is legal after a legal history
answer_legal : (i : Premises) (old new : List Entry) (command : Command) (a : Answer) → IsAnswer i old new command a → IsLegal i (reverse old) → IsLegal i (reverse new)
answer_legal i old new command Added is legal =
    let P : List Entry → Type 0 = λ h. IsLegal i (reverse h) in
    subst P (sym is.grown) (grown_legal i old is.entry is.allowed legal)
answer_legal i old new command (Refused r) is legal = let P : List Entry → Type 0 = λ h. IsLegal i (reverse h) in subst P (sym is.kept) legal
answer_legal i old new command (Replied r) is legal = let P : List Entry → Type 0 = λ h. IsLegal i (reverse h) in subst P (sym is.kept) legal

pub obeyed_legal : (i : Premises) (old new : List Entry) (command : Command) (text : List ℕ) → IsObeyed i old new command text → IsLegal i (reverse old) → IsLegal i (reverse new)
obeyed_legal i old new command text obeyed legal = answer_legal i old new command obeyed.answer obeyed.comes.is legal
