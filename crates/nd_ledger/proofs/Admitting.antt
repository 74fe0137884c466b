-- What the refusals of calls say of the rules by which entries are audited.
use Rattle.std.proofs.Common.{◌≡◌, ◌==◌, ℕ, ◌<◌, Bool, true, false, cond, List, [], ◌∷◌, ◌++◌, length, reverse, refl, sym, subst, ap, ◌∙◌, inl, inr, Option, Some, None, MatchOption}
use Rattle.std.specs.List.{find}
use Rattle.nd_history.specs.declared.entry.Entry.{Entry}
use Rattle.nd_history.specs.declared.entry.Entry.TheVariants.{Chosen, NoBuilder, Started as Starting, Down, Built, Failed, Stop, Drain, Enable}
use Rattle.nd_leases.specs.declared.ticket.Ticket.{Ticket}
use Rattle.nd_history.specs.declared.entry.Why.{Why}
use Rattle.nd_history.specs.declared.rule.Rule.{Rule}
use Rattle.nd_history.specs.declared.rule.Rule.TheVariants.{Range, Ready, Decision, Best, Slot, Live, Started as StartedRule, Paths, References, Stopped}
use Rattle.nd_history.specs.Premises.{Premises}
use Rattle.nd_history.specs.History.{live, is_leased, lease_of, is_started, has_stop}
use Rattle.nd_history.specs.Standing.{drvs_in}
use Rattle.nd_history.specs.References.{outputs_of, ArePathsRight, AreReferencesRight}
use Rattle.nd_history.specs.Legal.{IsAllowed, IsLegal}
use Rattle.nd_history.specs.Audit.{IsSupplied, Passes}
use Rattle.nd_history.proofs.Following.{newest_first}
use Rattle.nd_history.proofs.Legality.{leased_ranged}
use Rattle.nd_history.proofs.Provisions.{leased_by}
use Rattle.nd_history.proofs.Rules.{rules_decide, found_lease, started_twice, started_wrongly, down_late, built_early, built_wrongly, stopped_twice}
use Rattle.nd_history.proofs.Slots.{same_of}
use Rattle.nd_provision.specs.Stored.{IsUncovered, IsExtra}
use Rattle.nd_ledger.specs.declared.refusal.AdmitError.{AdmitError}
use Rattle.nd_ledger.specs.declared.refusal.AdmitError.TheVariants.{Illegal, Memory}
use Rattle.nd_ledger.specs.declared.refusal.Refusal.{Refusal}
use Rattle.nd_ledger.specs.declared.refusal.Refusal.TheVariants.{NotLive, AlreadyStarted, NotStarted, Uncovered, Extra, BadReferences, AlreadyStopped, Memory as NoMemory}
use Rattle.nd_ledger.specs.Refusals.{IsLive, IsDownRefused, IsStopRefused}
use Rattle.nd_ledger.specs.Moves.{IsStartRefused, IsEndRefused}
use Rattle.nd_ledger.specs.Admitting.{is_over_paths, HasAllLists, PassesFreely, IsAdmitRefused, admit_error_for}

-- ---- the lease of a derivation

own_step : (d : ℕ) (x t : Ticket) (leases : List Ticket) (b : Bool) → d == x.drv ≡ b → cond b (Some x) (find (λ t. d == t.drv) leases) ≡ Some t → (find (λ t. d == t.drv) leases ≡ Some t → t.drv ≡ d) → t.drv ≡ d
own_step d x t leases true is h rest = let same : x ≡ t = cc in sym (same_of d t.drv (ap (λ (u : Ticket). d == u.drv) (sym same) ∙ is))
own_step d x t leases false is h rest = rest h

own_in : (d : ℕ) (leases : List Ticket) (t : Ticket) → find (λ t. d == t.drv) leases ≡ Some t → t.drv ≡ d
own_in d [] t h = cc
own_in d (x ∷ leases) t h = own_step d x t leases (d == x.drv) refl h (own_in d leases t)

-- the lease that is found for a derivation is its own
pub own_lease : (d : ℕ) (past : List Entry) (t : Ticket) → lease_of d past ≡ Some t → t.drv ≡ d
own_lease d past t found = own_in d (live past) t found

pub own_live : (d : ℕ) (past : List Entry) (t : Ticket) → lease_of d past ≡ Some t → IsLive past t
own_live d past t found = let P : ℕ → Type 0 = λ x. lease_of x past ≡ Some t in subst P (sym (own_lease d past t found)) found

-- what has no lease that is found isn't leased
pub unleased : (d : ℕ) (past : List Entry) → lease_of d past ≡ None → is_leased d past ≡ true → ⊥
unleased d past none leased = let found = found_lease d past leased in let is = found.1 in cc

-- what a look-up of a lease says
pub ticket_of : (d : ℕ) (past : List Entry) (found : Option Ticket) → found ≡ lease_of d past → MatchOption found (is_leased d past ≡ true → ⊥) (λ t. (t.drv ≡ d) × IsLive past t)
ticket_of d past None is = unleased d past (sym is)
ticket_of d past (Some t) is = (own_lease d past t (sym is), own_live d past t (sym is))

-- ---- rules that take no memory

-- what passes each of those, one by one
pub freely : (i : Premises) (past : List Entry) (e : Entry) → Passes i past e Range → Passes i past e Ready → Passes i past e Decision → Passes i past e Best → Passes i past e Slot → Passes i past e Live → Passes i past e StartedRule → Passes i past e Stopped → HasAllLists i e → PassesFreely i past e
freely i past e ranged ready decided best slot live started stopped listed = record { each = each; listed = listed }
  where
    each : (rule : Rule) → is_over_paths rule ≡ false → Passes i past e rule
    each Range free = ranged
    each Ready free = ready
    each Decision free = decided
    each Best free = best
    each Slot free = slot
    each Live free = live
    each StartedRule free = started
    each Paths free = let no_way : ⊥ = cc in absurd no_way
    each References free = let no_way : ⊥ = cc in absurd no_way
    each Stopped free = stopped

-- a start of a lease that is live and not started passes those
pub free_start : (i : Premises) (past : List Entry) (d : ℕ) (paths : List (List ℕ)) → d < drvs_in i → is_leased d past ≡ true → is_started d past ≡ false → PassesFreely i past (Starting d paths)
free_start i past d paths ranged leased fresh = freely i past (Starting d paths) ranged tt tt tt tt leased fresh tt tt

-- .. and the end of a build of one that is live and started, with a list for each output
pub free_end : (i : Premises) (past : List Entry) (d : ℕ) (refs : List (List (List ℕ))) → d < drvs_in i → is_leased d past ≡ true → is_started d past ≡ true → length refs ≡ length (outputs_of i d) → PassesFreely i past (Built d refs)
free_end i past d refs ranged leased started listed = freely i past (Built d refs) ranged tt tt tt tt leased started tt listed

lists_allowed : (i : Premises) (past : List Entry) (e : Entry) → IsAllowed i e past → HasAllLists i e
lists_allowed i past (Built d refs) allowed = allowed.may.right.sized
lists_allowed i past (Chosen d m s) allowed = tt
lists_allowed i past (NoBuilder d) allowed = tt
lists_allowed i past (Starting d paths) allowed = tt
lists_allowed i past (Down d) allowed = tt
lists_allowed i past (Failed d why) allowed = tt
lists_allowed i past Stop allowed = tt
lists_allowed i past (Drain m) allowed = tt
lists_allowed i past (Enable m) allowed = tt

-- .. and what is allowed
pub free_allowed : (i : Premises) (past : List Entry) (e : Entry) → IsAllowed i e past → PassesFreely i past e
free_allowed i past e allowed = record { each = λ rule free. (rules_decide.allowed i past e).0 allowed rule; listed = lists_allowed i past e allowed }

-- ---- what a call that succeeds says of its entry

pub allowed_started : (i : Premises) (past : List Entry) (t : Ticket) (paths : List (List ℕ)) → IsLegal i past → IsLive past t → is_started t.drv past ≡ false → ArePathsRight i past t.drv t.machine paths → IsAllowed i (Starting t.drv paths) past
allowed_started i past t paths legal live fresh right = record { ranged = leased_ranged i past legal t.drv (leased_by t.drv past t live); may = record { ticket = t; live = live; fresh = fresh; right = right } }

pub allowed_built : (i : Premises) (past : List Entry) (t : Ticket) (refs : List (List (List ℕ))) → IsLegal i past → IsLive past t → is_started t.drv past ≡ true → AreReferencesRight i past t.drv refs → IsAllowed i (Built t.drv refs) past
allowed_built i past t refs legal live started right =
    let leased = leased_by t.drv past t live in
    record { ranged = leased_ranged i past legal t.drv leased; may = record { live = leased; started = started; right = right } }

pub allowed_failed : (i : Premises) (past : List Entry) (t : Ticket) (why : Why) → IsLegal i past → IsLive past t → IsAllowed i (Failed t.drv why) past
allowed_failed i past t why legal live = let leased = leased_by t.drv past t live in record { ranged = leased_ranged i past legal t.drv leased; may = leased }

pub allowed_down : (i : Premises) (past : List Entry) (t : Ticket) → IsLegal i past → IsLive past t → is_started t.drv past ≡ false → IsAllowed i (Down t.drv) past
allowed_down i past t legal live fresh =
    let leased = leased_by t.drv past t live in
    record { ranged = leased_ranged i past legal t.drv leased; may = record { live = leased; fresh = fresh } }

-- ---- refusals of calls with a live ticket

uncovered : (i : Premises) (past : List Entry) (t : Ticket) (paths : List (List ℕ)) → IsLive past t → IsUncovered i past t.drv t.machine paths → IsSupplied i past t.drv paths → ⊥
uncovered i past t paths is bare supplied =
    let found = supplied.live in
    let same : supplied.ticket ≡ t = cc in
    let P : Ticket → Type 0 = λ u. ArePathsRight i past t.drv u.machine paths in
    let right = subst P same supplied.right in
    elim (right.covered bare.path bare.needed) [ inl copied ↦ bare.uncopied copied | inr held ↦ bare.lacked held ]

beside : (i : Premises) (past : List Entry) (t : Ticket) (paths : List (List ℕ)) → IsExtra i past t.drv t.machine paths → IsSupplied i past t.drv paths → ⊥
beside i past t paths extra supplied = extra.unneeded (supplied.right.needed extra.path extra.copied)

-- what refuses an entry of the ticket's derivation refuses that of derivation d, which it is
own_refused : (entry : ℕ → Entry) (i : Premises) (past : List Entry) (d : ℕ) (t : Ticket) (why : Refusal) (error : AdmitError) → d < drvs_in i → t.drv ≡ d → (t.drv < drvs_in i → IsAdmitRefused i past (entry t.drv) (admit_error_for why)) → error ≡ admit_error_for why → IsAdmitRefused i past (entry d) error
own_refused entry i past d t why error ranged own refused same =
    let P : ℕ → Type 0 = λ x. IsAdmitRefused i past (entry x) (admit_error_for why) in
    let Q : ℕ → Type 0 = λ x. x < drvs_in i in
    let R : AdmitError → Type 0 = λ e. IsAdmitRefused i past (entry d) e in
    subst R (sym same) (subst P own (refused (subst Q (sym own) ranged)))

start_at : (i : Premises) (past : List Entry) (t : Ticket) (paths : List (List ℕ)) (why : Refusal) → t.drv < drvs_in i → IsLive past t → IsStartRefused i past t paths why → IsAdmitRefused i past (Starting t.drv paths) (admit_error_for why)
start_at i past t paths NotLive ranged is h = absurd (h is)
start_at i past t paths AlreadyStarted ranged is h = started_twice i past t.drv paths ranged (leased_by t.drv past t is) (λ fresh. let was = h.1 in cc)
start_at i past t paths Uncovered ranged is h = started_wrongly i past t.drv paths ranged (leased_by t.drv past t is) h.1 (uncovered i past t paths is h.2)
start_at i past t paths Extra ranged is h = started_wrongly i past t.drv paths ranged (leased_by t.drv past t is) h.1 (beside i past t paths h.2)
start_at i past t paths NoMemory ranged is h = free_start i past t.drv paths ranged (leased_by t.drv past t is) h.1
start_at i past t paths NotStarted ranged is h = absurd h
start_at i past t paths BadReferences ranged is h = absurd h
start_at i past t paths AlreadyStopped ranged is h = absurd h

pub start_illegal : (i : Premises) (past : List Entry) (d : ℕ) (t : Ticket) (paths : List (List ℕ)) (why : Refusal) (error : AdmitError) → d < drvs_in i → t.drv ≡ d → IsLive past t → IsStartRefused i past t paths why → error ≡ admit_error_for why → IsAdmitRefused i past (Starting d paths) error
start_illegal i past d t paths why error ranged own is h same = own_refused (λ x. Starting x paths) i past d t why error ranged own (λ at. start_at i past t paths why at is h) same

end_at : (i : Premises) (past : List Entry) (t : Ticket) (refs : List (List (List ℕ))) (why : Refusal) → t.drv < drvs_in i → IsLive past t → IsEndRefused i past t refs why → IsAdmitRefused i past (Built t.drv refs) (admit_error_for why)
end_at i past t refs NotLive ranged is h = absurd (h is)
end_at i past t refs NotStarted ranged is h = built_early i past t.drv refs ranged (leased_by t.drv past t is) (λ started. let was = h.1 in cc)
end_at i past t refs BadReferences ranged is h = built_wrongly i past t.drv refs ranged (leased_by t.drv past t is) h.1 h.2
end_at i past t refs NoMemory ranged is h = free_end i past t.drv refs ranged (leased_by t.drv past t is) h.1 h.2
end_at i past t refs AlreadyStarted ranged is h = absurd h
end_at i past t refs Uncovered ranged is h = absurd h
end_at i past t refs Extra ranged is h = absurd h
end_at i past t refs AlreadyStopped ranged is h = absurd h

pub end_illegal : (i : Premises) (past : List Entry) (d : ℕ) (t : Ticket) (refs : List (List (List ℕ))) (why : Refusal) (error : AdmitError) → d < drvs_in i → t.drv ≡ d → IsLive past t → IsEndRefused i past t refs why → error ≡ admit_error_for why → IsAdmitRefused i past (Built d refs) error
end_illegal i past d t refs why error ranged own is h same = own_refused (λ x. Built x refs) i past d t why error ranged own (λ at. end_at i past t refs why at is h) same

down_at : (i : Premises) (past : List Entry) (t : Ticket) (why : Refusal) → t.drv < drvs_in i → IsLive past t → IsDownRefused past t why → IsAdmitRefused i past (Down t.drv) (admit_error_for why)
down_at i past t NotLive ranged is h = absurd (h is)
down_at i past t AlreadyStarted ranged is h = down_late i past t.drv ranged (leased_by t.drv past t is) (λ fresh. let was = h.1 in cc)
down_at i past t NotStarted ranged is h = absurd h
down_at i past t Uncovered ranged is h = absurd h
down_at i past t Extra ranged is h = absurd h
down_at i past t BadReferences ranged is h = absurd h
down_at i past t AlreadyStopped ranged is h = absurd h
down_at i past t NoMemory ranged is h = absurd h

pub down_illegal : (i : Premises) (past : List Entry) (d : ℕ) (t : Ticket) (why : Refusal) (error : AdmitError) → d < drvs_in i → t.drv ≡ d → IsLive past t → IsDownRefused past t why → error ≡ admit_error_for why → IsAdmitRefused i past (Down d) error
down_illegal i past d t why error ranged own is h same = own_refused (λ x. Down x) i past d t why error ranged own (λ at. down_at i past t why at is h) same

pub stop_illegal : (i : Premises) (past : List Entry) (why : Refusal) → IsStopRefused past why → IsAdmitRefused i past Stop (admit_error_for why)
stop_illegal i past AlreadyStopped h = stopped_twice i past (λ none. let was : has_stop past ≡ true = h in cc)
stop_illegal i past NotLive h = absurd h
stop_illegal i past AlreadyStarted h = absurd h
stop_illegal i past NotStarted h = absurd h
stop_illegal i past Uncovered h = absurd h
stop_illegal i past Extra h = absurd h
stop_illegal i past BadReferences h = absurd h
stop_illegal i past NoMemory h = absurd h

-- ---- what an answer says

-- an entry that was appended to a legal history that is legal was allowed
pub appended_allowed : (i : Premises) (old new : List Entry) (e : Entry) → new ≡ old ++ e ∷ [] → IsLegal i (reverse new) → IsAllowed i e (reverse old)
appended_allowed i old new e is legal =
    let P : List Entry → Type 0 = λ es. IsLegal i es in
    (subst P (newest_first old new e is) legal).0

-- an entry that is allowed is refused for want of memory alone
pub memory_alone : (i : Premises) (past : List Entry) (e : Entry) (error : AdmitError) → IsAdmitRefused i past e error → IsAllowed i e past → error ≡ Memory
memory_alone i past e (Illegal rule) h allowed = absurd (rules_decide.refused i past e rule h allowed)
memory_alone i past e Memory h allowed = refl
