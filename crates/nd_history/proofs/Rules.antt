-- The rules by which entries are audited say together that an entry is allowed; and which rule is the first that refuses it.
use Rattle.std.proofs.Common.{◌≡◌, ℕ, zero, suc, ◌-◌, ◌<◌, ◌≤◌, Bool, true, false, ◌==◌, ◌||◌, cond, if◌then◌else◌, List, [], ◌∷◌, refl, sym, ap, ◌∙◌, subst, arith, inl, inr, Some, Result, Ok, Err, MatchResult}
use Rattle.std.proofs.lemmas.Bool.{cases_lt}
use Rattle.std.specs.List.{list_any, find}
use Rattle.nd_hook.specs.declared.kinds.Decision.{Decision as Deciding}
use Rattle.nd_hook.specs.declared.kinds.Decision.TheVariants.{Local, Remote, Wait, NoBuilder as NobodyBuilds}
use Rattle.nd_history.specs.declared.entry.Entry.{Entry}
use Rattle.nd_history.specs.declared.entry.Entry.TheVariants.{Chosen, NoBuilder, Started, Down, Built, Failed, Stop, Drain, Enable}
use Rattle.nd_leases.specs.declared.ticket.Ticket.{Ticket}
use Rattle.nd_history.specs.declared.entry.Why.{Why}
use Rattle.nd_history.specs.declared.rule.Rule.{Rule}
use Rattle.nd_history.specs.declared.rule.Rule.TheVariants.{Range, Ready, Decision, Best, Slot, Live, Started as StartedRule, Paths, References, Stopped}
use Rattle.nd_history.specs.Premises.{Premises}
use Rattle.nd_history.specs.History.{live, is_leased, lease_of, is_started, has_stop}
use Rattle.nd_history.specs.Standing.{drvs_in, IsReady}
use Rattle.nd_history.specs.Choices.{HasDecision, IsBestFor}
use Rattle.nd_history.specs.References.{AreReferencesRight}
use Rattle.nd_history.specs.Legal.{IsInRange, IsPlaceFor, IsLeastFree, IsAllowed}
use Rattle.nd_history.specs.Audit.{code_of, IsSupplied, Passes, IsFirstForAny, IsFirstRule, RulesDecide}
use Rattle.nd_history.proofs.OneChoice.{decision_once, remote_best, best_for_once}
use Rattle.nd_history.proofs.Provisions.{leased_by}

-- ---- all rules pass exactly where the entry is allowed

found_step : (d : ℕ) (x : Ticket) (leases : List Ticket) (b : Bool) → (b || list_any (λ t. d == t.drv) leases) ≡ true → (list_any (λ t. d == t.drv) leases ≡ true → (t : Ticket) × (find (λ t. d == t.drv) leases ≡ Some t)) → (t : Ticket) × (cond b (Some x) (find (λ t. d == t.drv) leases) ≡ Some t)
found_step d x leases true h rest = (x, refl)
found_step d x leases false h rest = rest h

found_in : (d : ℕ) (leases : List Ticket) → list_any (λ t. d == t.drv) leases ≡ true → (t : Ticket) × (find (λ t. d == t.drv) leases ≡ Some t)
found_in d [] h = let no_way : ⊥ = cc in absurd no_way
found_in d (x ∷ leases) h = found_step d x leases (d == x.drv) h (found_in d leases)

-- a leased derivation has a lease that is found
pub found_lease : (d : ℕ) (past : List Entry) → is_leased d past ≡ true → (t : Ticket) × (lease_of d past ≡ Some t)
found_lease d past h = found_in d (live past) h

allowed_passes : (i : Premises) (past : List Entry) (e : Entry) (rule : Rule) → IsAllowed i e past → Passes i past e rule
allowed_passes i past e Range allowed = allowed.ranged
allowed_passes i past (Chosen d m s) Ready allowed = allowed.may.ready
allowed_passes i past (NoBuilder d) Ready allowed = allowed.may.ready
allowed_passes i past (Chosen d zero s) Decision allowed = allowed.may.place
allowed_passes i past (Chosen d (suc p) s) Decision allowed = allowed.may.place.0
allowed_passes i past (NoBuilder d) Decision allowed = allowed.may.nobody
allowed_passes i past (Chosen d (suc p) s) Best allowed = allowed.may.place.1
allowed_passes i past (Chosen d m s) Slot allowed = allowed.may.slot
allowed_passes i past (Started d paths) Live allowed = leased_by d past allowed.may.ticket allowed.may.live
allowed_passes i past (Down d) Live allowed = allowed.may.live
allowed_passes i past (Built d refs) Live allowed = allowed.may.live
allowed_passes i past (Failed d why) Live allowed = allowed.may
allowed_passes i past (Started d paths) StartedRule allowed = allowed.may.fresh
allowed_passes i past (Down d) StartedRule allowed = allowed.may.fresh
allowed_passes i past (Built d refs) StartedRule allowed = allowed.may.started
allowed_passes i past (Started d paths) Paths allowed = record { ticket = allowed.may.ticket; live = allowed.may.live; right = allowed.may.right }
allowed_passes i past (Built d refs) References allowed = allowed.may.right
allowed_passes i past Stop Stopped allowed = allowed.may
allowed_passes i past e rule allowed = tt

passes_allowed : (i : Premises) (past : List Entry) (e : Entry) → ((rule : Rule) → Passes i past e rule) → IsAllowed i e past
passes_allowed i past (Chosen d zero s) all = record { ranged = all Range; may = record { ready = all Ready; place = all Decision; slot = all Slot } }
passes_allowed i past (Chosen d (suc p) s) all = record { ranged = all Range; may = record { ready = all Ready; place = (all Decision, all Best); slot = all Slot } }
passes_allowed i past (NoBuilder d) all = record { ranged = all Range; may = record { ready = all Ready; nobody = all Decision } }
passes_allowed i past (Started d paths) all =
    let supplied : IsSupplied i past d paths = all Paths in
    record { ranged = all Range; may = record { ticket = supplied.ticket; live = supplied.live; fresh = all StartedRule; right = supplied.right } }
passes_allowed i past (Down d) all = record { ranged = all Range; may = record { live = all Live; fresh = all StartedRule } }
passes_allowed i past (Built d refs) all = record { ranged = all Range; may = record { live = all Live; started = all StartedRule; right = all References } }
passes_allowed i past (Failed d why) all = record { ranged = all Range; may = all Live }
passes_allowed i past Stop all = record { ranged = all Range; may = all Stopped }
passes_allowed i past (Drain m) all = record { ranged = all Range; may = tt }
passes_allowed i past (Enable m) all = record { ranged = all Range; may = tt }

-- the rule with this number
rule_at : ℕ → Rule
rule_at n =
    if n == 1 then Range else if n == 2 then Ready else if n == 3 then Decision else if n == 4 then Best else if n == 5 then Slot else if n == 6 then Live else if n == 7 then StartedRule else if n == 8 then Paths else if n == 9 then References else Stopped

rule_at-code_of : (rule : Rule) → rule_at (code_of rule) ≡ rule
unfolding rule_at
rule_at-code_of Range = refl
rule_at-code_of Ready = refl
rule_at-code_of Decision = refl
rule_at-code_of Best = refl
rule_at-code_of Slot = refl
rule_at-code_of Live = refl
rule_at-code_of StartedRule = refl
rule_at-code_of Paths = refl
rule_at-code_of References = refl
rule_at-code_of Stopped = refl

-- there is one first rule that refuses an entry
first_once : (i : Premises) (past : List Entry) (e : Entry) (rule other : Rule) → IsFirstRule i past e rule → IsFirstRule i past e other → rule ≡ other
first_once i past e rule other one two =
    elim (cases_lt (code_of rule) (code_of other)) [
      | inl lt ↦ absurd (one.refuses (two.earlier rule lt))
      | inr ge ↦
          elim (cases_lt (code_of other) (code_of rule)) [
            | inl lt ↦ absurd (two.refuses (one.earlier other lt))
            | inr le ↦ let same : code_of rule ≡ code_of other = omega arith in sym (rule_at-code_of rule) ∙ ap rule_at same ∙ rule_at-code_of other
          ]
    ]

pub rules_decide : RulesDecide
rules_decide = record {
  allowed = λ i past e. (λ allowed rule. allowed_passes i past e rule allowed, λ all. passes_allowed i past e all);
  refused = λ i past e rule first allowed. first.refuses (allowed_passes i past e rule allowed);
  once = first_once;
}

-- ---- the first rule that refuses

code_positive : (rule : Rule) → 0 < code_of rule
code_positive Range = omega arith
code_positive Ready = omega arith
code_positive Decision = omega arith
code_positive Best = omega arith
code_positive Slot = omega arith
code_positive Live = omega arith
code_positive StartedRule = omega arith
code_positive Paths = omega arith
code_positive References = omega arith
code_positive Stopped = omega arith

-- an entry that names what isn't there
pub first_range : (i : Premises) (past : List Entry) (e : Entry) → (IsInRange i e → ⊥) → IsFirstRule i past e Range
first_range i past e out = record { earlier = λ rule lt. let more = code_positive rule in absurd (omega arith); refuses = out }

-- what a choice passes before the rule of this number
chosen_earlier : (i : Premises) (past : List Entry) (d m s n : ℕ) → IsInRange i (Chosen d m s) → (2 < n → IsReady i past d) → (3 < n → Passes i past (Chosen d m s) Decision) → (4 < n → Passes i past (Chosen d m s) Best) → n ≤ 5 → (rule : Rule) → code_of rule < n → Passes i past (Chosen d m s) rule
chosen_earlier i past d m s n ranged ready decision best le Range lt = ranged
chosen_earlier i past d m s n ranged ready decision best le Ready lt = ready lt
chosen_earlier i past d m s n ranged ready decision best le Decision lt = decision lt
chosen_earlier i past d m s n ranged ready decision best le Best lt = best lt
chosen_earlier i past d m s n ranged ready decision best le Slot lt = absurd (omega arith)
chosen_earlier i past d m s n ranged ready decision best le rule lt = tt

pub chosen_unready : (i : Premises) (past : List Entry) (d m s : ℕ) → IsInRange i (Chosen d m s) → (IsReady i past d → ⊥) → IsFirstRule i past (Chosen d m s) Ready
chosen_unready i past d m s ranged out = record {
  earlier = chosen_earlier i past d m s 2 ranged (λ h. absurd (omega arith)) (λ h. absurd (omega arith)) (λ h. absurd (omega arith)) (omega arith);
  refuses = out;
}

pub chosen_undecided : (i : Premises) (past : List Entry) (d m s : ℕ) → IsInRange i (Chosen d m s) → IsReady i past d → (Passes i past (Chosen d m s) Decision → ⊥) → IsFirstRule i past (Chosen d m s) Decision
chosen_undecided i past d m s ranged ready out = record {
  earlier = chosen_earlier i past d m s 3 ranged (λ h. ready) (λ h. absurd (omega arith)) (λ h. absurd (omega arith)) (omega arith);
  refuses = out;
}

chosen_worse : (i : Premises) (past : List Entry) (d m s : ℕ) → IsInRange i (Chosen d m s) → IsReady i past d → Passes i past (Chosen d m s) Decision → (Passes i past (Chosen d m s) Best → ⊥) → IsFirstRule i past (Chosen d m s) Best
chosen_worse i past d m s ranged ready decision out = record {
  earlier = chosen_earlier i past d m s 4 ranged (λ h. ready) (λ h. decision) (λ h. absurd (omega arith)) (omega arith);
  refuses = out;
}

chosen_taken : (i : Premises) (past : List Entry) (d m s : ℕ) → IsInRange i (Chosen d m s) → IsReady i past d → Passes i past (Chosen d m s) Decision → Passes i past (Chosen d m s) Best → (IsLeastFree past m s → ⊥) → IsFirstRule i past (Chosen d m s) Slot
chosen_taken i past d m s ranged ready decision best out = record {
  earlier = chosen_earlier i past d m s 5 ranged (λ h. ready) (λ h. decision) (λ h. best) (omega arith);
  refuses = out;
}

-- ---- a choice against the decision

-- the local decision is for machine 0 alone
local_alone : (i : Premises) (past : List Entry) (d m s : ℕ) → HasDecision i past d Local → (m ≡ 0 → ⊥) → Passes i past (Chosen d m s) Decision → ⊥
local_alone i past d zero s decided other pass = other refl
local_alone i past d (suc p) s decided other pass = let same = decision_once i past d Local (Remote pass.place) decided pass.decided in cc

-- what is no decision to build is for no machine
no_machine : (i : Premises) (past : List Entry) (d m s : ℕ) (decision : Deciding) → HasDecision i past d decision → (Local ≡ decision → ⊥) → ((p : ℕ) → Remote p ≡ decision → ⊥) → Passes i past (Chosen d m s) Decision → ⊥
no_machine i past d zero s decision decided home away pass = home (decision_once i past d Local decision pass decided)
no_machine i past d (suc p) s decision decided home away pass = away pass.place (decision_once i past d (Remote pass.place) decision pass.decided decided)

remote_away : (i : Premises) (past : List Entry) (d p m s : ℕ) → HasDecision i past d (Remote p) → m ≡ 0 → Passes i past (Chosen d m s) Decision → ⊥
remote_away i past d p zero s decided is pass = let same = decision_once i past d Local (Remote p) pass decided in cc
remote_away i past d p (suc q) s decided is pass = absurd (omega arith)

pub judged_elsewhere : (i : Premises) (past : List Entry) (d m s : ℕ) → IsInRange i (Chosen d m s) → IsReady i past d → HasDecision i past d Local → (m ≡ 0 → ⊥) → IsFirstRule i past (Chosen d m s) Decision
judged_elsewhere i past d m s ranged ready decided other = chosen_undecided i past d m s ranged ready (local_alone i past d m s decided other)

pub judged_home : (i : Premises) (past : List Entry) (d p m s : ℕ) → IsInRange i (Chosen d m s) → IsReady i past d → HasDecision i past d (Remote p) → m ≡ 0 → IsFirstRule i past (Chosen d m s) Decision
judged_home i past d p m s ranged ready decided is = chosen_undecided i past d m s ranged ready (remote_away i past d p m s decided is)

pub judged_waiting : (i : Premises) (past : List Entry) (d m s : ℕ) → IsInRange i (Chosen d m s) → IsReady i past d → HasDecision i past d Wait → IsFirstRule i past (Chosen d m s) Decision
judged_waiting i past d m s ranged ready decided = chosen_undecided i past d m s ranged ready (no_machine i past d m s Wait decided (λ (h : Local ≡ Wait). cc) (λ p (h : Remote p ≡ Wait). cc))

pub judged_hopeless : (i : Premises) (past : List Entry) (d m s : ℕ) → IsInRange i (Chosen d m s) → IsReady i past d → HasDecision i past d NobodyBuilds → IsFirstRule i past (Chosen d m s) Decision
judged_hopeless i past d m s ranged ready decided = chosen_undecided i past d m s ranged ready (no_machine i past d m s NobodyBuilds decided (λ (h : Local ≡ NobodyBuilds). cc) (λ p (h : Remote p ≡ NobodyBuilds). cc))

-- another builder than the best
pub judged_worse : (i : Premises) (past : List Entry) (d p m s : ℕ) → IsInRange i (Chosen d m s) → IsReady i past d → HasDecision i past d (Remote p) → (m ≡ 0 → ⊥) → (m - 1 ≡ p → ⊥) → IsFirstRule i past (Chosen d m s) Best
judged_worse i past d p zero s ranged ready decided away other = absurd (away refl)
judged_worse i past d p (suc q) s ranged ready decided away other =
    chosen_worse i past d (suc q) s ranged ready (record { place = p; decided = decided })
    (λ best. other (let same = best_for_once i past d q p best (remote_best i past d p decided) in omega arith))

-- the slot is tested last
judged_slot : {T : Type 0} → (i : Premises) (past : List Entry) (d m s : ℕ) (r : Result T Rule) → MatchResult r (λ _. IsLeastFree past m s) (λ rule. (rule ≡ Slot) × (IsLeastFree past m s → ⊥)) → IsInRange i (Chosen d m s) → IsReady i past d → IsPlaceFor i past d m → Passes i past (Chosen d m s) Decision → Passes i past (Chosen d m s) Best
    → MatchResult r (λ _. IsAllowed i (Chosen d m s) past) (IsFirstRule i past (Chosen d m s))
judged_slot i past d m s (Ok x) slot ranged ready place decision best = record { ranged = ranged; may = record { ready = ready; place = place; slot = slot } }
judged_slot i past d m s (Err rule) slot ranged ready place decision best =
    let P : Rule → Type 0 = λ r. IsFirstRule i past (Chosen d m s) r in
    subst P (sym slot.0) (chosen_taken i past d m s ranged ready decision best slot.1)

pub judged_local : {T : Type 0} → (i : Premises) (past : List Entry) (d m s : ℕ) (r : Result T Rule) → MatchResult r (λ _. IsLeastFree past m s) (λ rule. (rule ≡ Slot) × (IsLeastFree past m s → ⊥)) → IsInRange i (Chosen d m s) → IsReady i past d → HasDecision i past d Local → m ≡ 0
    → MatchResult r (λ _. IsAllowed i (Chosen d m s) past) (IsFirstRule i past (Chosen d m s))
judged_local i past d zero s r slot ranged ready decided is = judged_slot i past d zero s r slot ranged ready decided decided tt
judged_local i past d (suc p) s r slot ranged ready decided is = absurd (omega arith)

pub judged_remote : {T : Type 0} → (i : Premises) (past : List Entry) (d p m s : ℕ) (r : Result T Rule) → MatchResult r (λ _. IsLeastFree past m s) (λ rule. (rule ≡ Slot) × (IsLeastFree past m s → ⊥)) → IsInRange i (Chosen d m s) → IsReady i past d → HasDecision i past d (Remote p) → (m ≡ 0 → ⊥) → m - 1 ≡ p
    → MatchResult r (λ _. IsAllowed i (Chosen d m s) past) (IsFirstRule i past (Chosen d m s))
judged_remote i past d p zero s r slot ranged ready decided away is = absurd (away refl)
judged_remote i past d p (suc q) s r slot ranged ready decided away is =
    let same : p ≡ q = omega arith in
    let P : ℕ → Type 0 = λ x. IsBestFor i past d x in
    let best = subst P same (remote_best i past d p decided) in
    judged_slot i past d (suc q) s r slot ranged ready (record { place = p; decided = decided }, best) (record { place = p; decided = decided }) best

-- ---- the word that nothing can build a derivation

given_up_earlier : (i : Premises) (past : List Entry) (d n : ℕ) → d < drvs_in i → (2 < n → IsReady i past d) → n ≤ 3 → (rule : Rule) → code_of rule < n → Passes i past (NoBuilder d) rule
given_up_earlier i past d n ranged ready le Range lt = ranged
given_up_earlier i past d n ranged ready le Ready lt = ready lt
given_up_earlier i past d n ranged ready le Decision lt = absurd (omega arith)
given_up_earlier i past d n ranged ready le rule lt = tt

pub given_up_unready : (i : Premises) (past : List Entry) (d : ℕ) → d < drvs_in i → (IsReady i past d → ⊥) → IsFirstRule i past (NoBuilder d) Ready
given_up_unready i past d ranged out = record { earlier = given_up_earlier i past d 2 ranged (λ h. absurd (omega arith)) (omega arith); refuses = out }

pub given_up_early : (i : Premises) (past : List Entry) (d : ℕ) (decision : Deciding) → d < drvs_in i → IsReady i past d → HasDecision i past d decision → (NobodyBuilds ≡ decision → ⊥) → IsFirstRule i past (NoBuilder d) Decision
given_up_early i past d decision ranged ready decided other = record {
  earlier = given_up_earlier i past d 3 ranged (λ h. ready) (omega arith);
  refuses = λ pass. other (decision_once i past d NobodyBuilds decision pass decided);
}

-- ---- what isn't ready

-- nothing may be said of a derivation that isn't ready
pub any_unready : (i : Premises) (past : List Entry) (d : ℕ) → d < drvs_in i → (IsReady i past d → ⊥) → IsFirstForAny i past d Ready
any_unready i past d ranged out = record { choice = λ m s there. chosen_unready i past d m s there out; word = given_up_unready i past d ranged out }

-- ---- starts, ends and stops

started_earlier : (i : Premises) (past : List Entry) (d : ℕ) (paths : List (List ℕ)) (n : ℕ) → d < drvs_in i → (6 < n → is_leased d past ≡ true) → (7 < n → is_started d past ≡ false) → n ≤ 8 → (rule : Rule) → code_of rule < n → Passes i past (Started d paths) rule
started_earlier i past d paths n ranged leased fresh le Range lt = ranged
started_earlier i past d paths n ranged leased fresh le Live lt = leased lt
started_earlier i past d paths n ranged leased fresh le StartedRule lt = fresh lt
started_earlier i past d paths n ranged leased fresh le Paths lt = absurd (omega arith)
started_earlier i past d paths n ranged leased fresh le rule lt = tt

pub started_unleased : (i : Premises) (past : List Entry) (d : ℕ) (paths : List (List ℕ)) → d < drvs_in i → (is_leased d past ≡ true → ⊥) → IsFirstRule i past (Started d paths) Live
started_unleased i past d paths ranged out = record { earlier = started_earlier i past d paths 6 ranged (λ h. absurd (omega arith)) (λ h. absurd (omega arith)) (omega arith); refuses = out }

pub started_twice : (i : Premises) (past : List Entry) (d : ℕ) (paths : List (List ℕ)) → d < drvs_in i → is_leased d past ≡ true → (is_started d past ≡ false → ⊥) → IsFirstRule i past (Started d paths) StartedRule
started_twice i past d paths ranged leased out = record { earlier = started_earlier i past d paths 7 ranged (λ h. leased) (λ h. absurd (omega arith)) (omega arith); refuses = out }

pub started_wrongly : (i : Premises) (past : List Entry) (d : ℕ) (paths : List (List ℕ)) → d < drvs_in i → is_leased d past ≡ true → is_started d past ≡ false → (IsSupplied i past d paths → ⊥) → IsFirstRule i past (Started d paths) Paths
started_wrongly i past d paths ranged leased fresh out = record { earlier = started_earlier i past d paths 8 ranged (λ h. leased) (λ h. fresh) (omega arith); refuses = out }

down_earlier : (i : Premises) (past : List Entry) (d n : ℕ) → d < drvs_in i → (6 < n → is_leased d past ≡ true) → n ≤ 7 → (rule : Rule) → code_of rule < n → Passes i past (Down d) rule
down_earlier i past d n ranged leased le Range lt = ranged
down_earlier i past d n ranged leased le Live lt = leased lt
down_earlier i past d n ranged leased le StartedRule lt = absurd (omega arith)
down_earlier i past d n ranged leased le rule lt = tt

pub down_unleased : (i : Premises) (past : List Entry) (d : ℕ) → d < drvs_in i → (is_leased d past ≡ true → ⊥) → IsFirstRule i past (Down d) Live
down_unleased i past d ranged out = record { earlier = down_earlier i past d 6 ranged (λ h. absurd (omega arith)) (omega arith); refuses = out }

pub down_late : (i : Premises) (past : List Entry) (d : ℕ) → d < drvs_in i → is_leased d past ≡ true → (is_started d past ≡ false → ⊥) → IsFirstRule i past (Down d) StartedRule
down_late i past d ranged leased out = record { earlier = down_earlier i past d 7 ranged (λ h. leased) (omega arith); refuses = out }

built_earlier : (i : Premises) (past : List Entry) (d : ℕ) (refs : List (List (List ℕ))) (n : ℕ) → d < drvs_in i → (6 < n → is_leased d past ≡ true) → (7 < n → is_started d past ≡ true) → n ≤ 9 → (rule : Rule) → code_of rule < n → Passes i past (Built d refs) rule
built_earlier i past d refs n ranged leased started le Range lt = ranged
built_earlier i past d refs n ranged leased started le Live lt = leased lt
built_earlier i past d refs n ranged leased started le StartedRule lt = started lt
built_earlier i past d refs n ranged leased started le References lt = absurd (omega arith)
built_earlier i past d refs n ranged leased started le rule lt = tt

pub built_unleased : (i : Premises) (past : List Entry) (d : ℕ) (refs : List (List (List ℕ))) → d < drvs_in i → (is_leased d past ≡ true → ⊥) → IsFirstRule i past (Built d refs) Live
built_unleased i past d refs ranged out = record { earlier = built_earlier i past d refs 6 ranged (λ h. absurd (omega arith)) (λ h. absurd (omega arith)) (omega arith); refuses = out }

pub built_early : (i : Premises) (past : List Entry) (d : ℕ) (refs : List (List (List ℕ))) → d < drvs_in i → is_leased d past ≡ true → (is_started d past ≡ true → ⊥) → IsFirstRule i past (Built d refs) StartedRule
built_early i past d refs ranged leased out = record { earlier = built_earlier i past d refs 7 ranged (λ h. leased) (λ h. absurd (omega arith)) (omega arith); refuses = out }

pub built_wrongly : (i : Premises) (past : List Entry) (d : ℕ) (refs : List (List (List ℕ))) → d < drvs_in i → is_leased d past ≡ true → is_started d past ≡ true → (AreReferencesRight i past d refs → ⊥) → IsFirstRule i past (Built d refs) References
built_wrongly i past d refs ranged leased started out = record { earlier = built_earlier i past d refs 9 ranged (λ h. leased) (λ h. started) (omega arith); refuses = out }

failed_earlier : (i : Premises) (past : List Entry) (d : ℕ) (why : Why) → d < drvs_in i → (rule : Rule) → code_of rule < 6 → Passes i past (Failed d why) rule
failed_earlier i past d why ranged Range lt = ranged
failed_earlier i past d why ranged Live lt = absurd (omega arith)
failed_earlier i past d why ranged rule lt = tt

pub failed_unleased : (i : Premises) (past : List Entry) (d : ℕ) (why : Why) → d < drvs_in i → (is_leased d past ≡ true → ⊥) → IsFirstRule i past (Failed d why) Live
failed_unleased i past d why ranged out = record { earlier = failed_earlier i past d why ranged; refuses = out }

stop_earlier : (i : Premises) (past : List Entry) (rule : Rule) → code_of rule < 10 → Passes i past Stop rule
stop_earlier i past Stopped lt = absurd (omega arith)
stop_earlier i past rule lt = tt

pub stopped_twice : (i : Premises) (past : List Entry) → (has_stop past ≡ false → ⊥) → IsFirstRule i past Stop Stopped
stopped_twice i past out = record { earlier = stop_earlier i past; refuses = out }
