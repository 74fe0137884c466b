-- Entries that are gone through before they are judged. The histories of these lemmas stand newest first.
use Rattle.std.proofs.Common.{◌≡◌, ◌⊎◌, ◌==◌, ℕ, zero, suc, ◌+◌, ◌<◌, Bool, true, false, cond, List, [], ◌∷◌, ◌++◌, length, map, reverse, replicate, slice_get, refl, sym, ap, ◌∙◌, subst, arith, inl, inr, Option, Some, None, append_assoc}
use Rattle.std.proofs.lemmas.Grind.{common_steps}
use Rattle.std.proofs.lemmas.Bool.{cases_eq, eq-eqb, ltb-true, ltb-false}
use Rattle.std.proofs.lemmas.List.{reverse-append, length-append, length-map, length-replicate}
use Rattle.std.proofs.lemmas.Option.{slice_get_within, slice_get_read}
use Rattle.std.specs.Prelude.{slice_set, slice_index_or, nat_lt, Result, Ok, Err, IsErrAnd, IfErr, OnErr}
use Rattle.std.specs.List.{find}
use Rattle.nd_graph.specs.Graphs.{Nodes, IsSound, nodes_of}
use Rattle.nd_history.specs.declared.entry.Entry.{Entry}
use Rattle.nd_history.specs.declared.entry.Entry.TheVariants.{Chosen, NoBuilder, Started, Down, Built, Failed, Stop, Drain, Enable}
use Rattle.nd_history.specs.declared.rule.Rule.{Rule}
use Rattle.nd_history.specs.declared.rule.Rule.TheVariants.{Range, Ready, Decision, Best, Slot, Live, Started as StartedRule, Paths, References, Stopped}
use Rattle.nd_leases.specs.declared.ticket.Ticket.{Ticket}
use Rattle.nd_leases.specs.Tickets.{without}
use Rattle.nd_history.specs.Premises.{Premises}
use Rattle.nd_history.specs.History.{live, lease_of}
use Rattle.nd_history.specs.Standing.{drvs_in}
use Rattle.nd_history.specs.Choices.{machines_in}
use Rattle.nd_history.specs.References.{outputs_of, ArePathsRight, AreReferencesRight}
use Rattle.nd_history.specs.Legal.{IsInRange, IsLegal, IsAllowed}
use Rattle.nd_history.specs.Audit.{IsSupplied, Passes}
use Rattle.nd_history.proofs.Turned.{reverse_cons}
use Rattle.nd_history.proofs.Slots.{same_of}
use Rattle.nd_history.proofs.Rules.{rules_decide, found_lease, started_wrongly, built_wrongly}
use Rattle.nd_provision.specs.Stored.{Stored, AreStored, IsFirstFor, is_quiet, IsSameStored, HasTaken, AreStartAdditions, AreBuiltAdditions, IsUncovered, IsExtra, ArePathsRightBy, IsPathsFaultBy, AreReferencesRightBy}
use Rattle.nd_provision.specs.declared.copying.Additions.{Additions}
use Rattle.nd_provision.specs.declared.copying.PathsError.{PathsError}
use Rattle.nd_provision.specs.declared.copying.PathsError.TheVariants.{Uncovered, Extra, Memory}
use Rattle.nd_provision.proofs.Storing.{stored_quiet, stored_same, stored_start, stored_built}
use Rattle.nd_ledger.specs.declared.refusal.AdmitError.{AdmitError}
use Rattle.nd_ledger.specs.declared.refusal.AdmitError.TheVariants.{Illegal, Memory as NoMemory}
use Rattle.nd_audit.specs.declared.ahead.Ahead.{Ahead}
use Rattle.nd_audit.specs.declared.ahead.Batch.{Batch}
use Rattle.nd_audit.specs.declared.ahead.End.{End}
use Rattle.nd_audit.specs.declared.ahead.End.TheVariants.{More, Last, Stopped as StoppedAt}
use Rattle.nd_ledger.specs.Admitting.{PassesFreely, IsAdmitRefused, admit_error_for}
use Rattle.nd_ledger.specs.Moves.{refusal_for}
use Rattle.nd_audit.specs.Ahead.{IsSizedFor, AreOn, IsKeptAfter, IsStoredSomehow, IsCleared, AreCleared, HasCleared, HaveCleared, HasStayed, HasHeldUp, IsEnd, IsNext}
use Rattle.nd_ledger.proofs.Tickets.{right_then, wrong_then}

-- ---- what is kept of leases

-- of a derivation that was taken out no lease is found, and of another one the same
found_without : (d e : ℕ) (leases : List Ticket) → find (λ t. d == t.drv) (without e leases) ≡ cond (d == e) None (find (λ t. d == t.drv) leases)
found_without d e [] = none_either (d == e)
  where
    none_either : (b : Bool) → find (λ (t : Ticket). d == t.drv) [] ≡ cond b None (find (λ (t : Ticket). d == t.drv) [])
    none_either true = refl
    none_either false = refl
found_without d e (t ∷ leases) = grind (arith, common_steps, found_without d e leases)

some_left : {X : Type 0} → (b : Bool) (o : Option X) (x : X) → cond b None o ≡ Some x → o ≡ Some x
some_left true o x h = cc
some_left false o x h = h

still : (d e : ℕ) (leases : List Ticket) (t : Ticket) → find (λ t. d == t.drv) (without e leases) ≡ Some t → find (λ t. d == t.drv) leases ≡ Some t
still d e leases t found = some_left (d == e) (find (λ t. d == t.drv) leases) t (sym (found_without d e leases) ∙ found)

abbrev pub is_choice : Entry → Bool
is_choice (Chosen d m s) = true
is_choice (NoBuilder d) = false
is_choice (Started d paths) = false
is_choice (Down d) = false
is_choice (Built d refs) = false
is_choice (Failed d why) = false
is_choice Stop = false
is_choice (Drain m) = false
is_choice (Enable m) = false

-- what is leased after an entry that is no choice was so before
leased_before : (past : List Entry) (e : Entry) (d : ℕ) (t : Ticket) → is_choice e ≡ false → lease_of d (e ∷ past) ≡ Some t → lease_of d past ≡ Some t
leased_before past (Chosen x m s) d t plain found = cc
leased_before past (NoBuilder x) d t plain found = found
leased_before past (Started x paths) d t plain found = found
leased_before past (Down x) d t plain found = still d x (live past) t found
leased_before past (Built x refs) d t plain found = still d x (live past) t found
leased_before past (Failed x why) d t plain found = still d x (live past) t found
leased_before past Stop d t plain found = found
leased_before past (Drain x) d t plain found = found
leased_before past (Enable x) d t plain found = found

on_after : (past : List Entry) (e : Entry) (machines : List ℕ) → is_choice e ≡ false → AreOn past machines → AreOn (e ∷ past) machines
on_after past e machines plain are = record { each = λ d t found. are.each d t (leased_before past e d t plain found) }

get_set : (machines : List ℕ) (d m : ℕ) → d < length machines → slice_get (slice_set machines d m) d ≡ Some m
get_set [] d m lt = absurd (omega arith)
get_set (x ∷ machines) zero m lt = refl
get_set (x ∷ machines) (suc d) m lt = get_set machines d m (omega arith)

get_other : (machines : List ℕ) (d k m : ℕ) → (k ≡ d → ⊥) → slice_get (slice_set machines d m) k ≡ slice_get machines k
get_other [] d k m other = refl
get_other (x ∷ machines) zero zero m other = absurd (other refl)
get_other (x ∷ machines) zero (suc k) m other = refl
get_other (x ∷ machines) (suc d) zero m other = refl
get_other (x ∷ machines) (suc d) (suc k) m other = get_other machines d k m (λ same. other (ap suc same))

chosen_step : (machines : List ℕ) (leases : List Ticket) (x t : Ticket) (k : ℕ) → x.drv < length machines → (find (λ t. k == t.drv) leases ≡ Some t → slice_get machines k ≡ Some t.machine)
    → (k ≡ x.drv) ⊎ (k ≡ x.drv → ⊥) → (b : Bool) → (k == x.drv) ≡ b → cond b (Some x) (find (λ t. k == t.drv) leases) ≡ Some t → slice_get (slice_set machines x.drv x.machine) k ≡ Some t.machine
chosen_step machines leases x t k lt rest cases true is found =
    let same : x ≡ t = cc in
    subst (λ (n : ℕ). slice_get (slice_set machines x.drv x.machine) n ≡ Some t.machine) (sym (same_of k x.drv is)) (get_set machines x.drv x.machine lt ∙ ap (λ (u : Ticket). Some u.machine) same)
chosen_step machines leases x t k lt rest (inl same) false is found = let at : (k == x.drv) ≡ true = eq-eqb k x.drv same in cc
chosen_step machines leases x t k lt rest (inr other) false is found = get_other machines x.drv k x.machine other ∙ rest found

on_chosen : (past : List Entry) (d m s : ℕ) (machines : List ℕ) → d < length machines → AreOn past machines → AreOn (Chosen d m s ∷ past) (slice_set machines d m)
on_chosen past d m s machines lt are = record {
  each = λ k t found. chosen_step machines (live past) (record { machine = m; slot = s; drv = d; serial = length past }) t k lt (are.each k t) (cases_eq k d) (k == d) refl found;
}

-- ---- rules that take no memory

quiet_paths : (i : Premises) (past : List Entry) (e : Entry) → is_quiet e ≡ true → Passes i past e Paths
quiet_paths i past (Started d paths) quiet = cc
quiet_paths i past e quiet = tt

quiet_references : (i : Premises) (past : List Entry) (e : Entry) → is_quiet e ≡ true → Passes i past e References
quiet_references i past (Built d refs) quiet = cc
quiet_references i past e quiet = tt

quiet_passes : (i : Premises) (past : List Entry) (e : Entry) → is_quiet e ≡ true → PassesFreely i past e → (rule : Rule) → Passes i past e rule
quiet_passes i past e quiet free Range = free.each Range refl
quiet_passes i past e quiet free Ready = free.each Ready refl
quiet_passes i past e quiet free Decision = free.each Decision refl
quiet_passes i past e quiet free Best = free.each Best refl
quiet_passes i past e quiet free Slot = free.each Slot refl
quiet_passes i past e quiet free Live = free.each Live refl
quiet_passes i past e quiet free StartedRule = free.each StartedRule refl
quiet_passes i past e quiet free Paths = quiet_paths i past e quiet
quiet_passes i past e quiet free References = quiet_references i past e quiet
quiet_passes i past e quiet free Stopped = free.each Stopped refl

quiet_allowed : (i : Premises) (past : List Entry) (e : Entry) → is_quiet e ≡ true → PassesFreely i past e → IsAllowed i e past
quiet_allowed i past e quiet free = (rules_decide.allowed i past e).1 (quiet_passes i past e quiet free)

-- ---- sizes

-- the derivations are those of the graph
pub drv_there : (i : Premises) (a : Ahead) (d : ℕ) → IsSizedFor i a → d < drvs_in i → d < length a.machines.items
drv_there i a d sized ranged =
    let at : d < length (map nodes_of i.graph.inputs) = ranged in
    omega (arith, at, length-map i.graph.inputs nodes_of, sized.sound.inputs_sized, sized.drvs)

-- a machine that is read belongs to a derivation of the graph, and is there
pub drv_in_graph : (i : Premises) (a : Ahead) (d m : ℕ) → IsSizedFor i a → slice_get a.machines.items d ≡ Some m → d < length i.graph.paths
drv_in_graph i a d m sized got = let lt = slice_get_within a.machines.items d m got in omega (arith, lt, sized.drvs)

pub machine_there : (i : Premises) (a : Ahead) (d m : ℕ) → IsSizedFor i a → slice_get a.machines.items d ≡ Some m → m < length a.stores.stocks
machine_there i a d m sized got = let lt = sized.there d m got in omega (arith, lt, sized.park)

-- what is read of the machines at a derivation
pub got_at : (a : Ahead) (items : List ℕ) (d m : ℕ) → items ≡ a.machines.items → true ≡ nat_lt d (length items) → m ≡ slice_index_or items d m → slice_get a.machines.items d ≡ Some m
got_at a items d m is lt read = subst (λ (xs : List ℕ). slice_get xs d ≡ Some m) is (slice_get_read items (length items) d m refl (ltb-true d (length items) (sym lt)) read)

pub out_at : (i : Premises) (a : Ahead) (items : List ℕ) (d : ℕ) → IsSizedFor i a → items ≡ a.machines.items → false ≡ nat_lt d (length items) → d < drvs_in i → ⊥
out_at i a items d sized is ge ranged =
    let lt = drv_there i a d sized ranged in
    let le = ltb-false d (length items) (sym ge) in
    let same : length items ≡ length a.machines.items = ap length is in
    omega (arith, lt, le, same)

-- other references and holdings, for as many machines
pub sized_stores : (i : Premises) (old new : Ahead) → new.machines ≡ old.machines → length new.stores.stocks ≡ length old.stores.stocks → IsSizedFor i old → IsSizedFor i new
sized_stores i old new machines park sized = record {
  sound = sized.sound;
  drvs = ap (λ v. length v.items) machines ∙ sized.drvs;
  park = park ∙ sized.park;
  there = λ d m got. sized.there d m (ap (λ v. slice_get v.items d) (sym machines) ∙ got);
}

-- ---- one entry

-- room for it changes nothing of what is kept
pub stores_stayed : (i : Premises) (old new : Ahead) → new.machines ≡ old.machines → IsSameStored old.stores new.stores → HasStayed i old new
stores_stayed i old new machines same = record {
  tells = λ past kept. record {
    stored = λ legal. stored_same i past old.stores new.stores same (kept.stored legal);
    machines = λ legal. subst (λ v. AreOn past v.items) (sym machines) (kept.machines legal);
  };
}

-- an entry that names what isn't there
pub cleared_out : (i : Premises) (a : Ahead) (e : Entry) → (IsInRange i e → ⊥) → HasCleared i a a e
cleared_out i a e out = record {
  tells = λ past kept. (
    record { allowed = λ legal free. absurd (out (free.each Range refl)); stored = λ legal. absurd (out legal.0.ranged) },
    record { stored = λ legal. absurd (out legal.0.ranged); machines = λ legal. absurd (out legal.0.ranged) },
  );
}

-- what is kept after it is kept of references and holdings
somehow : (i : Premises) (past : List Entry) (s : Stored) → AreStored i past s → IsStoredSomehow i past
somehow i past s stored = record { stores = s; stored = stored }

-- an entry that says nothing of references and holdings, and is no choice
pub cleared_quiet : (i : Premises) (a : Ahead) (e : Entry) → is_quiet e ≡ true → is_choice e ≡ false → HasCleared i a a e
cleared_quiet i a e quiet plain = record {
  tells = λ past kept. (
    record {
      allowed = λ legal free. quiet_allowed i past e quiet free;
      stored = λ legal. somehow i (e ∷ past) a.stores (stored_quiet i past e a.stores quiet (kept.stored legal.1));
    },
    record {
      stored = λ legal. stored_quiet i past e a.stores quiet (kept.stored legal.1);
      machines = λ legal. on_after past e a.machines.items plain (kept.machines legal.1);
    },
  );
}

-- the choice of a slot
pub cleared_choice : (i : Premises) (old new : Ahead) (d m s : ℕ) → d < length old.machines.items → new.stores ≡ old.stores → new.machines.items ≡ slice_set old.machines.items d m → HasCleared i old new (Chosen d m s)
cleared_choice i old new d m s lt stores machines = record {
  tells = λ past kept.
      let next : IsLegal i (Chosen d m s ∷ past) → AreStored i (Chosen d m s ∷ past) new.stores =
      λ legal. subst (λ (x : Stored). AreStored i (Chosen d m s ∷ past) x) (sym stores) (stored_quiet i past (Chosen d m s) old.stores refl (kept.stored legal.1)) in (
        record {
          allowed = λ legal free. quiet_allowed i past (Chosen d m s) refl free;
          stored = λ legal. somehow i (Chosen d m s ∷ past) new.stores (next legal);
        },
        record {
          stored = next;
          machines = λ legal. subst (λ (xs : List ℕ). AreOn (Chosen d m s ∷ past) xs) (sym machines) (on_chosen past d m s old.machines.items lt (kept.machines legal.1));
        },
      );
}

-- ---- starts and ends

-- the lease of d is on the machine that is kept for it
on_kept : (past : List Entry) (machines : List ℕ) (d m : ℕ) (t : Ticket) → AreOn past machines → slice_get machines d ≡ Some m → lease_of d past ≡ Some t → m ≡ t.machine
on_kept past machines d m t are got found = let at : slice_get machines d ≡ Some t.machine = are.each d t found in cc

pub cleared_start : (i : Premises) (old new : Ahead) (mid : Stored) (d m : ℕ) (paths : List (List ℕ)) (a : Additions) → slice_get old.machines.items d ≡ Some m → ArePathsRightBy i old.stores d m paths
    → IsSameStored old.stores mid → AreStartAdditions mid m paths a → HasTaken mid new.stores a → new.machines ≡ old.machines → HasCleared i old new (Started d paths)
cleared_start i old new mid d m paths a got right same adds took machines = record {
  tells = λ past kept. (
    record { allowed = allowed past kept; stored = λ legal. somehow i (Started d paths ∷ past) new.stores (next past kept legal) },
    record {
      stored = next past kept;
      machines = λ legal. subst (λ v. AreOn (Started d paths ∷ past) v.items) (sym machines) (on_after past (Started d paths) old.machines.items refl (kept.machines legal.1));
    },
  );
}
  where
    allowed : (past : List Entry) → IsKeptAfter i past old → IsLegal i past → PassesFreely i past (Started d paths) → IsAllowed i (Started d paths) past
    allowed past kept legal free =
        let found = found_lease d past (free.each Live refl) in
        let same = on_kept past old.machines.items d m found.0 (kept.machines legal) got found.1 in
        record {
          ranged = free.each Range refl;
          may = record {
            ticket = found.0;
            live = found.1;
            fresh = free.each StartedRule refl;
            right = subst (λ (n : ℕ). ArePathsRight i past d n paths) same (right.tells past (kept.stored legal));
          };
        }

    next : (past : List Entry) → IsKeptAfter i past old → IsLegal i (Started d paths ∷ past) → AreStored i (Started d paths ∷ past) new.stores
    next past kept legal =
        let may = legal.0.may in
        let on = on_kept past old.machines.items d m may.ticket (kept.machines legal.1) got may.live in
        stored_start i past d may.ticket paths mid new.stores a legal.1 may.live may.right (stored_same i past old.stores mid same (kept.stored legal.1))
        (subst (λ (n : ℕ). AreStartAdditions mid n paths a) on adds) took

uncovered_at : (i : Premises) (past : List Entry) (d : ℕ) (t : Ticket) (paths : List (List ℕ)) → lease_of d past ≡ Some t → IsUncovered i past d t.machine paths → IsSupplied i past d paths → ⊥
uncovered_at i past d t paths is bare supplied =
    let found = supplied.live in
    let same : supplied.ticket ≡ t = cc in
    let right = subst (λ (u : Ticket). ArePathsRight i past d u.machine paths) same supplied.right in
    elim (right.covered bare.path bare.needed) [ inl copied ↦ bare.uncopied copied | inr held ↦ bare.lacked held ]

beside_at : (i : Premises) (past : List Entry) (d m : ℕ) (paths : List (List ℕ)) → IsExtra i past d m paths → IsSupplied i past d paths → ⊥
beside_at i past d m paths extra supplied = extra.unneeded (supplied.right.needed extra.path extra.copied)

-- want of memory holds an entry up
pub held_memory : (i : Premises) (a : Ahead) (e : Entry) (error : AdmitError) → error ≡ NoMemory → HasHeldUp i a e error
held_memory i a e error is = record {
  tells = λ past kept. record { refused = λ legal free. subst (λ (x : AdmitError). IsAdmitRefused i past e x) (sym is) free };
}

pub held_residual : {T : Type 0} → (i : Premises) (a : Ahead) (e : Entry) (r : Result T AdmitError) → IsErrAnd r (λ x. x ≡ NoMemory) → IfErr r (HasHeldUp i a e)
held_residual i a e (Ok x) is = absurd is
held_residual i a e (Err error) is = held_memory i a e error is

pub on_any_error : {T E : Type 0} → (r : Result T E) (P : Type 0) → P → OnErr r P
on_any_error (Ok x) P h = tt
on_any_error (Err error) P h = h

fault_refused : (i : Premises) (past : List Entry) (a : Ahead) (d m : ℕ) (paths : List (List ℕ)) (fault : PathsError) → IsKeptAfter i past a → slice_get a.machines.items d ≡ Some m → IsPathsFaultBy i a.stores d m paths fault
    → IsLegal i past → PassesFreely i past (Started d paths) → IsAdmitRefused i past (Started d paths) (admit_error_for (refusal_for fault))
fault_refused i past a d m paths Uncovered kept got by legal free =
    let found = found_lease d past (free.each Live refl) in
    let same = on_kept past a.machines.items d m found.0 (kept.machines legal) got found.1 in
    let bare : IsUncovered i past d found.0.machine paths = subst (λ (n : ℕ). IsUncovered i past d n paths) same (by.tells past (kept.stored legal)) in
    started_wrongly i past d paths (free.each Range refl) (free.each Live refl) (free.each StartedRule refl) (uncovered_at i past d found.0 paths found.1 bare)
fault_refused i past a d m paths Extra kept got by legal free =
    started_wrongly i past d paths (free.each Range refl) (free.each Live refl) (free.each StartedRule refl) (beside_at i past d m paths (by.tells past (kept.stored legal)))
fault_refused i past a d m paths Memory kept got by legal free = free

-- paths that aren't right hold a start up
pub held_paths : (i : Premises) (a : Ahead) (d m : ℕ) (paths : List (List ℕ)) (fault : PathsError) (error : AdmitError) → slice_get a.machines.items d ≡ Some m → IsPathsFaultBy i a.stores d m paths fault
    → error ≡ admit_error_for (refusal_for fault) → HasHeldUp i a (Started d paths) error
held_paths i a d m paths fault error got by is = record {
  tells = λ past kept. record {
    refused = λ legal free. subst (λ (x : AdmitError). IsAdmitRefused i past (Started d paths) x) (sym is) (fault_refused i past a d m paths fault kept got by legal free);
  };
}

pub cleared_end : (i : Premises) (old new : Ahead) (mid : Stored) (d m : ℕ) (refs : List (List (List ℕ))) (answer : Bool) (a : Additions) → slice_get old.machines.items d ≡ Some m
    → AreReferencesRightBy i old.stores d refs answer → answer ≡ true → IsSameStored old.stores mid → AreBuiltAdditions i mid d m refs a → HasTaken mid new.stores a → new.machines ≡ old.machines → HasCleared i old new (Built d refs)
cleared_end i old new mid d m refs answer a got right is same adds took machines = record {
  tells = λ past kept. (
    record { allowed = allowed past kept; stored = λ legal. somehow i (Built d refs ∷ past) new.stores (next past kept legal) },
    record {
      stored = next past kept;
      machines = λ legal. subst (λ v. AreOn (Built d refs ∷ past) v.items) (sym machines) (on_after past (Built d refs) old.machines.items refl (kept.machines legal.1));
    },
  );
}
  where
    allowed : (past : List Entry) → IsKeptAfter i past old → IsLegal i past → PassesFreely i past (Built d refs) → IsAllowed i (Built d refs) past
    allowed past kept legal free = record {
      ranged = free.each Range refl;
      may = record {
        live = free.each Live refl;
        started = free.each StartedRule refl;
        right = right_then (AreReferencesRight i past d refs) answer (right.tells past (kept.stored legal)) is;
      };
    }

    next : (past : List Entry) → IsKeptAfter i past old → IsLegal i (Built d refs ∷ past) → AreStored i (Built d refs ∷ past) new.stores
    next past kept legal =
        let found = found_lease d past legal.0.may.live in
        let on = on_kept past old.machines.items d m found.0 (kept.machines legal.1) got found.1 in
        stored_built i past d found.0 refs mid new.stores a legal found.1 (stored_same i past old.stores mid same (kept.stored legal.1))
        (subst (λ (n : ℕ). AreBuiltAdditions i mid d n refs a) on adds) took

-- references that aren't right hold the end of a build up
held_end : (i : Premises) (past : List Entry) (d : ℕ) (refs : List (List (List ℕ))) → (AreReferencesRight i past d refs → ⊥) → PassesFreely i past (Built d refs) → IsAdmitRefused i past (Built d refs) (Illegal References)
held_end i past d refs wrong free = built_wrongly i past d refs (free.each Range refl) (free.each Live refl) (free.each StartedRule refl) wrong

pub held_references : (i : Premises) (a : Ahead) (d : ℕ) (refs : List (List (List ℕ))) (answer : Bool) → AreReferencesRightBy i a.stores d refs answer → answer ≡ false → HasHeldUp i a (Built d refs) (Illegal References)
held_references i a d refs answer right isnt = record {
  tells = λ past kept. record {
    refused = λ legal free. held_end i past d refs (wrong_then (AreReferencesRight i past d refs) answer (right.tells past (kept.stored legal)) isnt) free;
  };
}

pub held_count : (i : Premises) (a : Ahead) (d : ℕ) (refs : List (List (List ℕ))) → (length refs ≡ length (outputs_of i d) → ⊥) → HasHeldUp i a (Built d refs) (Illegal References)
held_count i a d refs other = record {
  tells = λ past kept. record { refused = λ legal free. held_end i past d refs (λ right. other right.sized) free };
}

-- ---- what is kept before the first entry

pub first_kept : (i : Premises) (graph : Nodes) (builders : ℕ) (info : List (List ℕ × List (List ℕ))) (a : Ahead) → IsFirstFor graph builders info a.stores → i.graph ≡ graph → length i.machines ≡ builders → i.info ≡ info → IsKeptAfter i [] a
first_kept i graph builders info a first same as_many told = record {
  stored = λ legal. first.tells i same as_many told;
  machines = λ legal. record { each = λ d t found. cc };
}

got_zero : (n d m : ℕ) → slice_get (replicate n 0) d ≡ Some m → m ≡ 0
got_zero zero d m got = cc
got_zero (suc n) zero m got = cc
got_zero (suc n) (suc d) m got = got_zero n d m got

zero_there : (i : Premises) (n d m : ℕ) (xs : List ℕ) → xs ≡ replicate n 0 → slice_get xs d ≡ Some m → m < machines_in i
zero_there i n d m xs is got = let none : m ≡ 0 = got_zero n d m (ap (λ (ys : List ℕ). slice_get ys d) (sym is) ∙ got) in omega (arith, none)

pub first_sized : (i : Premises) (graph : Nodes) (builders : ℕ) (info : List (List ℕ × List (List ℕ))) (a : Ahead) (n : ℕ) → IsFirstFor graph builders info a.stores → i.graph ≡ graph → length i.machines ≡ builders → i.info ≡ info
    → IsSound i.graph → n ≡ length i.graph.paths → a.machines.items ≡ replicate n 0 → IsSizedFor i a
first_sized i graph builders info a n first same as_many told sound sized items = record {
  sound = sound;
  drvs = ap length items ∙ (length-replicate n 0 ∙ sized);
  park = (first.tells i same as_many told).holdings.park;
  there = λ d m got. zero_there i n d m a.machines.items items got;
}

-- ---- several entries

cleared_snoc : (i : Premises) (past entries : List Entry) (e : Entry) → AreCleared i past entries → IsCleared i (reverse entries ++ past) e → AreCleared i past (entries ++ e ∷ [])
cleared_snoc i past [] e are one = (one, tt)
cleared_snoc i past (x ∷ entries) e are one =
    let moved : reverse (x ∷ entries) ++ past ≡ reverse entries ++ x ∷ past = ap (λ (l : List Entry). l ++ past) (reverse_cons x entries) ∙ append_assoc (reverse entries) (x ∷ []) past in
    (are.0, cleared_snoc i (x ∷ past) entries e are.1 (subst (λ (l : List Entry). IsCleared i l e) moved one))

pub none_cleared : (i : Premises) (a : Ahead) → HaveCleared i a a []
none_cleared i a = record { tells = λ past kept. (tt, kept) }

pub one_cleared : (i : Premises) (first old new : Ahead) (entries : List Entry) (e : Entry) → HaveCleared i first old entries → HasCleared i old new e → HaveCleared i first new (entries ++ e ∷ [])
one_cleared i first old new entries e have one = record {
  tells = λ past kept.
      let before = have.tells past kept in
      let now = one.tells (reverse entries ++ past) before.1 in
      let turned : reverse (entries ++ e ∷ []) ++ past ≡ e ∷ (reverse entries ++ past) = ap (λ (l : List Entry). l ++ past) (reverse-append entries (e ∷ [])) in
      (cleared_snoc i past entries e before.0 now.0, subst (λ (l : List Entry). IsKeptAfter i l new) (sym turned) now.1);
}

-- what was left is what is now gone through, and what is left behind it
pub whole_longer : (left entries rest after now : List Entry) (e : Entry) → left ≡ entries ++ rest → rest ≡ e ∷ after → now ≡ entries ++ e ∷ [] → left ≡ now ++ after
whole_longer left entries rest after now e whole first is =
    whole ∙ ap (λ (l : List Entry). entries ++ l) first ∙ sym (append_assoc entries (e ∷ []) after) ∙ ap (λ (l : List Entry). l ++ after) (sym is)

pub one_counted : (entries now : List Entry) (e : Entry) (n : ℕ) → now ≡ entries ++ e ∷ [] → length entries ≡ n → length now ≡ n + 1
one_counted entries now e n is h = omega (arith, h, ap length is, length-append entries (e ∷ []))

have_stayed : (i : Premises) (first old new : Ahead) (entries : List Entry) → HaveCleared i first old entries → HasStayed i old new → HaveCleared i first new entries
have_stayed i first old new entries have stayed = record {
  tells = λ past kept. let before = have.tells past kept in (before.0, stayed.tells (reverse entries ++ past) before.1);
}

-- ---- how a batch ends

not_last : (end : End) → end ≡ Last → end ≡ More → ⊥
not_last end last more = cc

not_stopped : (end : End) (e : Entry) (error : AdmitError) → end ≡ StoppedAt e error → end ≡ More → ⊥
not_stopped end e error stopped more = cc

pub next_more : (i : Premises) (old new : Ahead) (left after : List Entry) (batch : Batch) → batch.end ≡ More → 0 < length batch.entries.items → HaveCleared i old new batch.entries.items → left ≡ batch.entries.items ++ after → IsNext i old new left after batch
next_more i old new left after batch is some have whole = record {
  rest = after;
  whole = whole;
  cleared = have;
  ended = λ past kept. subst (λ (end : End). IsEnd i (reverse batch.entries.items ++ past) after after end) (sym is) refl;
  some = λ more. some;
}

pub next_last : (i : Premises) (old new : Ahead) (left rest after : List Entry) (batch : Batch) → batch.end ≡ Last → HaveCleared i old new batch.entries.items → left ≡ batch.entries.items ++ rest → rest ≡ [] → after ≡ []
    → IsNext i old new left after batch
next_last i old new left rest after batch is have whole none done = record {
  rest = rest;
  whole = whole;
  cleared = have;
  ended = λ past kept. subst (λ (end : End). IsEnd i (reverse batch.entries.items ++ past) rest after end) (sym is) (none, done);
  some = λ more. absurd (not_last batch.end is more);
}

pub next_stopped : (i : Premises) (old mid new : Ahead) (left rest after : List Entry) (e : Entry) (error : AdmitError) (batch : Batch) → batch.end ≡ StoppedAt e error → HaveCleared i old mid batch.entries.items → HasStayed i mid new
    → HasHeldUp i mid e error → left ≡ batch.entries.items ++ rest → rest ≡ e ∷ after → IsNext i old new left after batch
next_stopped i old mid new left rest after e error batch is have stayed held whole first = record {
  rest = rest;
  whole = whole;
  cleared = have_stayed i old mid new batch.entries.items have stayed;
  ended = λ past kept.
      subst (λ (end : End). IsEnd i (reverse batch.entries.items ++ past) rest after end) (sym is)
      (first, held.tells (reverse batch.entries.items ++ past) (have.tells past kept).1);
  some = λ more. absurd (not_stopped batch.end e error is more);
}

pub ruleset nexts = (none_cleared, next_more, next_last, next_stopped)
