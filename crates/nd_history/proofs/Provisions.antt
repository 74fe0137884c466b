-- What machines hold over a legal history: the local one each closure that is asked for, a builder what its builds need.
use Rattle.std.proofs.Common.{◌≡◌, ◌⊎◌, ℕ, zero, suc, Bool, true, false, ◌||◌, ◌&&◌, ◌==◌, if◌then◌else◌, List, [], ◌∷◌, ◌++◌, refl, ap, subst, ◌∙◌, inl, inr, Some, eq-eqb}
use Rattle.std.specs.Prelude.{◌↔◌}
use Rattle.std.specs.List.{Contains, list_any, find, zip}
use Rattle.std.proofs.lemmas.Bool.{cases_eq, ne_eqb, cases_Bool, or_right}
use Rattle.std.proofs.lemmas.List.Elements.{Contains-append_left, Contains-append_right}
use Rattle.nd_closure.specs.Tables.{is_listed, refs_of}
use Rattle.nd_history.specs.declared.entry.Entry.{Entry}
use Rattle.nd_history.specs.declared.entry.Entry.TheVariants.{Started, Built}
use Rattle.nd_leases.specs.declared.ticket.Ticket.{Ticket}
use Rattle.nd_history.specs.Premises.{Premises}
use Rattle.nd_history.specs.History.{live, lease_of, is_leased, is_built}
use Rattle.nd_history.specs.Standing.{AreInputsBuilt}
use Rattle.nd_history.specs.Legal.{IsLegal}
use Rattle.nd_history.specs.References.{outputs_of, IsOutputOf, IsSource, IsGiven, reports, IsNeededBy, IsInClosure, IsBuiltPath, is_leased_on, brought, IsHeld}
use Rattle.nd_history.specs.References.IsAlong.{seed, step}
use Rattle.nd_history.specs.References.Refers.{listed, reported}
use Rattle.nd_history.specs.Closing.{OutputsAlone, StartsAreProvisioned}
use Rattle.nd_history.proofs.Legality.{leased_fresh, rest_true}
use Rattle.nd_history.proofs.Reported.{zip_refs, refs_first, refs_second, built_on, just_built}
use Rattle.nd_history.proofs.Closing.{along_more, along_within, along_known, IsKnown, named_built, reported_known, referred_known, refers_after, closing, inputs_later}

-- ---- the local machine

-- what the local machine holds from the start of its closing
abbrev pub IsKept : Premises → List Entry → List ℕ → Type 0
IsKept i past p = IsSource i p ⊎ IsBuiltPath i past p

kept_on : (i : Premises) (past : List Entry) (e : Entry) (p : List ℕ) → IsKept i past p → IsKept i (e ∷ past) p
kept_on i past e p (inl source) = inl source
kept_on i past e p (inr built) = inr (built_on i past e p built)

kept_known : (i : Premises) (past : List Entry) (p : List ℕ) → IsKept i past p → IsKnown i past p
kept_known i past p (inl source) = inl (seed p source)
kept_known i past p (inr built) = inr built

-- what it holds is known
pub held_known : (i : Premises) (past : List Entry) → IsLegal i past → (p : List ℕ) → IsHeld i past 0 p → IsKnown i past p
held_known i past legal p h = along_within (IsKnown i past) (kept_known i past) (λ x y _ r. referred_known i past legal x y r) p h

-- .. and what is known it holds
pub known_held : (i : Premises) (past : List Entry) (p : List ℕ) → IsKnown i past p → IsHeld i past 0 p
known_held i past p (inl given) = given_held i past p given
  where
    given_held : (i : Premises) (past : List Entry) (x : List ℕ) → IsGiven i x → IsHeld i past 0 x
    given_held i past x (seed p h) = seed p (inl h)
    given_held i past x (step p q r h) = step p q (given_held i past p r) (listed r h)
known_held i past p (inr built) = seed p (inr built)

-- it holds the closure of whatever has its inputs built
pub closure_held : (i : Premises) (past : List Entry) (d : ℕ) → AreInputsBuilt i past d → (p : List ℕ) → IsInClosure i past d p → IsHeld i past 0 p
closure_held i past d inputs p h = along_more (needed_kept i past d inputs) (λ x y r. r) p h
  where
    needed_kept : (i : Premises) (past : List Entry) (d : ℕ) → AreInputsBuilt i past d → (p : List ℕ) → IsNeededBy i d p → IsKept i past p
    needed_kept i past d inputs p (inl source) = inl (record { drv = d; listed = source })
    needed_kept i past d inputs p (inr named) = inr (named_built i past d p inputs named)

-- it goes on holding what it holds
pub local_grows : (i : Premises) (past : List Entry) (e : Entry) → IsLegal i past → (p : List ℕ) → IsHeld i past 0 p → IsHeld i (e ∷ past) 0 p
local_grows i past e legal p h = along_known (IsKnown i past) (held_known i past legal) (kept_on i past e) (λ x y k r. refers_after i past e legal x y k r) p h

-- what a build reported is held, or an output of the build
new_known : (i : Premises) (past : List Entry) (d : ℕ) (refs : List (List (List ℕ))) → IsLegal i (Built d refs ∷ past) → (p q : List ℕ) → Contains (refs_of (reports i (Built d refs ∷ past)) p) q → IsHeld i past 0 q ⊎ IsOutputOf i d q
new_known i past d refs legal p q h =
    elim (cases_Bool (is_listed (reports i past) p)) [
      | inl before ↦ inl (known_held i past q (reported_known i past legal.1 p q (subst (λ (rs : List (List ℕ)). Contains rs q) (refs_first (reports i past) (zip (outputs_of i d) refs) p before) h)))
      | inr new ↦
          let among = zip_refs (outputs_of i d) refs p q (subst (λ (rs : List (List ℕ)). Contains rs q) (refs_second (reports i past) (zip (outputs_of i d) refs) p new) h) in
          elim (legal.0.may.right.within among.list q among.listed among.there) [
            | inl close ↦ inl (closure_held i past d (leased_fresh i past legal.1 d legal.0.may.live).inputs q close)
            | inr out ↦ inr out
          ]
    ]

-- an output of what is built, one more built: the newest one's, or known before
built_before : (i : Premises) (past : List Entry) (d : ℕ) (refs : List (List (List ℕ))) (p : List ℕ) → IsBuiltPath i (Built d refs ∷ past) p → IsHeld i past 0 p ⊎ IsOutputOf i d p
built_before i past d refs p b =
    elim (cases_eq b.drv d) [
      | inl same ↦ inr (subst (λ (x : ℕ). IsOutputOf i x p) same b.output)
      | inr other ↦ inl (seed p (inr (record { drv = b.drv; built = rest_true (b.drv == d) (is_built b.drv past) (ne_eqb b.drv d other) b.built; output = b.output })))
    ]

outputs_added : (i : Premises) (past : List Entry) (d : ℕ) (refs : List (List (List ℕ))) → IsLegal i (Built d refs ∷ past) → (x : List ℕ) → IsHeld i (Built d refs ∷ past) 0 x → IsHeld i past 0 x ⊎ IsOutputOf i d x
outputs_added i past d refs legal x (seed p (inl source)) = inl (seed p (inl source))
outputs_added i past d refs legal x (seed p (inr b)) = built_before i past d refs p b
outputs_added i past d refs legal x (step p q r (listed given h)) = inl (known_held i past q (inl (step p q given h)))
outputs_added i past d refs legal x (step p q r (reported not_given h)) = new_known i past d refs legal p q h

-- a build adds its outputs alone
pub adding : (i : Premises) (past : List Entry) (d : ℕ) (refs : List (List (List ℕ))) → IsLegal i (Built d refs ∷ past) → (p : List ℕ) → IsHeld i (Built d refs ∷ past) 0 p ↔ IsHeld i past 0 p ⊎ IsOutputOf i d p
adding i past d refs legal p = (outputs_added i past d refs legal p, held_or_output i past d refs legal p)
  where
    held_or_output : (i : Premises) (past : List Entry) (d : ℕ) (refs : List (List (List ℕ))) → IsLegal i (Built d refs ∷ past) → (p : List ℕ) → IsHeld i past 0 p ⊎ IsOutputOf i d p → IsHeld i (Built d refs ∷ past) 0 p
    held_or_output i past d refs legal p (inl held) = local_grows i past (Built d refs) legal.1 p held
    held_or_output i past d refs legal p (inr out) = seed p (inr (just_built i past d refs p out))

pub outputs_alone : OutputsAlone
outputs_alone = record { adds = adding }

-- ---- all machines

part_grows : (b : Bool) (old more : List (List ℕ)) (p : List ℕ) → Contains old p → Contains (if b then old ++ more else old) p
part_grows true old more p h = Contains-append_left old more p h
part_grows false old more p h = h

brought_grows : (i : Premises) (m : ℕ) (past : List Entry) (e : Entry) (p : List ℕ) → Contains (brought i m past) p → Contains (brought i m (e ∷ past)) p
brought_grows i m past (Started d paths) p h = part_grows (is_leased_on m d past) (brought i m past) paths p h
brought_grows i m past (Built d refs) p h = part_grows (is_leased_on m d past) (brought i m past) (outputs_of i d) p h
brought_grows i m past e p h = h

-- a machine goes on holding what it holds
pub held_grows : (i : Premises) (past : List Entry) (e : Entry) → IsLegal i past → (m : ℕ) (p : List ℕ) → IsHeld i past m p → IsHeld i (e ∷ past) m p
held_grows i past e legal zero p h = local_grows i past e legal p h
held_grows i past e legal (suc k) p h = brought_grows i (suc k) past e p h

held_later : (i : Premises) (later past : List Entry) → IsLegal i (later ++ past) → (m : ℕ) (p : List ℕ) → IsHeld i past m p → IsHeld i (later ++ past) m p
held_later i [] past legal m p h = h
held_later i (e ∷ later) past legal m p h = held_grows i (later ++ past) e legal.1 m p (held_later i later past legal.1 m p h)

-- ---- leases that are found

-- what a search finds passes the test
pub found_passes : {X : Type 0} → (p : X → Bool) (xs : List X) (x : X) → find p xs ≡ Some x → p x ≡ true
found_passes p [] x h = cc
found_passes p (y ∷ xs) x h = by (p y) refl (λ later. found_passes p xs x later) h
  where
    by : (b : Bool) → p y ≡ b → (find p xs ≡ Some x → p x ≡ true) → (if b then Some y else find p xs) ≡ Some x → p x ≡ true
    by true passes rest here = let same : y ≡ x = cc in subst (λ z. p z ≡ true) same passes
    by false fails rest later = rest later

-- .. and so passes, in the list, each test that it passes
pub found_any : {X : Type 0} → (p q : X → Bool) (xs : List X) (x : X) → find p xs ≡ Some x → q x ≡ true → list_any q xs ≡ true
found_any p q [] x h passes = cc
found_any p q (y ∷ xs) x h passes = by (p y) (λ later. found_any p q xs x later passes) h
  where
    by : (b : Bool) → (find p xs ≡ Some x → list_any q xs ≡ true) → (if b then Some y else find p xs) ≡ Some x → list_any q (y ∷ xs) ≡ true
    by true rest here = let same : y ≡ x = cc in ap (λ (b : Bool). b || list_any q xs) (ap q same ∙ passes)
    by false rest later = or_right (q y) (list_any q xs) (rest later)

-- the lease of d is on its ticket's machine, and d is leased
pub leased_there : (d : ℕ) (past : List Entry) (t : Ticket) → lease_of d past ≡ Some t → is_leased_on t.machine d past ≡ true
leased_there d past t h =
    let of_d : (d == t.drv) ≡ true = found_passes (λ (u : Ticket). d == u.drv) (live past) t h in
    found_any (λ (u : Ticket). d == u.drv) (λ (u : Ticket). (t.machine == u.machine) && (d == u.drv)) (live past) t h
    (ap (λ (b : Bool). b && (d == t.drv)) (eq-eqb t.machine t.machine refl) ∙ of_d)

pub leased_by : (d : ℕ) (past : List Entry) (t : Ticket) → lease_of d past ≡ Some t → is_leased d past ≡ true
leased_by d past t h = found_any (λ (u : Ticket). d == u.drv) (λ (u : Ticket). d == u.drv) (live past) t h (found_passes (λ (u : Ticket). d == u.drv) (live past) t h)

-- ---- every start is provisioned

-- a suffix of a legal history is legal
pub legal_before : (i : Premises) (later past : List Entry) → IsLegal i (later ++ past) → IsLegal i past
legal_before i [] past legal = legal
legal_before i (e ∷ later) past legal = legal_before i later past legal.1

-- right after the start the machine holds the closure as it was before
started_holds : (i : Premises) (before : List Entry) (d m : ℕ) (paths : List (List ℕ)) → is_leased_on m d before ≡ true → (p : List ℕ) → Contains paths p ⊎ IsHeld i before m p → AreInputsBuilt i before d → IsLegal i before → IsInClosure i before d p → IsHeld i (Started d paths ∷ before) m p
started_holds i before d zero paths there p h inputs legal close = local_grows i before (Started d paths) legal p (closure_held i before d inputs p close)
started_holds i before d (suc k) paths there p (inl copied) inputs legal close =
    rw there (Contains-append_right (brought i (suc k) before) paths p copied)
started_holds i before d (suc k) paths there p (inr held) inputs legal close = brought_grows i (suc k) before (Started d paths) p held

provisioned : (i : Premises) (later before : List Entry) (d : ℕ) (paths : List (List ℕ)) → IsLegal i (later ++ Started d paths ∷ before)
    → (ticket : Ticket) × (lease_of d before ≡ Some ticket) × ((p : List ℕ) → IsInClosure i (later ++ Started d paths ∷ before) d p → IsHeld i (later ++ Started d paths ∷ before) ticket.machine p)
provisioned i later before d paths legal =
    let now : IsLegal i (Started d paths ∷ before) = legal_before i later (Started d paths ∷ before) legal in
    let start = now.0.may in
    let inputs = (leased_fresh i before now.1 d (leased_by d before start.ticket start.live)).inputs in (
      start.ticket,
      start.live,
      λ p h.
          let then_ : IsInClosure i (Started d paths ∷ before) d p = (closing i later (Started d paths ∷ before) d legal (inputs_later i (Started d paths ∷ []) before d inputs) p).0 h in
          let close : IsInClosure i before d p = (closing i (Started d paths ∷ []) before d now inputs p).0 then_ in
          held_later i later (Started d paths ∷ before) legal start.ticket.machine p
          (started_holds i before d start.ticket.machine paths (leased_there d before start.ticket start.live) p (start.right.covered p close) inputs now.1 close),
    )

pub starts_are_provisioned : (i : Premises) (past : List Entry) → IsLegal i past → StartsAreProvisioned i past
starts_are_provisioned i past legal = record {
  each = λ later before d paths is. rw is (provisioned i later before d paths (subst (IsLegal i) is legal));
}
