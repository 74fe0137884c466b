-- Machines that hold, with a path, what the path refers to.
use Rattle.std.proofs.Common.{◌≡◌, ◌⊎◌, ℕ, zero, suc, Bool, true, false, if◌then◌else◌, List, [], ◌∷◌, ◌++◌, refl, sym, subst, inl, inr}
use Rattle.std.specs.List.{Contains}
use Rattle.std.proofs.lemmas.List.Elements.{Contains-append_left, Contains-append_right, Contains-append_cases}
use Rattle.nd_history.specs.declared.entry.Entry.{Entry}
use Rattle.nd_history.specs.declared.entry.Entry.TheVariants.{Started, Built}
use Rattle.nd_history.specs.Premises.{Premises}
use Rattle.nd_history.specs.Legal.{IsLegal}
use Rattle.nd_history.specs.References.{outputs_of, Refers, is_leased_on, brought, IsHeld, ArePathsRight}
use Rattle.nd_history.specs.References.IsAlong.{step}
use Rattle.nd_provision.specs.Stored.{HoldsReferences}
use Rattle.nd_history.proofs.Legality.{leased_fresh}
use Rattle.nd_history.proofs.Reported.{nothing_in, just_built}
use Rattle.nd_history.proofs.Closing.{IsKnown, known_on, closure_known, refers_alike, refers_before}
use Rattle.nd_history.proofs.Provisions.{leased_by}

-- a builder's paths, grown where the lease is on it
pub grown_to : (b : Bool) (before paths : List (List ℕ)) (p : List ℕ) → Contains (if b then before ++ paths else before) p → Contains before p ⊎ ((b ≡ true) × Contains paths p)
grown_to true before paths p h = elim (Contains-append_cases before paths p h) [ inl there ↦ inl there | inr new ↦ inr (refl, new) ]
grown_to false before paths p h = inl h

pub to_grown : (b : Bool) (before paths : List (List ℕ)) (p : List ℕ) → Contains before p ⊎ ((b ≡ true) × Contains paths p) → Contains (if b then before ++ paths else before) p
to_grown true before paths p (inl there) = Contains-append_left before paths p there
to_grown true before paths p (inr new) = Contains-append_right before paths p new.1
to_grown false before paths p (inl there) = there
to_grown false before paths p (inr new) = let never = new.0 in cc

-- the local machine does, whatever happened
pub local_whole : (i : Premises) (past : List Entry) → HoldsReferences i past 0
local_whole i past = record { each = λ p q h r. step p q h r }

-- before the first entry each machine does
pub first_whole : (i : Premises) (m : ℕ) → HoldsReferences i [] m
first_whole i zero = local_whole i []
first_whole i (suc k) = record { each = λ p q h r. absurd (nothing_in p h) }

-- what came to a machine is given, or an output of what is built
pub brought_known : (i : Premises) (past : List Entry) → IsLegal i past → (m : ℕ) (p : List ℕ) → Contains (brought i m past) p → IsKnown i past p
brought_known i [] legal m p h = absurd (nothing_in p h)
brought_known i (Started d paths ∷ past) legal m p h =
    let start = legal.0.may in
    elim (grown_to (is_leased_on m d past) (brought i m past) paths p h) [
      | inl before ↦ known_on i past (Started d paths) p (brought_known i past legal.1 m p before)
      | inr new ↦ known_on i past (Started d paths) p
          (closure_known i past legal.1 d (leased_fresh i past legal.1 d (leased_by d past start.ticket start.live)).inputs p (start.right.needed p new.1))
    ]
brought_known i (Built d refs ∷ past) legal m p h =
    elim (grown_to (is_leased_on m d past) (brought i m past) (outputs_of i d) p h) [
      | inl before ↦ known_on i past (Built d refs) p (brought_known i past legal.1 m p before)
      | inr new ↦ inr (just_built i past d refs p (record { listed = new.1 }))
    ]
brought_known i (e ∷ past) legal m p h = known_on i past e p (brought_known i past legal.1 m p h)

-- a start brings a closure whole
pub start_whole : (i : Premises) (past : List Entry) (d at : ℕ) (paths : List (List ℕ)) (m : ℕ) → (is_leased_on m d past ≡ true → m ≡ at) → ArePathsRight i past d at paths → HoldsReferences i past m → HoldsReferences i (Started d paths ∷ past) m
start_whole i past d at paths zero there right old = local_whole i (Started d paths ∷ past)
start_whole i past d at paths (suc k) there right old = record {
  each = λ p q h r.
      let refers : Refers i past p q = refers_alike i (Started d paths ∷ past) past refl p q r in
      let on = is_leased_on (suc k) d past in
      let held = brought i (suc k) past in
      elim (grown_to on held paths p h) [
        | inl before ↦ to_grown on held paths q (inl (old.each p q before refers))
        | inr new ↦ (elim (right.covered q (step p q (right.needed p new.1) refers)) [
          | inl copied ↦ to_grown on held paths q (inr (new.0, copied))
          | inr already ↦ to_grown on held paths q (inl (subst (λ (n : ℕ). IsHeld i past n q) (sym (there new.0)) already))
        ])
      ];
}

-- a build brings its outputs, where the machine has what they refer to
pub built_whole : (i : Premises) (past : List Entry) (d : ℕ) (refs : List (List (List ℕ))) (k : ℕ) → IsLegal i (Built d refs ∷ past) → HoldsReferences i past (suc k)
    → (is_leased_on (suc k) d past ≡ true → (p q : List ℕ) → Contains (outputs_of i d) p → Refers i (Built d refs ∷ past) p q → Contains (brought i (suc k) past) q ⊎ Contains (outputs_of i d) q)
    → HoldsReferences i (Built d refs ∷ past) (suc k)
built_whole i past d refs k legal old provided = record {
  each = λ p q h r.
      let on = is_leased_on (suc k) d past in
      let held = brought i (suc k) past in
      elim (grown_to on held (outputs_of i d) p h) [
        | inl before ↦ to_grown on held (outputs_of i d) q
            (inl (old.each p q before (refers_before i past (Built d refs) legal.1 p q (brought_known i past legal.1 (suc k) p before) r)))
        | inr new ↦ (elim (provided new.0 p q new.1 r) [
          | inl there ↦ to_grown on held (outputs_of i d) q (inl there)
          | inr out ↦ to_grown on held (outputs_of i d) q (inr (new.0, out))
        ])
      ];
}
