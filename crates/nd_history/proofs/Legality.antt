-- What holds of every legal history: of leased, built and failed derivations, and of loads.
use Rattle.std.proofs.Common.{◌≡◌, ℕ, ◌<◌, Bool, true, false, not, ◌==◌, ◌&&◌, ◌||◌, List, [], ◌∷◌, ◌++◌, refl, sym, ◌∙◌, subst, arith, inl, inr}
use Rattle.std.proofs.lemmas.Grind.{common_steps}
use Rattle.std.proofs.lemmas.Bool.{cases_eq, ne_eqb, or_right, or_from}
use Rattle.std.specs.List.{list_any}
use Rattle.nd_history.specs.declared.entry.Entry.{Entry}
use Rattle.nd_history.specs.declared.entry.Entry.TheVariants.{Chosen, NoBuilder, Started, Down, Built, Failed, Stop, Drain, Enable}
use Rattle.nd_leases.specs.declared.ticket.Ticket.{Ticket}
use Rattle.nd_history.specs.Premises.{Premises}
use Rattle.nd_history.specs.History.{live, is_leased, is_built, is_failed, builds, fails}
use Rattle.nd_leases.specs.Tickets.{without}
use Rattle.nd_history.specs.Standing.{drvs_in, AreInputsBuilt, IsReady}
use Rattle.nd_history.specs.Legal.{IsLegal, IsAllowed}

-- a lease that was taken out is gone, and the others stay
pub gone : (d e : ℕ) (leases : List Ticket) → list_any (λ t. d == t.drv) (without e leases) ≡ (not (d == e) && list_any (λ t. d == t.drv) leases)
gone d e [] = elim (d == e) as (λ b. false ≡ (not b && false)) [ true ↦ refl | false ↦ refl ]
gone d e (t ∷ leases) = grind (arith, common_steps, gone d e leases)

both_true : (a b : Bool) → (not a && b) ≡ true → (a ≡ false) × (b ≡ true)
both_true true b h = cc
both_true false b h = (refl, h)

-- what is leased after an end of e is leased before it, and isn't e
pub other_lease : (d e : ℕ) (past : List Entry) → list_any (λ t. d == t.drv) (without e (live past)) ≡ true → ((d == e) ≡ false) × (is_leased d past ≡ true)
other_lease d e past h = both_true (d == e) (is_leased d past) (sym (gone d e (live past)) ∙ h)

-- what is so by one of two tests, and not by the first, is so by the second
pub rest_true : (a b : Bool) → a ≡ false → (a || b) ≡ true → b ≡ true
rest_true true b h k = cc
rest_true false b h k = k

-- a derivation that is leased and one that isn't are two
apart : (d e : ℕ) (past : List Entry) → is_leased d past ≡ true → is_leased e past ≡ false → (d == e) ≡ false
apart d e past leased free =
    elim (cases_eq d e) [
      | inl same ↦ let lease : is_leased e past ≡ true = subst (λ (x : ℕ). is_leased x past ≡ true) same leased in cc
      | inr other ↦ ne_eqb d e other
    ]

-- what d's inputs were when it was leased, and what was said of it: nothing
pub record IsFresh (i : Premises) (past : List Entry) (d : ℕ) : Type 0 where
  pub unbuilt : is_built d past ≡ false
  pub unfailed : is_failed d past ≡ false
  pub inputs : AreInputsBuilt i past d

inputs_stay : (i : Premises) (past : List Entry) (d : ℕ) (e : Entry) → AreInputsBuilt i past d → AreInputsBuilt i (e ∷ past) d
inputs_stay i past d e are = record { built = λ c h. or_right (builds c e) (is_built c past) (are.built c h) }

fresh_on : (i : Premises) (past : List Entry) (d : ℕ) (e : Entry) → builds d e ≡ false → fails d e ≡ false → IsFresh i past d → IsFresh i (e ∷ past) d
fresh_on i past d e b f fresh = record {
  unbuilt = or_from (builds d e) (is_built d past) b fresh.unbuilt;
  unfailed = or_from (fails d e) (is_failed d past) f fresh.unfailed;
  inputs = inputs_stay i past d e fresh.inputs;
}

ready_fresh : (i : Premises) (past : List Entry) (d : ℕ) → IsReady i past d → IsFresh i past d
ready_fresh i past d ready = record { unbuilt = ready.waiting.free.unbuilt; unfailed = ready.waiting.free.unfailed; inputs = ready.inputs }

-- a leased derivation is neither built nor failed, and its inputs are built
pub leased_fresh : (i : Premises) (past : List Entry) → IsLegal i past → (d : ℕ) → is_leased d past ≡ true → IsFresh i past d
leased_fresh i [] legal d leased = cc
leased_fresh i (Chosen e m s ∷ past) legal d leased =
    elim (cases_eq d e) [
      | inl same ↦ fresh_on i past d (Chosen e m s) refl refl (subst (IsFresh i past) (sym same) (ready_fresh i past e legal.0.may.ready))
      | inr other ↦ fresh_on i past d (Chosen e m s) refl refl (leased_fresh i past legal.1 d (rest_true (d == e) (is_leased d past) (ne_eqb d e other) leased))
    ]
leased_fresh i (NoBuilder e ∷ past) legal d leased =
    fresh_on i past d (NoBuilder e) refl (apart d e past leased legal.0.may.ready.waiting.free.unleased) (leased_fresh i past legal.1 d leased)
leased_fresh i (Started e paths ∷ past) legal d leased = fresh_on i past d (Started e paths) refl refl (leased_fresh i past legal.1 d leased)
leased_fresh i (Down e ∷ past) legal d leased =
    let other = other_lease d e past leased in
    fresh_on i past d (Down e) refl refl (leased_fresh i past legal.1 d other.1)
leased_fresh i (Built e refs ∷ past) legal d leased =
    let other = other_lease d e past leased in
    fresh_on i past d (Built e refs) other.0 refl (leased_fresh i past legal.1 d other.1)
leased_fresh i (Failed e why ∷ past) legal d leased =
    let other = other_lease d e past leased in
    fresh_on i past d (Failed e why) refl other.0 (leased_fresh i past legal.1 d other.1)
leased_fresh i (Stop ∷ past) legal d leased = fresh_on i past d Stop refl refl (leased_fresh i past legal.1 d leased)
leased_fresh i (Drain m ∷ past) legal d leased = fresh_on i past d (Drain m) refl refl (leased_fresh i past legal.1 d leased)
leased_fresh i (Enable m ∷ past) legal d leased = fresh_on i past d (Enable m) refl refl (leased_fresh i past legal.1 d leased)

-- what holds of a built derivation: it has not failed, and its inputs are built
pub record IsSettled (i : Premises) (past : List Entry) (d : ℕ) : Type 0 where
  pub unfailed : is_failed d past ≡ false
  pub inputs : AreInputsBuilt i past d

settled_on : (i : Premises) (past : List Entry) (d : ℕ) (e : Entry) → fails d e ≡ false → IsSettled i past d → IsSettled i (e ∷ past) d
settled_on i past d e f settled = record {
  unfailed = or_from (fails d e) (is_failed d past) f settled.unfailed;
  inputs = inputs_stay i past d e settled.inputs;
}

-- a derivation that is built and one that isn't are two
pub built_apart : (d e : ℕ) (past : List Entry) → is_built d past ≡ true → is_built e past ≡ false → (d == e) ≡ false
built_apart d e past built unbuilt =
    elim (cases_eq d e) [
      | inl same ↦ let too : is_built e past ≡ true = subst (λ (x : ℕ). is_built x past ≡ true) same built in cc
      | inr other ↦ ne_eqb d e other
    ]

-- a built derivation has not failed, and its inputs are built
pub built_settled : (i : Premises) (past : List Entry) → IsLegal i past → (d : ℕ) → is_built d past ≡ true → IsSettled i past d
built_settled i [] legal d built = cc
built_settled i (Built e refs ∷ past) legal d built =
    elim (cases_eq d e) [
      | inl same ↦
          let fresh = leased_fresh i past legal.1 e legal.0.may.live in
          let settled : IsSettled i past e = record { unfailed = fresh.unfailed; inputs = fresh.inputs } in
          settled_on i past d (Built e refs) refl (subst (IsSettled i past) (sym same) settled)
      | inr other ↦ settled_on i past d (Built e refs) refl (built_settled i past legal.1 d (rest_true (d == e) (is_built d past) (ne_eqb d e other) built))
    ]
built_settled i (Chosen e m s ∷ past) legal d built = settled_on i past d (Chosen e m s) refl (built_settled i past legal.1 d built)
built_settled i (NoBuilder e ∷ past) legal d built =
    settled_on i past d (NoBuilder e) (built_apart d e past built legal.0.may.ready.waiting.free.unbuilt) (built_settled i past legal.1 d built)
built_settled i (Started e paths ∷ past) legal d built = settled_on i past d (Started e paths) refl (built_settled i past legal.1 d built)
built_settled i (Down e ∷ past) legal d built = settled_on i past d (Down e) refl (built_settled i past legal.1 d built)
built_settled i (Failed e why ∷ past) legal d built =
    settled_on i past d (Failed e why) (built_apart d e past built (leased_fresh i past legal.1 e legal.0.may).unbuilt) (built_settled i past legal.1 d built)
built_settled i (Stop ∷ past) legal d built = settled_on i past d Stop refl (built_settled i past legal.1 d built)
built_settled i (Drain m ∷ past) legal d built = settled_on i past d (Drain m) refl (built_settled i past legal.1 d built)
built_settled i (Enable m ∷ past) legal d built = settled_on i past d (Enable m) refl (built_settled i past legal.1 d built)

-- a leased derivation is one of the graph
pub leased_ranged : (i : Premises) (past : List Entry) → IsLegal i past → (d : ℕ) → is_leased d past ≡ true → d < drvs_in i
leased_ranged i [] legal d leased = cc
leased_ranged i (Chosen e m s ∷ past) legal d leased =
    elim (cases_eq d e) [
      | inl same ↦ subst (λ (x : ℕ). x < drvs_in i) (sym same) legal.0.ranged.0
      | inr other ↦ leased_ranged i past legal.1 d (rest_true (d == e) (is_leased d past) (ne_eqb d e other) leased)
    ]
leased_ranged i (NoBuilder e ∷ past) legal d leased = leased_ranged i past legal.1 d leased
leased_ranged i (Started e paths ∷ past) legal d leased = leased_ranged i past legal.1 d leased
leased_ranged i (Down e ∷ past) legal d leased = leased_ranged i past legal.1 d (other_lease d e past leased).1
leased_ranged i (Built e refs ∷ past) legal d leased = leased_ranged i past legal.1 d (other_lease d e past leased).1
leased_ranged i (Failed e why ∷ past) legal d leased = leased_ranged i past legal.1 d (other_lease d e past leased).1
leased_ranged i (Stop ∷ past) legal d leased = leased_ranged i past legal.1 d leased
leased_ranged i (Drain m ∷ past) legal d leased = leased_ranged i past legal.1 d leased
leased_ranged i (Enable m ∷ past) legal d leased = leased_ranged i past legal.1 d leased

-- each entry of a legal history was allowed where it stands, and what came before it was legal
pub allowed_at : (i : Premises) (later before past : List Entry) (e : Entry) → past ≡ later ++ e ∷ before → IsLegal i past → IsAllowed i e before × IsLegal i before
allowed_at i [] before past e is legal = let P : List Entry → Type 0 = λ xs. IsLegal i xs in subst P is legal
allowed_at i (x ∷ later) before past e is legal =
    let P : List Entry → Type 0 = λ xs. IsLegal i xs in
    allowed_at i later before (later ++ e ∷ before) e refl (subst P is legal).1
