-- Whether the local machine may build a derivation on an idle park is so or not so.
use Rattle.std.proofs.Common.{◌≡◌, ◌⊎◌, ℕ, Bool, ◌&&◌, ◌||◌, List, get_or, refl, arith, IsTrue}
use Rattle.std.specs.Bool.{Decides}
use Rattle.std.specs.List.{All, Contains, list_all}
use Rattle.std.proofs.lemmas.Bool.Decides.{Decides-and, Decides-or, Decides-like, Decides-ltb, Decides-by_and}
use Rattle.std.proofs.lemmas.List.Elements.{All-contains, Contains-get_or}
use Rattle.std.proofs.lemmas.Map.Made.{is_member-Decides}
use Rattle.std.proofs.lemmas.Slice.Eq.{bytes_eq-Decides}
use Rattle.nd_eligible.specs.Settings.{Settings}
use Rattle.nd_eligible.specs.declared.need.Need.{Need}
use Rattle.nd_eligible.specs.Eligibility.{IsSubset, BuildsLocally, LocalOk}
use Rattle.nd_hook.specs.Idle.{IsFreeHere}

-- a fact that a test decides
pub record Decided (P : Type 0) : Type 0 where
  pub test : Bool
  pub says : Decides test P

either : {P Q : Type 0} → Decided P → Decided Q → Decided (P ⊎ Q)
either one other = record { test = one.test || other.test; says = Decides-or one.test other.test one.says other.says }

both : {P Q : Type 0} → Decided P → Decided Q → Decided (P × Q)
both one other = record { test = one.test && other.test; says = Decides-and one.test other.test one.says other.says }

like : {P Q : Type 0} → (P → Q) → (Q → P) → Decided P → Decided Q
like to from one = record { test = one.test; says = Decides-like one.test to from one.says }

same : (xs ys : List ℕ) → Decided (xs ≡ ys)
same xs ys = record { test = _; says = bytes_eq-Decides xs ys }

member : (items : List (List ℕ)) (item : List ℕ) → Decided (Contains items item)
member items item = record { test = _; says = is_member-Decides bytes_eq-Decides items item }

all : {X : Type 0} (P : X → Type 0) (each : (x : X) → Decided (P x)) (xs : List X) → Decided (All P xs)
all P each xs = record {
  test = list_all (λ x. (each x).test) xs;
  says = Decides-by_and (λ x. (each x).test) P (list_all (λ x. (each x).test)) (λ x. (each x).says) refl (λ _ _. refl) xs;
}

subset : (items others : List (List ℕ)) → Decided (IsSubset items others)
subset items others =
    like (λ every. record { each = λ item is. All-contains (Contains others) items item every is })
    (λ is k d within. is.each (get_or items k d) (Contains-get_or items k d within))
    (all (Contains others) (member others) items)

flag : (b : Bool) → Decided (IsTrue b)
flag b = record { test = b; says = (λ is. is, λ is. is) }

builds : (local : Settings) (need : Need) → Decided (BuildsLocally local need)
builds local need = either (same need.system local.system) (either (member local.extra need.system) (flag need.builtin))

may : (local : Settings) (need : Need) → Decided (LocalOk local need)
may local need =
    like (λ is. record { system = is.0; required = is.1 }) (λ is. (is.system, is.required))
    (both (builds local need) (subset need.features local.features))

pub free_here : (local : Settings) (need : Need) → Decided (IsFreeHere local need)
free_here local need =
    like (λ is. record { may = is.0; slot = omega (arith, is.1) }) (λ is. (is.may, omega (arith, is.slot)))
    (both (may local need) (record { test = _; says = Decides-ltb 0 local.jobs }))
