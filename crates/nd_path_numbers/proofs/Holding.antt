-- Machines that are added one by one, copies of them, and membership by a test.
use Rattle.std.proofs.Common.{◌≡◌, ℕ, zero, suc, List, [], ◌∷◌, ◌++◌, refl, ap, ◌∙◌, ◌==◌, IsTrue, eq-eqb}
use Rattle.std.specs.Prelude.{◌↔◌}
use Rattle.std.specs.List.{AllZip, Contains}
use Rattle.std.proofs.lemmas.Bool.{eqb-true}
use Rattle.std.proofs.lemmas.List.Folds.{list_any_at}
use Rattle.indexmap.proofs.CallerLemmas.{Contains-list_any}
use Rattle.nd_path_numbers.specs.Held.{Hold, is_among, hold_of, HoldTheSame}

-- the test of a number against a list is membership
pub member_by_test : (numbers : List ℕ) (n : ℕ) → IsTrue (is_among numbers n) ↔ Contains numbers n
member_by_test numbers n = (
  λ h. Contains-list_any (λ a b. a == b) eqb-true numbers n h,
  λ h. list_any_at (λ k. n == k) numbers h.0 n h.1 (ap (λ k. n == k) h.2 ∙ eq-eqb n n refl),
)

-- one more machine with nothing held
pub nothing_more : (holds : List Hold) (s : Hold) → ((m : ℕ) → (hold_of holds m).numbers ≡ []) → s.numbers ≡ [] → (m : ℕ) → (hold_of (holds ++ s ∷ []) m).numbers ≡ []
nothing_more [] s none here zero = here
nothing_more [] s none here (suc m) = refl
nothing_more (t ∷ holds) s none here zero = none 0
nothing_more (t ∷ holds) s none here (suc m) = nothing_more holds s (λ k. none (suc k)) here m

-- machines whose copies hold the same
pub same_by_each : (holds others : List Hold) → AllZip (λ (s t : Hold). t.numbers ≡ s.numbers) holds others → HoldTheSame holds others
same_by_each [] [] h = record { size = refl; numbers = λ m. refl }
same_by_each [] (t ∷ others) h = absurd h
same_by_each (s ∷ holds) [] h = absurd h
same_by_each (s ∷ holds) (t ∷ others) h =
    let rest = same_by_each holds others h.1 in
    record { size = ap suc rest.size; numbers = at s t holds others h.0 rest.numbers }
  where
    at : (s t : Hold) (holds others : List Hold) → t.numbers ≡ s.numbers → ((m : ℕ) → (hold_of others m).numbers ≡ (hold_of holds m).numbers) → (m : ℕ) → (hold_of (t ∷ others) m).numbers ≡ (hold_of (s ∷ holds) m).numbers
    at s t holds others here rest zero = here
    at s t holds others here rest (suc m) = rest m
