-- There is one best machine, and it depends on which machines are meant and not on how that is said.
use Rattle.std.proofs.Common.{◌≡◌, inl, inr, ℕ, Bool, List, Option, None, Some, refl, sym, ap, arith}
use Rattle.std.specs.Prelude.{Contains}
use Rattle.std.proofs.lemmas.Bool.{cases_eq}
use Rattle.nd_machines.specs.Builders.{Builder}
use Rattle.nd_eligible.specs.Eligibility.{IsEligibleAt}
use Rattle.nd_choose.specs.Order.{IsAsLight, Beats}
use Rattle.nd_choose.specs.Best.{load_at, speed_at, IsCandidate, ComesBefore, IsBest, IsChoice}
use Rattle.nd_choose.specs.SameChoice.{SameChoice}
use Rattle.nd_choose.proofs.Choosing.{best_along}

-- two don't come before each other
beats_one_way : (la sa lb sb : ℕ) → Beats la sa lb sb → Beats lb sb la sa → ⊥
beats_one_way la sa lb sb (inl h) (inl k) = omega (arith, h, k)
beats_one_way la sa lb sb (inl h) (inr k) = omega (arith, h, k.0)
beats_one_way la sa lb sb (inr h) (inl k) = omega (arith, h.0, k)
beats_one_way la sa lb sb (inr h) (inr k) = omega (arith, h.1, k.1)

tied_one_way : (la sa lb sb : ℕ) → Beats la sa lb sb → IsAsLight lb sb la sa → sb ≡ sa → ⊥
tied_one_way la sa lb sb (inl h) k same = omega (arith, h, k)
tied_one_way la sa lb sb (inr h) k same = omega (arith, h.1, same)

comes_one_way : (machines : List Builder) (loads : List ℕ) (m n : ℕ) → ComesBefore machines loads m n → ComesBefore machines loads n m → ⊥
comes_one_way machines loads m n (inl h) (inl k) = beats_one_way (load_at loads m) (speed_at machines m) (load_at loads n) (speed_at machines n) h k
comes_one_way machines loads m n (inl h) (inr k) = tied_one_way (load_at loads m) (speed_at machines m) (load_at loads n) (speed_at machines n) h k.0 k.1
comes_one_way machines loads m n (inr h) (inl k) = tied_one_way (load_at loads n) (speed_at machines n) (load_at loads m) (speed_at machines m) k h.0 h.1
comes_one_way machines loads m n (inr h) (inr k) = omega (arith, h.2, k.2)

pub one_best : (machines : List Builder) (loads : List ℕ) (ups : List Bool) (P : ℕ → Type 0) (m n : ℕ)
    → IsBest machines loads ups P m → IsBest machines loads ups P n → m ≡ n
one_best machines loads ups P m n h k = elim (cases_eq m n) [
  | inl same ↦ same
  | inr differ ↦ absurd (comes_one_way machines loads m n (h.first n k.candidate (λ e. differ (sym e))) (k.first m h.candidate differ))
]

pub one_choice : (machines : List Builder) (loads : List ℕ) (ups : List Bool) (P : ℕ → Type 0) (one other : Option ℕ)
    → IsChoice machines loads ups P one → IsChoice machines loads ups P other → one ≡ other
one_choice machines loads ups P None None h k = refl
one_choice machines loads ups P None (Some n) h k = absurd (h n k.candidate)
one_choice machines loads ups P (Some m) None h k = absurd (k m h.candidate)
one_choice machines loads ups P (Some m) (Some n) h k = ap Some (one_best machines loads ups P m n h k)

candidate_as : (machines : List Builder) (loads : List ℕ) (ups : List Bool) (P Q : ℕ → Type 0) → ((n : ℕ) → P n → Q n) → (n : ℕ)
    → IsCandidate machines loads ups P n → IsCandidate machines loads ups Q n
candidate_as machines loads ups P Q f n c = record { meant = f n c.meant; free = c.free }

pub choice_along : (machines : List Builder) (loads : List ℕ) (ups : List Bool) (P Q : ℕ → Type 0) → ((n : ℕ) → P n → Q n) → ((n : ℕ) → Q n → P n) → (one : Option ℕ)
    → IsChoice machines loads ups P one → IsChoice machines loads ups Q one
choice_along machines loads ups P Q f g None h = λ n c. h n (candidate_as machines loads ups Q P g n c)
choice_along machines loads ups P Q f g (Some m) h = best_along machines loads ups P Q f g m h

pub same_choice : SameChoice
same_choice machines loads ups need places eligible among whole h k =
    one_choice machines loads ups (IsEligibleAt machines need) among whole
    (choice_along machines loads ups (Contains places) (IsEligibleAt machines need) (λ n. (eligible.exact n).0) (λ n. (eligible.exact n).1) among h) k
