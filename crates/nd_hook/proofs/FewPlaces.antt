-- The choice among a few places is the one among many, where the few hold each of these that is free.
use Rattle.std.proofs.Common.{ℕ, ◌<◌, Bool, List, get_or, Option, None, Some}
use Rattle.std.specs.Prelude.{All, Contains}
use Rattle.std.proofs.lemmas.List.Elements.{All-contains, All-from_get_or, Contains-get_or}
use Rattle.nd_machines.specs.Builders.{Builder}
use Rattle.nd_choose.specs.Best.{IsCandidate, IsChoice}
use Rattle.nd_hook.specs.Few.{HoldFree}

module _ (machines : List Builder) (loads : List ℕ) (ups : List Bool) (many few : List ℕ) (hold : HoldFree machines loads ups many few) where
  to_many : (p : ℕ) → IsCandidate machines loads ups (Contains few) p → IsCandidate machines loads ups (Contains many) p
  to_many p c = record { meant = hold.some p c.meant; free = c.free }

  to_few : (p : ℕ) → IsCandidate machines loads ups (Contains many) p → IsCandidate machines loads ups (Contains few) p
  to_few p c = record { meant = hold.free p c.meant c.free; free = c.free }

  pub chosen_of_many : (chosen : Option ℕ) → IsChoice machines loads ups (Contains few) chosen → IsChoice machines loads ups (Contains many) chosen
  chosen_of_many None none = λ p c. none p (to_few p c)
  chosen_of_many (Some best) is = record {
    candidate = to_many best is.candidate;
    first = λ other c differs. is.first other (to_few other c) differs;
  }

  -- the few are in range as the many are
  pub few_within : (n : ℕ) → All (λ (p : ℕ). p < n) many → All (λ (p : ℕ). p < n) few
  few_within n all = All-from_get_or (λ (p : ℕ). p < n) few 0 (λ i within. All-contains (λ (p : ℕ). p < n) many (get_or few i 0) all (hold.some (get_or few i 0) (Contains-get_or few i 0 within)))

-- the many stand for themselves
pub hold_themselves : (machines : List Builder) (loads : List ℕ) (ups : List Bool) (many : List ℕ) → HoldFree machines loads ups many many
hold_themselves machines loads ups many = record { some = λ p has. has; free = λ p has free. has }
