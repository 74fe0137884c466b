-- A free machine with what the choice's order asks of it, and the better of two.
-- No public clause cites this: it serves private clauses alone.
use Rattle.std.specs.Prelude.{◌≡◌, ◌⊎◌, ℕ, ◌<◌, ◌≤◌, Bool, List, Option, None, Some}
use Rattle.nd_machines.specs.Builders.{Builder}
use Rattle.nd_choose.specs.Order.{Beats}
use Rattle.nd_choose.specs.Best.{load_at, speed_at, IsFree}
use Rattle.nd_choose.specs.declared.contender.Contender.{Contender}

-- the contender is the machine at this place, which is free
pub record IsContender (machines : List Builder) (loads : List ℕ) (ups : List Bool) (place : ℕ) (contender : Contender) : Type 0 where
  pub free : IsFree machines loads ups place
  pub stands : contender.place ≡ place
  pub loaded : contender.load ≡ load_at loads place
  pub fast : contender.speed ≡ speed_at machines place
  pub moves : 0 < contender.speed

-- the later of two contenders is taken only where it beats the other
abbrev pub IsBetter : Option Contender → Contender → Contender → Type 0
IsBetter None next taken = taken ≡ next
IsBetter (Some best) next taken =
    (Beats next.load next.speed best.load best.speed × (taken ≡ next))
    ⊎ ((Beats next.load next.speed best.load best.speed → ⊥) × (taken ≡ best))

-- the best so far, after one more place was looked at
abbrev pub IsBetterAt : List Builder → List ℕ → List Bool → ℕ → Option Contender → Option Contender → Type 0
IsBetterAt machines loads ups place best None = (IsFree machines loads ups place → ⊥) × (best ≡ None)
IsBetterAt machines loads ups place best (Some taken) =
    ((IsFree machines loads ups place → ⊥) × (best ≡ Some taken))
    ⊎ ((next : Contender) × IsContender machines loads ups place next × IsBetter best next taken)

-- the machine at this place has no less load and no more speed than the best
pub record IsNoBetter (machines : List Builder) (loads : List ℕ) (place : ℕ) (best : Contender) : Type 0 where
  pub loaded : best.load ≤ load_at loads place
  pub slow : speed_at machines place ≤ best.speed
  pub moves : 0 < speed_at machines place
