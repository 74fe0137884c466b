-- The steps of a pump: choices, and derivations that nothing can build. The histories of these definitions stand newest
-- first, but for those of `ArePumpSteps`.
-- Public clauses cite this, but `is_open` serves proofs alone.
use Rattle.std.specs.Prelude.{◌≡◌, ℕ, ◌<◌, Bool, not, ◌||◌, length, List, [], ◌∷◌, ◌++◌, reverse, Option, Some, None, MatchOption}
use Rattle.nd_hook.specs.declared.kinds.Decision.{Decision}
use Rattle.nd_hook.specs.declared.kinds.Decision.TheVariants.{Wait}
use Rattle.nd_history.specs.declared.entry.Entry.{Entry}
use Rattle.nd_history.specs.declared.entry.Entry.TheVariants.{Chosen, NoBuilder, Started, Down, Built, Failed, Stop, Drain, Enable}
use Rattle.nd_history.specs.Premises.{Premises}
use Rattle.nd_history.specs.History.{is_built, is_failed, is_leased}
use Rattle.nd_history.specs.Standing.{IsReady}
use Rattle.nd_history.specs.Choices.{HasDecision}
use Rattle.nd_history.specs.Legal.{IsAllowed}

-- the derivation that a step is about; other entries are no steps
abbrev pub step_drv : Entry → Option ℕ
step_drv (Chosen d m s) = Some d
step_drv (NoBuilder d) = Some d
step_drv (Started d paths) = None
step_drv (Down d) = None
step_drv (Built d refs) = None
step_drv (Failed d why) = None
step_drv Stop = None
step_drv (Drain m) = None
step_drv (Enable m) = None

-- e is the legal choice of derivation d, or says legally that nothing can build it
pub record IsStepOf (i : Premises) (past : List Entry) (d : ℕ) (e : Entry) : Type 0 where
  pub about : step_drv e ≡ Some d
  pub allowed : IsAllowed i e past

-- there is no step about derivation d: it isn't ready, or it is to wait
pub record IsAtRest (i : Premises) (past : List Entry) (d : ℕ) : Type 0 where
  pub rests : (e : Entry) → IsStepOf i past d e → ⊥
  pub waits : IsReady i past d → HasDecision i past d Wait

-- what a decision about derivation d leads to: its step, or none where it is to wait
abbrev pub IsStepAsDecided : Premises → List Entry → ℕ → Decision → Option Entry → Type 0
IsStepAsDecided i past d decision answer = MatchOption answer (decision ≡ Wait) (IsStepOf i past d)

-- there is no step left
pub record AreAtRest (i : Premises) (past : List Entry) : Type 0 where
  pub each : (d : ℕ) → IsAtRest i past d

-- e is the step of the first derivation, in the order of the bundle, that has one
pub record IsPumpStep (i : Premises) (past : List Entry) (e : Entry) : Type 0 where
  pub drv : ℕ
  pub step : IsStepOf i past drv e
  pub first : (k : ℕ) → k < drv → IsAtRest i past k

-- the next step of a pump, or none where there is no step left
abbrev pub IsNextStep : Premises → List Entry → Option Entry → Type 0
IsNextStep i past answer = MatchOption answer (AreAtRest i past) (IsPumpStep i past)

-- the steps after a history, which stands oldest first as they do: each is the pump step of what stands before it
abbrev pub ArePumpSteps : Premises → List Entry → List Entry → Type 0
ArePumpSteps i history [] = Unit {0}
ArePumpSteps i history (e ∷ steps) = IsPumpStep i (reverse history) e × ArePumpSteps i (history ++ e ∷ []) steps

-- the history grew by pump steps alone; both stand oldest first
pub record HasPumped (i : Premises) (old new : List Entry) : Type 0 where
  pub steps : List Entry
  pub grown : new ≡ old ++ steps
  pub each : ArePumpSteps i old steps

-- .. by n of them
pub record HasPumpedBy (i : Premises) (old new : List Entry) (n : ℕ) : Type 0 where
  pub pumped : HasPumped i old new
  pub count : length pumped.steps ≡ n

-- nothing has been said of derivation d
abbrev pub is_open : List Entry → ℕ → Bool
is_open past d = not (is_built d past || (is_failed d past || is_leased d past))
