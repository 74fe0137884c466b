-- When a kind goes on waiting. The histories of these definitions stand newest first. The rules of waiting are this project's own choice.
-- Public clauses cite this.
use Rattle.std.specs.Prelude.{◌≡◌, ◌<◌, ◌≤◌, ℕ, List, Contains, length}
use Rattle.nd_hook.specs.declared.kinds.Decision.TheVariants.{Wait}
use Rattle.nd_kinds.specs.declared.kind.Kind.{Kind}
use Rattle.nd_kinds.specs.Kinds.{MayUse}
use Rattle.nd_history.specs.declared.entry.Entry.{Entry}
use Rattle.nd_history.specs.Premises.{Premises}
use Rattle.nd_history.specs.History.{load, is_up}
use Rattle.nd_pump.specs.Decided.{HasKindDecision}

-- machine m is up or down as before, and no less loaded
pub record IsSteady (past later : List Entry) (m : ℕ) : Type 0 where
  pub up : is_up m later ≡ is_up m past
  pub load : load m past ≤ load m later

-- each machine that the kind may use is
pub record IsUnmoved (past later : List Entry) (kind : Kind) : Type 0 where
  pub each : (m : ℕ) → MayUse kind m → IsSteady past later m

-- the places of the kind lie in a list of n machines
pub record LiesIn (n : ℕ) (kind : Kind) : Type 0 where
  pub each : (p : ℕ) → Contains kind.places p → p < n

-- a kind that is to wait is to wait after a later history, where its machines are unmoved
pub record WaitingGoesOn : Type 0 where
  pub goes_on : (i : Premises) (past later : List Entry) (kind : Kind) → LiesIn (length i.machines) kind → IsUnmoved past later kind
      → HasKindDecision i past kind Wait → HasKindDecision i later kind Wait
