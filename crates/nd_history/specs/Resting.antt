-- What is left to do where no step is left. The histories of these definitions stand newest first.
-- Public clauses cite this.
use Rattle.std.specs.Prelude.{◌≡◌, ℕ, ◌<◌, List, []}
use Rattle.nd_history.specs.declared.entry.Entry.{Entry}
use Rattle.nd_history.specs.Premises.{Premises}
use Rattle.nd_history.specs.History.{live}
use Rattle.nd_history.specs.Standing.{drvs_in, IsWaiting}

-- where no lease is live nothing waits: each derivation is built, failed or cancelled
pub record WaitsForLeases (i : Premises) (past : List Entry) : Type 0 where
  pub idle : live past ≡ [] → (d : ℕ) → d < drvs_in i → IsWaiting i past d → ⊥
