-- A state without what is kept of references and holdings. The histories of these definitions stand newest first.
-- No public clause cites this: it serves private ones, and those of `nd_audit`.
use Rattle.nd_history.specs.declared.inputs.Inputs.{Inputs}
use Rattle.nd_provision.specs.Stored.{Stored}
use Rattle.nd_ledger.specs.Inner.{IsKept}
use Rattle.nd_ledger.specs.declared.state.State.{State}

-- the state follows a legal history of these inputs, after which something says what is referred to and held
pub record IsFollowed (inputs : Inputs) (s : State) : Type 0 where
  pub stores : Stored
  pub kept : IsKept (record { inputs = inputs; state = s; stores = stores })
