-- Where a derivation stands after a history: waiting, ready, leased, built, failed or cancelled.
-- The histories of these definitions stand newest first.
--
-- That a failure cancels what depends on it, and everything that waits without keep-going, is the rule of Nix
-- (Nix Reference Manual, "nix-build", the option `--keep-going`).
-- Public clauses cite this.
use Rattle.std.specs.Prelude.{◌≡◌, ℕ, ◌<◌, ◌⊎◌, true, false, List, length, Contains}
use Rattle.nd_graph.specs.Graphs.{rows_of}
use Rattle.nd_graph.specs.Walks.{inputs_of, IsBelow}
use Rattle.nd_history.specs.declared.entry.Entry.{Entry}
use Rattle.nd_history.specs.Premises.{Premises}
use Rattle.nd_history.specs.History.{is_built, is_failed, is_leased, is_stopped}

-- the number of derivations
abbrev pub drvs_in : Premises → ℕ
drvs_in i = length (rows_of i.graph)

-- the derivations that d needs
abbrev pub needed_by : Premises → ℕ → List ℕ
needed_by i d = inputs_of (rows_of i.graph) d

-- a derivation that d depends on failed, over one or more inputs
pub record HasFailedBelow (i : Premises) (past : List Entry) (d : ℕ) : Type 0 where
  pub node : ℕ
  pub below : IsBelow (rows_of i.graph) d node
  pub failed : is_failed node past ≡ true

-- nothing has been said of d: it is neither built nor failed nor leased
pub record IsOpen (past : List Entry) (d : ℕ) : Type 0 where
  pub unbuilt : is_built d past ≡ false
  pub unfailed : is_failed d past ≡ false
  pub unleased : is_leased d past ≡ false

-- d will never be begun
abbrev pub IsDoomed : Premises → List Entry → ℕ → Type 0
IsDoomed i past d = (is_stopped i.keep_going past ≡ true) ⊎ HasFailedBelow i past d

-- d waits: nothing has been said of it, and it may still be begun
pub record IsWaiting (i : Premises) (past : List Entry) (d : ℕ) : Type 0 where
  pub free : IsOpen past d
  pub spared : IsDoomed i past d → ⊥

-- each input of d is built
pub record AreInputsBuilt (i : Premises) (past : List Entry) (d : ℕ) : Type 0 where
  pub built : (c : ℕ) → Contains (needed_by i d) c → is_built c past ≡ true

-- d can be begun at once
pub record IsReady (i : Premises) (past : List Entry) (d : ℕ) : Type 0 where
  pub node : d < drvs_in i
  pub waiting : IsWaiting i past d
  pub inputs : AreInputsBuilt i past d
