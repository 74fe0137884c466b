-- How far a graph of derivations is built: a mark on each node, and what follows from the marks for the nodes above.
-- Source: Nix Reference Manual, "Common Options", `--keep-going`: with it a failure stops only what depends on it, without it
-- everything. That leases which were begun are left to end is this project's own choice.
-- Public clauses cite this.
use Rattle.std.specs.Prelude.{◌≡◌, ◌<◌, ℕ, ◌⊎◌, Bool, true, false, List, Contains, length, replicate, slice_index_or}
use Rattle.nd_graph.specs.Walks.{inputs_of, IsBelow}
use Rattle.nd_failure.specs.declared.status.Mark.{Mark}
use Rattle.nd_failure.specs.declared.status.Mark.TheVariants.{Free, Leased, Built, Failed}

-- a board: per node the nodes that it needs, whether the others go on after a failure, the mark of each node
-- (the three sets leased, built and failed, none of which shares a node with another), and whether a stop was asked for
pub record Progress : Type 0 where
  pub inputs : List (List ℕ)
  pub keep_going : Bool
  pub marks : List Mark
  pub stop : Bool

abbrev pub mark_of : List Mark → ℕ → Mark
mark_of marks d = slice_index_or marks d Free

-- each input of node d is built
pub record HasInputsBuilt (inputs : List (List ℕ)) (marks : List Mark) (d : ℕ) : Type 0 where
  pub built : (c : ℕ) → Contains (inputs_of inputs d) c → mark_of marks c ≡ Built

-- a failed node is below node d: d depends on it, over one or more inputs
pub record HasFailedBelow (inputs : List (List ℕ)) (marks : List Mark) (d : ℕ) : Type 0 where
  pub node : ℕ
  pub below : IsBelow inputs d node
  pub failed : mark_of marks node ≡ Failed

-- some node has failed
pub record HasFailure (marks : List Mark) : Type 0 where
  pub node : ℕ
  pub failed : mark_of marks node ≡ Failed

-- no further lease is made: a stop was asked for, or a node has failed and the others don't go on
abbrev pub IsStopped : Progress → Type 0
IsStopped p = (p.stop ≡ true) ⊎ ((p.keep_going ≡ false) × HasFailure p.marks)

-- no mark stands on node d
abbrev pub IsFree : Progress → ℕ → Type 0
IsFree p d = mark_of p.marks d ≡ Free

abbrev pub IsLeased : Progress → ℕ → Type 0
IsLeased p d = mark_of p.marks d ≡ Leased

abbrev pub IsBuilt : Progress → ℕ → Type 0
IsBuilt p d = mark_of p.marks d ≡ Built

abbrev pub IsFailed : Progress → ℕ → Type 0
IsFailed p d = mark_of p.marks d ≡ Failed

-- node d is free and will never be begun
abbrev pub IsCancelled : Progress → ℕ → Type 0
IsCancelled p d = IsFree p d × (IsStopped p ⊎ HasFailedBelow p.inputs p.marks d)

-- node d is free and may still be begun
abbrev pub IsWaiting : Progress → ℕ → Type 0
IsWaiting p d = IsFree p d × (IsStopped p → ⊥) × (HasFailedBelow p.inputs p.marks d → ⊥)

-- node d can be begun at once
pub record IsReady (p : Progress) (d : ℕ) : Type 0 where
  pub node : d < length p.inputs
  pub waiting : IsWaiting p d
  pub inputs_built : HasInputsBuilt p.inputs p.marks d

-- a board on which nothing has happened yet
abbrev pub untouched : List (List ℕ) → Bool → Progress
untouched inputs keep_going = record { inputs = inputs; keep_going = keep_going; marks = replicate (length inputs) Free; stop = false }
