-- References between store paths after a history, the closures that they make, and what machines hold.
-- The histories of these definitions stand newest first.
--
-- References and closures: Dolstra, The Purely Functional Software Deployment Model (2006), section 5.2. That the references of
-- the bundle's given paths are those of the info table for good, and that the first build of a path decides its references, is this
-- project's own choice.
-- Public clauses cite this.
use Rattle.std.specs.Prelude.{◌≡◌, ℕ, zero, suc, Bool, ◌==◌, ◌&&◌, ◌⊎◌, if◌then◌else◌, true, Some, List, [], ◌∷◌, ◌++◌, length, slice_get}
use Rattle.std.specs.List.{Contains, list_any, slice_index_or, zip}
use Rattle.nd_graph.specs.declared.graph.Input.{Input}
use Rattle.nd_closure.specs.Tables.{refs_of}
use Rattle.nd_history.specs.declared.entry.Entry.{Entry}
use Rattle.nd_history.specs.declared.entry.Entry.TheVariants.{Chosen, NoBuilder, Started, Down, Built, Failed, Stop, Drain, Enable}
use Rattle.nd_history.specs.Premises.{Premises}
use Rattle.nd_history.specs.History.{live, is_built}

-- ---- sets that are closed under a relation

-- a path is reached from the seeds: the least set that holds the seeds and, with a path, each path that it refers to
pub data IsAlong (Refers : List ℕ → List ℕ → Type 0) (IsSeed : List ℕ → Type 0) : List ℕ → Type 0 where
  seed : (p : List ℕ) → IsSeed p → IsAlong Refers IsSeed p
  step : (p q : List ℕ) → IsAlong Refers IsSeed p → Refers p q → IsAlong Refers IsSeed q

-- ---- the graph's paths

-- the input sources of derivation d
abbrev pub sources_of : Premises → ℕ → List (List ℕ)
sources_of i d = slice_index_or i.graph.sources d []

-- the output paths of derivation d, in the order of the outputs' names
abbrev pub outputs_of : Premises → ℕ → List (List ℕ)
outputs_of i d = slice_index_or i.graph.outputs d []

-- the inputs of derivation d, with the outputs that it names of them
abbrev pub inputs_at : Premises → ℕ → List Input
inputs_at i d = slice_index_or i.graph.inputs d []

-- p is an output of derivation d
pub record IsOutputOf (i : Premises) (d : ℕ) (p : List ℕ) : Type 0 where
  pub listed : Contains (outputs_of i d) p

-- p is an input source of some derivation
pub record IsSource (i : Premises) (p : List ℕ) : Type 0 where
  pub drv : ℕ
  pub listed : Contains (sources_of i drv) p

-- p is an output that derivation d names of one of its inputs
pub record IsNamedBy (i : Premises) (d : ℕ) (p : List ℕ) : Type 0 where
  pub input : Input
  pub needed : Contains (inputs_at i d) input
  pub place : ℕ
  pub named : Contains input.outputs place
  pub path : slice_get (outputs_of i input.node) place ≡ Some p

-- ---- references

-- the given paths: the least set that holds every source and, with a path, what the info table lists for it
abbrev pub IsGiven : Premises → List ℕ → Type 0
IsGiven i p = IsAlong (λ q r. Contains (refs_of i.info q) r) (IsSource i) p

-- the outputs of the builds with the references that were reported for them, oldest build first, and those of a build in the
-- order of the outputs' names
abbrev pub reports : Premises → List Entry → List (List ℕ × List (List ℕ))
reports i [] = []
reports i (Built d refs ∷ past) = reports i past ++ zip (outputs_of i d) refs
reports i (Chosen d m s ∷ past) = reports i past
reports i (NoBuilder d ∷ past) = reports i past
reports i (Started d paths ∷ past) = reports i past
reports i (Down d ∷ past) = reports i past
reports i (Failed d why ∷ past) = reports i past
reports i (Stop ∷ past) = reports i past
reports i (Drain m ∷ past) = reports i past
reports i (Enable m ∷ past) = reports i past

-- p refers to q: where p is given, as the info table says; else as the first build that has p as an output reported for p's first
-- place among its outputs
pub data Refers (i : Premises) (past : List Entry) (p q : List ℕ) : Type 0 where
  listed : IsGiven i p → Contains (refs_of i.info p) q → Refers i past p q
  reported : (IsGiven i p → ⊥) → Contains (refs_of (reports i past) p) q → Refers i past p q

-- ---- closures

-- what derivation d needs at once: its sources and the outputs that it names of its inputs
abbrev pub IsNeededBy : Premises → ℕ → List ℕ → Type 0
IsNeededBy i d p = Contains (sources_of i d) p ⊎ IsNamedBy i d p

-- p is in the input closure of derivation d
abbrev pub IsInClosure : Premises → List Entry → ℕ → List ℕ → Type 0
IsInClosure i past d p = IsAlong (Refers i past) (IsNeededBy i d) p

-- ---- holdings

-- p is an output of a derivation that is built
pub record IsBuiltPath (i : Premises) (past : List Entry) (p : List ℕ) : Type 0 where
  pub drv : ℕ
  pub built : is_built drv past ≡ true
  pub output : IsOutputOf i drv p

-- the lease of d is on machine m
abbrev pub is_leased_on : ℕ → ℕ → List Entry → Bool
is_leased_on m d past = list_any (λ t. (m == t.machine) && (d == t.drv)) (live past)

-- what came to builder m: the paths copied for the builds that started on it, and the outputs of those that ended on it
abbrev pub brought : Premises → ℕ → List Entry → List (List ℕ)
brought i m [] = []
brought i m (Started d paths ∷ past) = if is_leased_on m d past then brought i m past ++ paths else brought i m past
brought i m (Built d refs ∷ past) = if is_leased_on m d past then brought i m past ++ outputs_of i d else brought i m past
brought i m (Chosen d n s ∷ past) = brought i m past
brought i m (NoBuilder d ∷ past) = brought i m past
brought i m (Down d ∷ past) = brought i m past
brought i m (Failed d why ∷ past) = brought i m past
brought i m (Stop ∷ past) = brought i m past
brought i m (Drain n ∷ past) = brought i m past
brought i m (Enable n ∷ past) = brought i m past

-- machine m holds p: the local one the least closed set over all sources and all built outputs, a builder what came to it
abbrev pub IsHeld : Premises → List Entry → ℕ → List ℕ → Type 0
IsHeld i past zero p = IsAlong (Refers i past) (λ q. IsSource i q ⊎ IsBuiltPath i past q) p
IsHeld i past (suc k) p = Contains (brought i (suc k) past) p

-- ---- the rules of copies and of reported references

-- copied paths are right for a lease of d on machine m: they lie in d's closure, which lies in what m holds together with them
pub record ArePathsRight (i : Premises) (past : List Entry) (d m : ℕ) (paths : List (List ℕ)) : Type 0 where
  pub needed : (p : List ℕ) → Contains paths p → IsInClosure i past d p
  pub covered : (p : List ℕ) → IsInClosure i past d p → Contains paths p ⊎ IsHeld i past m p

-- reported references are right for d: there is one list per output, and each reference lies in d's closure or is an output of d
pub record AreReferencesRight (i : Premises) (past : List Entry) (d : ℕ) (refs : List (List (List ℕ))) : Type 0 where
  pub sized : length refs ≡ length (outputs_of i d)
  pub within : (list : List (List ℕ)) (p : List ℕ) → Contains refs list → Contains list p → IsInClosure i past d p ⊎ IsOutputOf i d p
