-- What is kept beside the entries of references and holdings, so that closures and copies are found without a search of the history.
-- The histories of these definitions stand newest first.
-- Public clauses cite this, but `AreGivenEntries`, `AreNeeded`, `AreNeededIn`, `IsSeedRow`, `AreSeedsIn`, `IsClosureBy`, `IsCovered`, `IsBare`,
-- `IsOutside`, `AreAllWithin`, `IsStray`, `IsOnMachine`, `IsCoveredBy`, `AreRowsCovered`,
-- `AreListingsCovered`, `Lacks`, `HasEntered`, `IsNumberedGiven`, `IsNumberedBuild` and `HasRoomFor` serve private
-- clauses alone, as `is_quiet` does in `nd_ledger`, and `named_outputs` and `AreSources` serve proofs alone.
use Rattle.std.specs.Prelude.{◌≡◌, ◌≢◌, ℕ, ◌<◌, ◌≤◌, ◌↔◌, ◌⊎◌, IsTrue, Bool, true, false, List, [], ◌∷◌, ◌++◌, length, map, ◌==◌, ◌&&◌, if◌then◌else◌}
use Rattle.std.specs.List.{Contains, slice_index_or, zip}
use Rattle.std.specs.Bool.{MatchBool}
use Rattle.nd_path.specs.PathSets.{HasSameMembers}
use Rattle.nd_graph.specs.declared.graph.Input.{Input}
use Rattle.nd_graph.specs.Graphs.{Nodes}
use Rattle.nd_closure.specs.Tables.{is_listed, refs_of}
use Rattle.nd_provision.specs.Differences.{IsDifference}
use Rattle.nd_path_numbers.specs.Numbers.{Numbered, path_in, row_in, AreDistinct, AreKnown, AreNumbersOf, HasGrown, AreNumbered}
use Rattle.nd_path_numbers.specs.Held.{Hold, hold_of}
use Rattle.nd_path_numbers.specs.Searches.{IsCovered as IsCoveredIn}
use Rattle.nd_history.specs.declared.entry.Entry.{Entry}
use Rattle.nd_history.specs.declared.entry.Entry.TheVariants.{Started, Built}
use Rattle.nd_provision.specs.declared.copying.Listing.{Listing}
use Rattle.nd_provision.specs.declared.copying.Additions.{Additions}
use Rattle.nd_provision.specs.declared.copying.PathsError.{PathsError}
use Rattle.nd_provision.specs.declared.copying.PathsError.TheVariants.{Uncovered, Extra, Memory}
use Rattle.nd_history.specs.Premises.{Premises}
use Rattle.nd_history.specs.Choices.{machines_in}
use Rattle.nd_history.specs.References.{outputs_of, IsSource, IsGiven, reports, Refers, IsNeededBy, IsInClosure, IsHeld, ArePathsRight, AreReferencesRight}

-- a table of references with its reserved room, the numbers of paths with what they refer to, what each derivation needs at once and
-- what each machine holds, by number, and a word on that
pub record Stored : Type 0 where
  pub entries : List (List ℕ × List (List ℕ))
  pub spare : ℕ
  pub numbers : Numbered
  pub seeds : List (List ℕ)
  pub stocks : List Hold
  -- whether it is known that each machine holds, with a path, what the path refers to
  pub whole : Bool

-- the paths that machine m holds
abbrev pub paths_on : Stored → ℕ → List (List ℕ)
paths_on s m = map (path_in s.numbers.paths) (hold_of s.stocks m).numbers

-- the paths that derivation d needs at once
abbrev pub seeds_of : Stored → ℕ → List (List ℕ)
seeds_of s d = map (path_in s.numbers.paths) (row_in s.seeds d)

-- two tables say the same of every path
pub record LooksLike (table other : List (List ℕ × List (List ℕ))) : Type 0 where
  pub refs : (p : List ℕ) → refs_of table p ≡ refs_of other p
  pub listed : (p : List ℕ) → is_listed table p ≡ is_listed other p

-- a table of the given paths, with what the info table lists for them
pub record IsGivenTable (i : Premises) (given : List (List ℕ × List (List ℕ))) : Type 0 where
  pub listed : (p : List ℕ) → IsTrue (is_listed given p) ↔ IsGiven i p
  pub refs : (p : List ℕ) → IsGiven i p → HasSameMembers (refs_of given p) (refs_of i.info p)

-- the table says what each path refers to
pub record AreReferences (i : Premises) (past : List Entry) (table : List (List ℕ × List (List ℕ))) : Type 0 where
  pub given : List (List ℕ × List (List ℕ))
  pub base : IsGivenTable i given
  pub looks : LooksLike table (given ++ reports i past)

-- the sets say what each machine holds
pub record AreHoldings (i : Premises) (past : List Entry) (s : Stored) : Type 0 where
  pub park : length s.stocks ≡ machines_in i
  pub known : (m : ℕ) → AreKnown s.numbers.paths (hold_of s.stocks m).numbers
  pub held : (m : ℕ) → m < length s.stocks → (p : List ℕ) → Contains (paths_on s m) p ↔ IsHeld i past m p

-- these paths are all that derivation d needs at once
pub record AreNeeded (i : Premises) (d : ℕ) (paths : List (List ℕ)) : Type 0 where
  pub exact : (p : List ℕ) → Contains paths p ↔ IsNeededBy i d p

-- the numbers say what each derivation needs at once
pub record AreSeeds (i : Premises) (s : Stored) : Type 0 where
  pub known : (d : ℕ) → AreKnown s.numbers.paths (row_in s.seeds d)
  pub needed : (d : ℕ) → d < length i.graph.paths → AreNeeded i d (seeds_of s d)

-- with a path machine m holds what the path refers to
pub record HoldsReferences (i : Premises) (past : List Entry) (m : ℕ) : Type 0 where
  pub each : (p q : List ℕ) → IsHeld i past m p → Refers i past p q → IsHeld i past m q

pub record AreStored (i : Premises) (past : List Entry) (s : Stored) : Type 0 where
  pub references : AreReferences i past s.entries
  pub numbered : AreNumbered s.entries s.numbers
  pub seeds : AreSeeds i s
  pub holdings : AreHoldings i past s
  pub whole : IsTrue s.whole → (m : ℕ) → m < length s.stocks → HoldsReferences i past m

-- this is kept before the first entry, for any premises with this graph, as many builders and this info table
pub record IsFirstFor (graph : Nodes) (builders : ℕ) (info : List (List ℕ × List (List ℕ))) (s : Stored) : Type 0 where
  pub tells : (i : Premises) → i.graph ≡ graph → length i.machines ≡ builders → i.info ≡ info → AreStored i [] s

-- entries that say nothing of references or of what machines hold
abbrev pub is_quiet : Entry → Bool
is_quiet (Started d paths) = false
is_quiet (Built d refs) = false
is_quiet _ = true

-- the same, but for reserved room and for paths of which nothing is known but their numbers
pub record IsSameStored (old new : Stored) : Type 0 where
  pub entries : new.entries ≡ old.entries
  pub numbers : HasGrown old.numbers new.numbers
  pub seeds : new.seeds ≡ old.seeds
  pub park : length new.stocks ≡ length old.stocks
  pub held : (m : ℕ) → (hold_of new.stocks m).numbers ≡ (hold_of old.stocks m).numbers
  pub whole : new.whole ≡ old.whole

-- entries for these paths, in their order, each with the set of what a table lists for it
abbrev pub AreGivenEntries : List (List ℕ × List (List ℕ)) → List (List ℕ) → List (List ℕ × List (List ℕ)) → Type 0
AreGivenEntries info [] [] = Unit {0}
AreGivenEntries info [] (e ∷ entries) = ⊥
AreGivenEntries info (p ∷ paths) [] = ⊥
AreGivenEntries info (p ∷ paths) (e ∷ entries) = (e.0 ≡ p) × HasSameMembers (refs_of info p) e.1 × AreGivenEntries info paths entries

-- ---- what is found in them

-- the outputs that an input names
abbrev pub named_outputs : Nodes → Input → List (List ℕ)
named_outputs graph input = map (λ k. slice_index_or (slice_index_or graph.outputs input.node []) k []) input.outputs

-- these paths are all that derivation d needs at once, for any premises with this graph
pub record AreNeededIn (graph : Nodes) (d : ℕ) (paths : List (List ℕ)) : Type 0 where
  pub tells : (i : Premises) → i.graph ≡ graph → AreNeeded i d paths

-- a row says by number what a derivation of the graph needs at once, and rows do for each
pub record IsSeedRow (graph : Nodes) (paths : List (List ℕ)) (d : ℕ) (row : List ℕ) : Type 0 where
  pub known : AreKnown paths row
  pub needed : AreNeededIn graph d (map (path_in paths) row)

pub record AreSeedsIn (graph : Nodes) (paths : List (List ℕ)) (rows : List (List ℕ)) : Type 0 where
  pub each : (d : ℕ) → d < length rows → IsSeedRow graph paths d (row_in rows d)

-- these paths are all sources
pub record AreSources (i : Premises) (paths : List (List ℕ)) : Type 0 where
  pub exact : (p : List ℕ) → Contains paths p ↔ IsSource i p

-- these paths are the input closure of derivation d after each history of which this is kept
pub record IsClosureBy (i : Premises) (s : Stored) (d : ℕ) (paths : List (List ℕ)) : Type 0 where
  pub tells : (past : List Entry) → AreStored i past s → (p : List ℕ) → Contains paths p ↔ IsInClosure i past d p

-- these paths are those of d's closure that machine m doesn't hold
pub record IsMissing (i : Premises) (past : List Entry) (d m : ℕ) (paths : List (List ℕ)) : Type 0 where
  pub needed : (p : List ℕ) → Contains paths p → IsInClosure i past d p
  pub lacked : (p : List ℕ) → Contains paths p → IsHeld i past m p → ⊥
  pub all : (p : List ℕ) → IsInClosure i past d p → Contains paths p ⊎ IsHeld i past m p

pub record IsMissingBy (i : Premises) (s : Stored) (d m : ℕ) (paths : List (List ℕ)) : Type 0 where
  pub tells : (past : List Entry) → AreStored i past s → IsMissing i past d m paths

-- a path of d's closure is neither held on m nor copied
pub record IsUncovered (i : Premises) (past : List Entry) (d m : ℕ) (paths : List (List ℕ)) : Type 0 where
  pub path : List ℕ
  pub needed : IsInClosure i past d path
  pub lacked : IsHeld i past m path → ⊥
  pub uncopied : Contains paths path → ⊥

-- a copied path is outside d's closure, though nothing is lacking
pub record IsExtra (i : Premises) (past : List Entry) (d m : ℕ) (paths : List (List ℕ)) : Type 0 where
  pub covered : (p : List ℕ) → IsInClosure i past d p → Contains paths p ⊎ IsHeld i past m p
  pub path : List ℕ
  pub copied : Contains paths path
  pub unneeded : IsInClosure i past d path → ⊥

-- why copied paths aren't right; memory may be wanting at any point
abbrev pub IsPathsFault : Premises → List Entry → ℕ → ℕ → List (List ℕ) → PathsError → Type 0
IsPathsFault i past d m paths Uncovered = IsUncovered i past d m paths
IsPathsFault i past d m paths Extra = IsExtra i past d m paths
IsPathsFault i past d m paths Memory = Unit {0}

pub record ArePathsRightBy (i : Premises) (s : Stored) (d m : ℕ) (paths : List (List ℕ)) : Type 0 where
  pub tells : (past : List Entry) → AreStored i past s → ArePathsRight i past d m paths

pub record IsPathsFaultBy (i : Premises) (s : Stored) (d m : ℕ) (paths : List (List ℕ)) (fault : PathsError) : Type 0 where
  pub tells : (past : List Entry) → AreStored i past s → IsPathsFault i past d m paths fault

-- the answer is yes exactly where the references are right
pub record AreReferencesRightBy (i : Premises) (s : Stored) (d : ℕ) (refs : List (List (List ℕ))) (answer : Bool) : Type 0 where
  pub tells : (past : List Entry) → AreStored i past s → MatchBool answer (AreReferencesRight i past d refs) (AreReferencesRight i past d refs → ⊥)

-- each path of one list is among the paths of another or is held; or here is one that isn't
pub record IsCovered (closure held paths : List (List ℕ)) : Type 0 where
  pub each : (p : List ℕ) → Contains closure p → Contains paths p ⊎ Contains held p

pub record IsBare (closure held paths : List (List ℕ)) : Type 0 where
  pub path : List ℕ
  pub needed : Contains closure path
  pub lacked : Contains held path → ⊥
  pub uncopied : Contains paths path → ⊥

-- no path has two numbers, and what is held are numbers of paths
pub record AreNamed (paths : List (List ℕ)) (held : List ℕ) : Type 0 where
  pub distinct : AreDistinct paths
  pub known : AreKnown paths held

-- whether a path is held, by number
abbrev pub IsOnMachine : List (List ℕ) → List ℕ → List ℕ → Bool → Type 0
IsOnMachine paths held p answer = MatchBool answer (Contains (map (path_in paths) held) p) (AreNamed paths held → Contains (map (path_in paths) held) p → ⊥)

-- each path is copied or held, by number; or one isn't
abbrev pub IsCoveredBy : List (List ℕ) → List ℕ → List (List ℕ) → List (List ℕ) → Bool → Type 0
IsCoveredBy paths held closure copied answer = MatchBool answer (IsCovered closure (map (path_in paths) held) copied) (AreNamed paths held → IsBare closure (map (path_in paths) held) copied)

-- these are the paths that aren't held, by number
pub record Lacks (paths : List (List ℕ)) (held : List ℕ) (closure lacked : List (List ℕ)) : Type 0 where
  pub tells : AreNamed paths held → IsDifference closure (map (path_in paths) held) lacked

-- what each of these numbers refers to is held or one of the few, by number, and so is each row that is listed
pub record AreRowsCovered (rows : List (List ℕ)) (held few numbers : List ℕ) : Type 0 where
  pub each : (n : ℕ) → Contains numbers n → IsCoveredIn (row_in rows n) held few

pub record AreListingsCovered (listings : List Listing) (held few : List ℕ) : Type 0 where
  pub each : (l : Listing) → Contains listings l → IsCoveredIn l.row held few

pub record IsOutside (set paths : List (List ℕ)) : Type 0 where
  pub path : List ℕ
  pub there : Contains paths path
  pub out : Contains set path → ⊥

-- each path of these lists is in the set; or here is one that isn't
pub record AreAllWithin (set : List (List ℕ)) (lists : List (List (List ℕ))) : Type 0 where
  pub each : (list : List (List ℕ)) (p : List ℕ) → Contains lists list → Contains list p → Contains set p

pub record IsStray (set : List (List ℕ)) (lists : List (List (List ℕ))) : Type 0 where
  pub list : List (List ℕ)
  pub listed : Contains lists list
  pub path : List ℕ
  pub there : Contains list path
  pub out : Contains set path → ⊥

-- ---- what is added to them

-- what a table lists for these outputs is held, or among them
pub record AreRefsHeld (table : List (List ℕ × List (List ℕ))) (outputs held : List (List ℕ)) : Type 0 where
  pub each : (p q : List ℕ) → Contains outputs p → Contains (refs_of table p) q → Contains held q ⊎ Contains outputs q

-- a path and what it refers to, as an entry of a table
abbrev pub entry_of : Listing → List ℕ × List (List ℕ)
entry_of l = (l.path, l.refs)

-- the numbers beside a path and its references are theirs
pub record IsListing (paths : List (List ℕ)) (l : Listing) : Type 0 where
  pub known : l.number < length paths
  pub path : path_in paths l.number ≡ l.path
  pub row : AreKnown paths l.row
  pub refs : map (path_in paths) l.row ≡ l.refs

pub record AreListings (paths : List (List ℕ)) (listings : List Listing) : Type 0 where
  pub each : (l : Listing) → Contains listings l → IsListing paths l

-- these were entered in a table, and by number: of two entries for a path the first counts
pub record HasEntered (old new : List (List ℕ × List (List ℕ))) (before after : Numbered) (listings : List Listing) : Type 0 where
  pub looks : LooksLike new (old ++ map entry_of listings)
  pub paths : after.paths ≡ before.paths
  pub numbered : AreNumbered old before → AreNumbered new after

-- these additions are the given paths, with what the info table lists for them
pub record IsNumberedGiven (info : List (List ℕ × List (List ℕ))) (paths given : List (List ℕ)) (a : Additions) : Type 0 where
  pub entries : AreGivenEntries info given (map entry_of a.entries.items)
  pub listed : AreListings paths a.entries.items
  pub own : AreNumbersOf paths given a.own.items

-- these additions are outputs with their references, on machine m
pub record IsNumberedBuild (paths : List (List ℕ)) (m : ℕ) (outputs : List (List ℕ)) (refs : List (List (List ℕ))) (a : Additions) : Type 0 where
  pub machine : a.machine ≡ m
  pub entries : map entry_of a.entries.items ≡ zip outputs refs
  pub listed : AreListings paths a.entries.items
  pub own : AreNumbersOf paths outputs a.own.items
  pub brought : AreNumbersOf paths (if m == 0 then [] else outputs) a.brought.items

-- there is room for as many
pub record HasRoomFor (s : Stored) (a : Additions) : Type 0 where
  pub entries : length a.entries.items ≤ s.spare
  pub own : length a.own.items ≤ (hold_of s.stocks 0).spare
  pub brought : length a.brought.items ≤ (hold_of s.stocks a.machine).spare

-- where the answer is yes, machine m has what the outputs with these numbers refer to once these paths are entered, or it is among the outputs
pub record IsProvided (s : Stored) (m : ℕ) (own : List ℕ) (listings : List Listing) (answer : Bool) : Type 0 where
  pub held : AreNumbered s.entries s.numbers → IsTrue answer → AreRefsHeld (s.entries ++ map entry_of listings) (map (path_in s.numbers.paths) own) (paths_on s m)

-- there is room for these additions, and their numbers are known
pub record Fits (s : Stored) (a : Additions) : Type 0 where
  pub machine : a.machine < length s.stocks
  pub local : 0 < length s.stocks
  pub entries : length a.entries.items ≤ s.spare
  pub own : length a.own.items ≤ (hold_of s.stocks 0).spare
  pub brought : length a.brought.items ≤ (hold_of s.stocks a.machine).spare
  -- on the local machine there is nothing beside its own
  pub alone : a.machine ≡ 0 → length a.brought.items ≡ 0
  pub listings : AreListings s.numbers.paths a.entries.items
  pub own_known : AreKnown s.numbers.paths a.own.items
  pub brought_known : AreKnown s.numbers.paths a.brought.items
  pub provided : IsProvided s a.machine a.own.items a.entries.items a.provided

-- these numbers were added to what machine m holds
pub record HasGained (old new : List Hold) (m : ℕ) (numbers : List ℕ) : Type 0 where
  pub size : length new ≡ length old
  pub gained : (n : ℕ) → Contains (hold_of new m).numbers n ↔ Contains (hold_of old m).numbers n ⊎ Contains numbers n
  pub others : (k : ℕ) → k ≢ m → hold_of new k ≡ hold_of old k

-- the additions were taken in
pub record HasTaken (old new : Stored) (a : Additions) : Type 0 where
  pub entered : HasEntered old.entries new.entries old.numbers new.numbers a.entries.items
  pub seeds : new.seeds ≡ old.seeds
  pub between : List Hold
  pub own : HasGained old.stocks between 0 a.own.items
  pub brought : HasGained between new.stocks a.machine a.brought.items
  pub own_known : AreKnown old.numbers.paths a.own.items
  pub brought_known : AreKnown old.numbers.paths a.brought.items
  pub whole : new.whole ≡ (old.whole && a.provided)
  pub provided : IsProvided old a.machine a.own.items a.entries.items a.provided

-- the additions of a start on machine m: the copied paths, on a builder
pub record AreStartAdditions (s : Stored) (m : ℕ) (paths : List (List ℕ)) (a : Additions) : Type 0 where
  pub machine : a.machine ≡ m
  pub entries : a.entries.items ≡ []
  pub own : a.own.items ≡ []
  pub brought : map (path_in s.numbers.paths) a.brought.items ≡ (if m == 0 then [] else paths)

-- the additions of a build on machine m: the outputs with their references, held by the local machine and by a builder
pub record AreBuiltAdditions (i : Premises) (s : Stored) (d m : ℕ) (refs : List (List (List ℕ))) (a : Additions) : Type 0 where
  pub machine : a.machine ≡ m
  pub entries : map entry_of a.entries.items ≡ zip (outputs_of i d) refs
  pub own : map (path_in s.numbers.paths) a.own.items ≡ outputs_of i d
  pub brought : map (path_in s.numbers.paths) a.brought.items ≡ (if m == 0 then [] else outputs_of i d)
