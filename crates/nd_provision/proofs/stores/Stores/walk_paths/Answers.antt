use Rattle.std.proofs.Common.{List, ℕ, map, subst}
use Rattle.nd_path_numbers.specs.Numbers.{path_in}
use Rattle.nd_closure.specs.Closures.{HoldsAll}
use Rattle.nd_history.specs.Premises.{premises_of}
use Rattle.nd_provision.specs.Stored.{AreNamed, IsBare, IsCovered, IsOutside, paths_on}
use Rattle.nd_provision.proofs.Storing.{extra_by, right_by, seen_on, uncovered_by}
use Rattle.nd_provision.proofs.stores.Stores.walk_paths.Goals as goal

pub returns-then-not-is_covered-clause-refused : goal.returns-then-not-is_covered-clause-refused
returns-then-not-is_covered-clause-refused c =
    let now = c.args.self.now in
    let closure : List (List ℕ) = c.in_ok-closure.closure in
    let P : List (List ℕ) → List (List ℕ) → List ℕ → Type 0 = λ xs paths numbers. AreNamed paths numbers → IsBare xs (map (path_in paths) numbers) c.args.paths.now in
    let bare = seen_on P _ now c.args.m c.held-held.result.now c.as_slice.result.now closure c.self.view_is c.held-held.ensures c.as_slice.ensures.value c.if-not-is_covered.ensures in
    uncovered_by (premises_of c.args.inputs.now) now c.args.drv c.args.m closure c.args.paths.now c.requires.machine c.in_ok-closure.ensures bare

pub returns-then-not-lie_in-clause-refused : goal.returns-then-not-lie_in-clause-refused
returns-then-not-lie_in-clause-refused c =
    let now = c.args.self.now in
    let closure : List (List ℕ) = c.in_ok-closure.closure in
    let P : List (List ℕ) → List (List ℕ) → List ℕ → Type 0 = λ xs paths numbers. IsCovered xs (map (path_in paths) numbers) c.args.paths.now in
    let covers : IsCovered closure (paths_on now c.args.m) c.args.paths.now = seen_on P _ now c.args.m c.held-held.result.now c.as_slice.result.now closure c.self.view_is c.held-held.ensures c.as_slice.ensures.value c.if-not-is_covered.ensures in
    let outside : IsOutside closure c.args.paths.now = subst (λ (xs : List (List ℕ)). IsOutside closure xs) c.as_slice-2.ensures.value c.if-not-lie_in.ensures in
    extra_by (premises_of c.args.inputs.now) now c.args.drv c.args.m closure c.args.paths.now c.requires.machine c.in_ok-closure.ensures covers outside

pub returns-clause-ok : goal.returns-clause-ok
returns-clause-ok c =
    let now = c.args.self.now in
    let closure : List (List ℕ) = c.in_ok-closure.closure in
    let P : List (List ℕ) → List (List ℕ) → List ℕ → Type 0 = λ xs paths numbers. IsCovered xs (map (path_in paths) numbers) c.args.paths.now in
    let covers : IsCovered closure (paths_on now c.args.m) c.args.paths.now = seen_on P _ now c.args.m c.held-held.result.now c.as_slice.result.now closure c.self.view_is c.held-held.ensures c.as_slice.ensures.value c.if-not-is_covered.ensures in
    let lie : HoldsAll closure c.args.paths.now = subst (λ (xs : List (List ℕ)). HoldsAll closure xs) c.as_slice-2.ensures.value c.if-not-lie_in.ensures in
    right_by (premises_of c.args.inputs.now) now c.args.drv c.args.m closure c.args.paths.now c.requires.machine c.in_ok-closure.ensures covers lie
