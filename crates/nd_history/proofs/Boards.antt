-- A board that follows a legal history says what the history says: of what is ready, of each status and of the counts.
use Rattle.std.proofs.Common.{◌≡◌, ◌↔◌, ℕ, ◌<◌, ◌≤◌, Bool, true, false, not, ◌==◌, ◌&&◌, ◌||◌, if◌then◌else◌, List, [], ◌∷◌, length, Contains, refl, sym, ap, ◌∙◌, subst, arith, inl, inr, eq-eqb}
use Rattle.std.proofs.lemmas.Bool.{cases_lt, cases_eq, ne_eqb, false_from_ne_true, or_cases, or_left, or_right}
use Rattle.std.proofs.lemmas.List.{get_or_past}
use Rattle.std.specs.Bool.{MatchBool}
use Rattle.std.specs.List.{list_any}
use Rattle.nd_graph.specs.Walks.{inputs_of, IsBelow}
use Rattle.nd_failure.specs.declared.status.Counts.{Counts}
use Rattle.nd_failure.specs.declared.status.Mark.{Mark}
use Rattle.nd_failure.specs.declared.status.Mark.TheVariants as mark
use Rattle.nd_failure.specs.declared.status.Status.{Status}
use Rattle.nd_failure.specs.declared.status.Status.TheVariants as status
use Rattle.nd_failure.specs.Progress as board
use Rattle.nd_failure.specs.Progress.{Progress, mark_of, IsStopped, IsFree, IsLeased}
use Rattle.nd_failure.specs.Statuses.{HasStatus, AreCounts}
use Rattle.nd_history.specs.declared.entry.Entry.{Entry}
use Rattle.nd_history.specs.declared.entry.Entry.TheVariants.{Chosen, NoBuilder, Started, Down, Built, Failed, Stop, Drain, Enable}
use Rattle.nd_history.specs.Premises.{Premises}
use Rattle.nd_history.specs.History.{is_built, is_failed, is_leased, is_stopped, has_stop, fails, is_failure}
use Rattle.nd_history.specs.Standing.{drvs_in, HasFailedBelow, IsOpen, IsReady}
use Rattle.nd_history.specs.Statuses.{HasStatusIn, AreCountsIn}
use Rattle.nd_history.specs.Legal.{IsLegal, IsAllowed}
use Rattle.nd_history.proofs.Legality.{leased_fresh, leased_ranged, built_settled, rest_true}
use Rattle.nd_history.specs.Marks.{mark_in, AreMarked, CanFollow}

-- ---- nothing is said of a number that is no derivation

-- said of the newest entry's derivation, or before
newest_or : (i : Premises) (d e : ℕ) (b : Bool) → e < drvs_in i → ((d == e) || b) ≡ true → (b ≡ true → d < drvs_in i) → d < drvs_in i
newest_or i d e b lt h rest =
    elim (cases_eq d e) [
      | inl same ↦ subst (λ (x : ℕ). x < drvs_in i) (sym same) lt
      | inr other ↦ rest (rest_true (d == e) b (ne_eqb d e other) h)
    ]

built_ranged : (i : Premises) (past : List Entry) → IsLegal i past → (d : ℕ) → is_built d past ≡ true → d < drvs_in i
built_ranged i [] legal d h = cc
built_ranged i (Built e refs ∷ past) legal d h = newest_or i d e (is_built d past) legal.0.ranged h (built_ranged i past legal.1 d)
built_ranged i (Chosen e m s ∷ past) legal d h = built_ranged i past legal.1 d h
built_ranged i (NoBuilder e ∷ past) legal d h = built_ranged i past legal.1 d h
built_ranged i (Started e paths ∷ past) legal d h = built_ranged i past legal.1 d h
built_ranged i (Down e ∷ past) legal d h = built_ranged i past legal.1 d h
built_ranged i (Failed e why ∷ past) legal d h = built_ranged i past legal.1 d h
built_ranged i (Stop ∷ past) legal d h = built_ranged i past legal.1 d h
built_ranged i (Drain m ∷ past) legal d h = built_ranged i past legal.1 d h
built_ranged i (Enable m ∷ past) legal d h = built_ranged i past legal.1 d h

pub failed_ranged : (i : Premises) (past : List Entry) → IsLegal i past → (d : ℕ) → is_failed d past ≡ true → d < drvs_in i
failed_ranged i [] legal d h = cc
failed_ranged i (Failed e why ∷ past) legal d h = newest_or i d e (is_failed d past) legal.0.ranged h (failed_ranged i past legal.1 d)
failed_ranged i (NoBuilder e ∷ past) legal d h = newest_or i d e (is_failed d past) legal.0.ranged h (failed_ranged i past legal.1 d)
failed_ranged i (Chosen e m s ∷ past) legal d h = failed_ranged i past legal.1 d h
failed_ranged i (Started e paths ∷ past) legal d h = failed_ranged i past legal.1 d h
failed_ranged i (Down e ∷ past) legal d h = failed_ranged i past legal.1 d h
failed_ranged i (Built e refs ∷ past) legal d h = failed_ranged i past legal.1 d h
failed_ranged i (Stop ∷ past) legal d h = failed_ranged i past legal.1 d h
failed_ranged i (Drain m ∷ past) legal d h = failed_ranged i past legal.1 d h
failed_ranged i (Enable m ∷ past) legal d h = failed_ranged i past legal.1 d h

-- ---- marks and what they say

abbrev of_flags : Bool → Bool → Bool → Mark
of_flags b f l = if b then mark.Built else if f then mark.Failed else if l then mark.Leased else mark.Free

built_from : (b f l : Bool) → of_flags b f l ≡ mark.Built → b ≡ true
built_from true f l h = refl
built_from false true l h = cc
built_from false false true h = cc
built_from false false false h = cc

failed_from : (b f l : Bool) → of_flags b f l ≡ mark.Failed → f ≡ true
failed_from true f l h = cc
failed_from false true l h = refl
failed_from false false true h = cc
failed_from false false false h = cc

leased_from : (b f l : Bool) → of_flags b f l ≡ mark.Leased → l ≡ true
leased_from true f l h = cc
leased_from false true l h = cc
leased_from false false true h = refl
leased_from false false false h = cc

free_from : (b f l : Bool) → of_flags b f l ≡ mark.Free → (b ≡ false) × (f ≡ false) × (l ≡ false)
free_from true f l h = absurd (let no_way : ⊥ = cc in no_way)
free_from false true l h = absurd (let no_way : ⊥ = cc in no_way)
free_from false false true h = absurd (let no_way : ⊥ = cc in no_way)
free_from false false false h = (refl, refl, refl)

to_built : (b f l : Bool) → b ≡ true → of_flags b f l ≡ mark.Built
to_built b f l x = rw x refl

to_failed : (b f l : Bool) → b ≡ false → f ≡ true → of_flags b f l ≡ mark.Failed
to_failed b f l x y = rw (x, y) refl

to_leased : (b f l : Bool) → b ≡ false → f ≡ false → l ≡ true → of_flags b f l ≡ mark.Leased
to_leased b f l x y z = rw (x, y, z) refl

to_free : (b f l : Bool) → b ≡ false → f ≡ false → l ≡ false → of_flags b f l ≡ mark.Free
to_free b f l x y z = rw (x, y, z) refl

beyond_free : (i : Premises) (past : List Entry) → IsLegal i past → (d : ℕ) → drvs_in i ≤ d → mark_in past d ≡ mark.Free
beyond_free i past legal d le =
    to_free (is_built d past) (is_failed d past) (is_leased d past)
    (false_from_ne_true (is_built d past) (λ h. let lt = built_ranged i past legal d h in omega arith))
    (false_from_ne_true (is_failed d past) (λ h. let lt = failed_ranged i past legal d h in omega arith))
    (false_from_ne_true (is_leased d past) (λ h. let lt = leased_ranged i past legal d h in omega arith))

-- the marks are the history's at every number
pub marks_all : (i : Premises) (past : List Entry) (p : Progress) → IsLegal i past → AreMarked i past p → (d : ℕ) → mark_of p.marks d ≡ mark_in past d
marks_all i past p legal was d =
    elim (cases_lt d (drvs_in i)) [
      | inl lt ↦ was.marks d lt
      | inr beyond ↦ get_or_past p.marks d mark.Free (let long = was.sized in omega arith) ∙ sym (beyond_free i past legal d beyond)
    ]

failed_unbuilt : (i : Premises) (past : List Entry) → IsLegal i past → (d : ℕ) → is_failed d past ≡ true → is_built d past ≡ false
failed_unbuilt i past legal d h =
    false_from_ne_true (is_built d past) (λ built. let fine = (built_settled i past legal d built).unfailed in let no_way : ⊥ = cc in no_way)

pub built_said : (i : Premises) (past : List Entry) (p : Progress) → IsLegal i past → AreMarked i past p → (d : ℕ) → mark_of p.marks d ≡ mark.Built → is_built d past ≡ true
built_said i past p legal was d h = built_from (is_built d past) (is_failed d past) (is_leased d past) (sym (marks_all i past p legal was d) ∙ h)

pub built_marked : (i : Premises) (past : List Entry) (p : Progress) → IsLegal i past → AreMarked i past p → (d : ℕ) → is_built d past ≡ true → mark_of p.marks d ≡ mark.Built
built_marked i past p legal was d h = marks_all i past p legal was d ∙ to_built (is_built d past) (is_failed d past) (is_leased d past) h

pub failed_said : (i : Premises) (past : List Entry) (p : Progress) → IsLegal i past → AreMarked i past p → (d : ℕ) → mark_of p.marks d ≡ mark.Failed → is_failed d past ≡ true
failed_said i past p legal was d h = failed_from (is_built d past) (is_failed d past) (is_leased d past) (sym (marks_all i past p legal was d) ∙ h)

pub failed_marked : (i : Premises) (past : List Entry) (p : Progress) → IsLegal i past → AreMarked i past p → (d : ℕ) → is_failed d past ≡ true → mark_of p.marks d ≡ mark.Failed
failed_marked i past p legal was d h =
    marks_all i past p legal was d ∙ to_failed (is_built d past) (is_failed d past) (is_leased d past) (failed_unbuilt i past legal d h) h

pub leased_said : (i : Premises) (past : List Entry) (p : Progress) → IsLegal i past → AreMarked i past p → (d : ℕ) → IsLeased p d → is_leased d past ≡ true
leased_said i past p legal was d h = leased_from (is_built d past) (is_failed d past) (is_leased d past) (sym (marks_all i past p legal was d) ∙ h)

pub leased_marked : (i : Premises) (past : List Entry) (p : Progress) → IsLegal i past → AreMarked i past p → (d : ℕ) → is_leased d past ≡ true → IsLeased p d
leased_marked i past p legal was d h =
    let fresh = leased_fresh i past legal d h in
    marks_all i past p legal was d ∙ to_leased (is_built d past) (is_failed d past) (is_leased d past) fresh.unbuilt fresh.unfailed h

open_said : (i : Premises) (past : List Entry) (p : Progress) → IsLegal i past → AreMarked i past p → (d : ℕ) → IsFree p d → IsOpen past d
open_said i past p legal was d h =
    let of = free_from (is_built d past) (is_failed d past) (is_leased d past) (sym (marks_all i past p legal was d) ∙ h) in
    record { unbuilt = of.0; unfailed = of.1; unleased = of.2 }

open_marked : (i : Premises) (past : List Entry) (p : Progress) → IsLegal i past → AreMarked i past p → (d : ℕ) → IsOpen past d → IsFree p d
open_marked i past p legal was d o = marks_all i past p legal was d ∙ to_free (is_built d past) (is_failed d past) (is_leased d past) o.unbuilt o.unfailed o.unleased

-- ---- failures

fails_failure : (d : ℕ) (e : Entry) → fails d e ≡ true → is_failure e ≡ true
fails_failure d (Failed k why) h = refl
fails_failure d (NoBuilder k) h = refl
fails_failure d (Chosen k m s) h = cc
fails_failure d (Started k paths) h = cc
fails_failure d (Down k) h = cc
fails_failure d (Built k refs) h = cc
fails_failure d Stop h = cc
fails_failure d (Drain m) h = cc
fails_failure d (Enable m) h = cc

any_failure : (d : ℕ) (past : List Entry) → is_failed d past ≡ true → list_any is_failure past ≡ true
any_failure d [] h = cc
any_failure d (e ∷ past) h =
    elim (or_cases (fails d e) (is_failed d past) h) [
      | inl here ↦ or_left (is_failure e) (list_any is_failure past) (fails_failure d e here)
      | inr before ↦ or_right (is_failure e) (list_any is_failure past) (any_failure d past before)
    ]

record IsSomeFailure (past : List Entry) : Type 0 where
  drv : ℕ
  failed : is_failed drv past ≡ true

earlier : (e : Entry) (past : List Entry) → IsSomeFailure past → IsSomeFailure (e ∷ past)
earlier e past some = record { drv = some.drv; failed = or_right (fails some.drv e) (is_failed some.drv past) some.failed }

some_failure : (past : List Entry) → list_any is_failure past ≡ true → IsSomeFailure past
some_failure [] h = absurd (let no_way : ⊥ = cc in no_way)
some_failure (Failed d why ∷ past) h = record { drv = d; failed = or_left (d == d) (is_failed d past) (eq-eqb d d refl) }
some_failure (NoBuilder d ∷ past) h = record { drv = d; failed = or_left (d == d) (is_failed d past) (eq-eqb d d refl) }
some_failure (Chosen d m s ∷ past) h = earlier (Chosen d m s) past (some_failure past h)
some_failure (Started d paths ∷ past) h = earlier (Started d paths) past (some_failure past h)
some_failure (Down d ∷ past) h = earlier (Down d) past (some_failure past h)
some_failure (Built d refs ∷ past) h = earlier (Built d refs) past (some_failure past h)
some_failure (Stop ∷ past) h = earlier Stop past (some_failure past h)
some_failure (Drain m ∷ past) h = earlier (Drain m) past (some_failure past h)
some_failure (Enable m ∷ past) h = earlier (Enable m) past (some_failure past h)

both_of : (a b : Bool) → (a && b) ≡ true → (a ≡ true) × (b ≡ true)
both_of true b h = (refl, h)
both_of false b h = absurd (let no_way : ⊥ = cc in no_way)

not_true : (a : Bool) → not a ≡ true → a ≡ false
not_true true h = cc
not_true false h = refl

lost_rest : (a b : Bool) → a ≡ false → b ≡ true → (not a && b) ≡ true
lost_rest a b x y = rw (x, y) refl

stopped_said : (i : Premises) (past : List Entry) (p : Progress) → IsLegal i past → AreMarked i past p → IsStopped p → is_stopped i.keep_going past ≡ true
stopped_said i past p legal was stopped =
    elim stopped [
      | inl asked ↦ or_left (has_stop past) (not i.keep_going && list_any is_failure past) (sym was.stop ∙ asked)
      | inr lost ↦
          or_right (has_stop past) (not i.keep_going && list_any is_failure past)
          (lost_rest i.keep_going (list_any is_failure past) (sym was.keep_going ∙ lost.0) (any_failure lost.1.node past (failed_said i past p legal was lost.1.node lost.1.failed)))
    ]

stopped_marked : (i : Premises) (past : List Entry) (p : Progress) → IsLegal i past → AreMarked i past p → is_stopped i.keep_going past ≡ true → IsStopped p
stopped_marked i past p legal was h =
    elim (or_cases (has_stop past) (not i.keep_going && list_any is_failure past) h) [
      | inl asked ↦ inl (was.stop ∙ asked)
      | inr lost ↦
          let both = both_of (not i.keep_going) (list_any is_failure past) lost in
          let some = some_failure past both.1 in
          inr (was.keep_going ∙ not_true i.keep_going both.0, record { node = some.drv; failed = failed_marked i past p legal was some.drv some.failed })
    ]

below_said : (i : Premises) (past : List Entry) (p : Progress) → IsLegal i past → AreMarked i past p → (d : ℕ) → board.HasFailedBelow p.inputs p.marks d → HasFailedBelow i past d
below_said i past p legal was d below =
    let P : List (List ℕ) → Type 0 = λ rows. IsBelow rows d below.node in
    record { node = below.node; below = subst P was.inputs below.below; failed = failed_said i past p legal was below.node below.failed }

below_marked : (i : Premises) (past : List Entry) (p : Progress) → IsLegal i past → AreMarked i past p → (d : ℕ) → HasFailedBelow i past d → board.HasFailedBelow p.inputs p.marks d
below_marked i past p legal was d below =
    let P : List (List ℕ) → Type 0 = λ rows. IsBelow rows d below.node in
    record { node = below.node; below = subst P (sym was.inputs) below.below; failed = failed_marked i past p legal was below.node below.failed }

-- ---- statuses

-- what the board says of a derivation's status, the history says
pub status_said : (i : Premises) (past : List Entry) (p : Progress) → IsLegal i past → AreMarked i past p → (d : ℕ) (s : Status) → HasStatus p d s → HasStatusIn i past d s
status_said i past p legal was d status.Built h = built_said i past p legal was d h
status_said i past p legal was d status.Failed h = failed_said i past p legal was d h
status_said i past p legal was d status.Leased h = leased_said i past p legal was d h
status_said i past p legal was d status.Cancelled h = (
  open_said i past p legal was d h.0,
  elim h.1 [ inl stopped ↦ inl (stopped_said i past p legal was stopped) | inr below ↦ inr (below_said i past p legal was d below) ],
)
status_said i past p legal was d status.Waiting h = record {
  free = open_said i past p legal was d h.0;
  spared = λ doomed.
      elim doomed [ inl stopped ↦ h.1 (stopped_marked i past p legal was stopped) | inr below ↦ h.2 (below_marked i past p legal was d below) ];
}

-- and what the history says, the board says
pub status_marked : (i : Premises) (past : List Entry) (p : Progress) → IsLegal i past → AreMarked i past p → (d : ℕ) (s : Status) → HasStatusIn i past d s → HasStatus p d s
status_marked i past p legal was d status.Built h = built_marked i past p legal was d h
status_marked i past p legal was d status.Failed h = failed_marked i past p legal was d h
status_marked i past p legal was d status.Leased h = leased_marked i past p legal was d h
status_marked i past p legal was d status.Cancelled h = (
  open_marked i past p legal was d h.0,
  elim h.1 [ inl stopped ↦ inl (stopped_marked i past p legal was stopped) | inr below ↦ inr (below_marked i past p legal was d below) ],
)
status_marked i past p legal was d status.Waiting h = (
  open_marked i past p legal was d h.free,
  λ stopped. h.spared (inl (stopped_said i past p legal was stopped)),
  λ below. h.spared (inr (below_said i past p legal was d below)),
)

pub ready_said : (i : Premises) (past : List Entry) (p : Progress) → IsLegal i past → AreMarked i past p → (d : ℕ) → board.IsReady p d → IsReady i past d
ready_said i past p legal was d ready = record {
  node = (let long = ap (λ (rows : List (List ℕ)). length rows) was.inputs in let lt = ready.node in omega arith);
  waiting = status_said i past p legal was d status.Waiting ready.waiting;
  inputs = record {
    built = λ c h.
        let P : List (List ℕ) → Type 0 = λ rows. Contains (inputs_of rows d) c in
        built_said i past p legal was c (ready.inputs_built.built c (subst P (sym was.inputs) h));
  };
}

pub ready_marked : (i : Premises) (past : List Entry) (p : Progress) → IsLegal i past → AreMarked i past p → (d : ℕ) → IsReady i past d → board.IsReady p d
ready_marked i past p legal was d ready = record {
  node = (let long = ap (λ (rows : List (List ℕ)). length rows) was.inputs in let lt = ready.node in omega arith);
  waiting = status_marked i past p legal was d status.Waiting ready.waiting;
  inputs_built = record {
    built = λ c h.
        let P : List (List ℕ) → Type 0 = λ rows. Contains (inputs_of rows d) c in
        built_marked i past p legal was c (ready.inputs.built c (subst P was.inputs h));
  };
}

-- the board and the history say the same of what is ready
pub ready_both : (i : Premises) (past : List Entry) (p : Progress) → IsLegal i past → AreMarked i past p → (d : ℕ) → board.IsReady p d ↔ IsReady i past d
ready_both i past p legal was d = (ready_said i past p legal was d, ready_marked i past p legal was d)

-- what a test of the board says, the history says
pub ready_told : (i : Premises) (past : List Entry) (p : Progress) → IsLegal i past → AreMarked i past p → (d : ℕ) (b : Bool) → MatchBool b (board.IsReady p d) (board.IsReady p d → ⊥) → (b ≡ true) ↔ IsReady i past d
ready_told i past p legal was d true h = (λ is. (ready_both i past p legal was d).0 h, λ ready. refl)
ready_told i past p legal was d false h = (λ is. absurd (let no_way : ⊥ = cc in no_way), λ ready. absurd (h ((ready_both i past p legal was d).1 ready)))

-- a derivation has its place on the board
pub on_board : (i : Premises) (past : List Entry) (p : Progress) (d : ℕ) → AreMarked i past p → d < drvs_in i → d < length p.inputs
on_board i past p d was lt = let long = ap (λ (rows : List (List ℕ)). length rows) was.inputs in omega arith

-- a board that follows the history can follow whatever entry is allowed next
pub can_follow : (i : Premises) (past : List Entry) (p : Progress) (e : Entry) → IsLegal i past → AreMarked i past p → IsAllowed i e past → CanFollow p e
can_follow i past p (Chosen d m s) legal was allowed = ready_marked i past p legal was d allowed.may.ready
can_follow i past p (NoBuilder d) legal was allowed = ready_marked i past p legal was d allowed.may.ready
can_follow i past p (Started d paths) legal was allowed = tt
can_follow i past p (Down d) legal was allowed = leased_marked i past p legal was d allowed.may.live
can_follow i past p (Built d refs) legal was allowed = leased_marked i past p legal was d allowed.may.live
can_follow i past p (Failed d why) legal was allowed = leased_marked i past p legal was d allowed.may
can_follow i past p Stop legal was allowed = tt
can_follow i past p (Drain m) legal was allowed = tt
can_follow i past p (Enable m) legal was allowed = tt

-- ---- counts

pub counts_said : (i : Premises) (past : List Entry) (p : Progress) (counts : Counts) → IsLegal i past → AreMarked i past p → AreCounts p counts → AreCountsIn i past counts
counts_said i past p counts legal was are =
    let long = ap (λ (rows : List (List ℕ)). length rows) was.inputs in
    record {
      statuses = are.statuses;
      of_drvs = record {
        one_each = are.of_nodes.one_each ∙ long;
        right = λ d lt. status_said i past p legal was d _ (are.of_nodes.right d (omega arith));
      };
      tally = are.tally;
    }
