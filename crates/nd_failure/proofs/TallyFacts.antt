-- The five counts, as marks change.
use Rattle.std.proofs.Common.{◌≡◌, ◌+◌, ◌<◌, ◌≤◌, ℕ, zero, suc, Bool, true, false, cond, List, [], ◌∷◌, ◌++◌, length, map, replicate, get_or, suc-le-suc, refl, sym, ◌∙◌, ap, subst, inl, inr, arith}
use Rattle.std.proofs.Math.ListN.{set}
use Rattle.std.specs.List.{count_by}
use Rattle.std.proofs.lemmas.List.Sums.{sum_by-set, sum_by_push, get_or-le-sum_by}
use Rattle.std.proofs.lemmas.Bool.{false≢true}
use Rattle.nd_failure.specs.Progress.{mark_of, HasFailure}
use Rattle.nd_failure.specs.Statuses.{IsTally, count_of, same_status, total_of}
use Rattle.nd_flags.specs.Members.{IsMember}
use Rattle.nd_failure.specs.Spread.{size_of}
use Rattle.nd_failure.specs.Tallied.{status_by, statuses_of, count_in, one_if, IsLess, IsMore, IsMoved}
use Rattle.nd_failure.specs.declared.status.Counts.{Counts}
use Rattle.nd_failure.specs.declared.status.Mark.{Mark}
use Rattle.nd_failure.specs.declared.status.Mark.TheVariants as mark
use Rattle.nd_failure.specs.declared.status.Status.{Status}
use Rattle.nd_failure.specs.declared.status.Status.TheVariants.{Waiting, Leased, Built, Failed, Cancelled}
use Rattle.nd_failure.proofs.CountFacts.{true_or_false, count_by-cons, count_by-cons_no, count_by-cons_yes}
use Rattle.nd_failure.proofs.MarkFacts.{within_if_marked}

pub length-statuses_of : (marks : List Mark) (cancelled : List Bool) → length (statuses_of marks cancelled) ≡ length marks
length-statuses_of [] cancelled = refl
length-statuses_of (m ∷ marks) [] = ap suc (length-statuses_of marks [])
length-statuses_of (m ∷ marks) (c ∷ cancelled) = ap suc (length-statuses_of marks cancelled)

pub get_or-statuses_of : (marks : List Mark) (cancelled : List Bool) (d : ℕ) → d < length marks
    → get_or (statuses_of marks cancelled) d Waiting ≡ status_by (mark_of marks d) (get_or cancelled d false)
get_or-statuses_of [] cancelled d within = absurd (omega arith)
get_or-statuses_of (m ∷ marks) [] zero within = refl
get_or-statuses_of (m ∷ marks) [] (suc d) within = get_or-statuses_of marks [] d (omega arith)
get_or-statuses_of (m ∷ marks) (c ∷ cancelled) zero within = refl
get_or-statuses_of (m ∷ marks) (c ∷ cancelled) (suc d) within = get_or-statuses_of marks cancelled d (omega arith)

pub statuses_of-set : (marks : List Mark) (cancelled : List Bool) (i : ℕ) (m : Mark)
    → statuses_of (set marks i m) cancelled ≡ set (statuses_of marks cancelled) i (status_by m (get_or cancelled i false))
statuses_of-set [] cancelled i m = refl
statuses_of-set (x ∷ marks) [] zero m = refl
statuses_of-set (x ∷ marks) [] (suc i) m = ap (λ (xs : List Status). status_by x false ∷ xs) (statuses_of-set marks [] i m)
statuses_of-set (x ∷ marks) (c ∷ cancelled) zero m = refl
statuses_of-set (x ∷ marks) (c ∷ cancelled) (suc i) m = ap (λ (xs : List Status). status_by x c ∷ xs) (statuses_of-set marks cancelled i m)

moved_count : (s was becomes : Status) (statuses : List Status) (i old new : ℕ) → i < length statuses → get_or statuses i Waiting ≡ was
    → old ≡ count_of s statuses → new + one_if s was ≡ old + one_if s becomes → new ≡ count_of s (set statuses i becomes)
moved_count s was becomes statuses i old new within here tally moved =
    omega (arith, sum_by-set (λ t. one_if s t) statuses i becomes Waiting within, ap (λ (t : Status). one_if s t) here)

pub IsTally-moved : (marks : List Mark) (cancelled : List Bool) (i : ℕ) (m : Mark) (was becomes : Status) (old new : Counts)
    → IsTally (statuses_of marks cancelled) old → i < length marks
    → status_by (mark_of marks i) (get_or cancelled i false) ≡ was → status_by m (get_or cancelled i false) ≡ becomes
    → IsMoved was becomes old new → IsTally (statuses_of (set marks i m) cancelled) new
IsTally-moved marks cancelled i m was becomes old new tally within before after moved =
    let statuses = statuses_of marks cancelled in
    let in_list : i < length statuses = omega (arith, length-statuses_of marks cancelled) in
    let here = get_or-statuses_of marks cancelled i within ∙ before in
    subst (λ (xs : List Status). IsTally xs new) (sym (statuses_of-set marks cancelled i m ∙ ap (λ (t : Status). set statuses i t) after))
    (record {
      waiting = moved_count Waiting was becomes statuses i old.waiting new.waiting in_list here tally.waiting moved.waiting;
      leased = moved_count Leased was becomes statuses i old.leased new.leased in_list here tally.leased moved.leased;
      built = moved_count Built was becomes statuses i old.built new.built in_list here tally.built moved.built;
      failed = moved_count Failed was becomes statuses i old.failed new.failed in_list here tally.failed moved.failed;
      cancelled = moved_count Cancelled was becomes statuses i old.cancelled new.cancelled in_list here tally.cancelled moved.cancelled;
    })

-- a node with a status is counted
pub counted_at : (s : Status) (marks : List Mark) (cancelled : List Bool) (i : ℕ) → i < length marks
    → status_by (mark_of marks i) (get_or cancelled i false) ≡ s → same_status s s ≡ true → 0 < count_of s (statuses_of marks cancelled)
counted_at s marks cancelled i within here itself =
    let statuses = statuses_of marks cancelled in
    let counted = get_or-le-sum_by (λ t. one_if s t) statuses i Waiting (omega (arith, length-statuses_of marks cancelled)) in
    subst (λ (n : ℕ). n ≤ count_of s statuses)
    (ap (λ (t : Status). one_if s t) (get_or-statuses_of marks cancelled i within ∙ here) ∙ ap (λ (b : Bool). cond b 1 0) itself) counted

-- the five counts sum to the number of statuses
one_each : (t : Status) → one_if Waiting t + one_if Leased t + one_if Built t + one_if Failed t + one_if Cancelled t ≡ 1
one_each Waiting = refl
one_each Leased = refl
one_each Built = refl
one_each Failed = refl
one_each Cancelled = refl

counts_sum : (statuses : List Status) → count_of Waiting statuses + count_of Leased statuses + count_of Built statuses
    + count_of Failed statuses + count_of Cancelled statuses ≡ length statuses
counts_sum [] = refl
counts_sum (t ∷ ts) = omega (
  arith,
  one_each t,
  counts_sum ts,
  count_by-cons (same_status Waiting) t ts,
  count_by-cons (same_status Leased) t ts,
  count_by-cons (same_status Built) t ts,
  count_by-cons (same_status Failed) t ts,
  count_by-cons (same_status Cancelled) t ts,
)

pub total_of-tally : (statuses : List Status) (counts : Counts) → IsTally statuses counts → total_of counts ≡ length statuses
total_of-tally statuses counts tally =
    omega (arith, counts_sum statuses, tally.waiting, tally.leased, tally.built, tally.failed, tally.cancelled)

-- what the counts of one node are before and after a failure spreads
record AreMoved (m : Mark) (old new : Bool) : Type 0 where
  waiting : one_if Waiting (status_by m old) + cond old 1 0 ≡ one_if Waiting (status_by m new) + cond new 1 0
  cancelled : one_if Cancelled (status_by m new) + cond old 1 0 ≡ one_if Cancelled (status_by m old) + cond new 1 0
  leased : one_if Leased (status_by m new) ≡ one_if Leased (status_by m old)
  built : one_if Built (status_by m new) ≡ one_if Built (status_by m old)
  failed : one_if Failed (status_by m new) ≡ one_if Failed (status_by m old)

are_moved : (m : Mark) (old new : Bool) → (old ≡ true → new ≡ true) → (new ≡ true → m ≡ mark.Free) → AreMoved m old new
are_moved m true false still free = absurd (false≢true (still refl))
are_moved m false false still free = record { waiting = refl; cancelled = refl; leased = refl; built = refl; failed = refl }
are_moved m true true still free = record { waiting = refl; cancelled = refl; leased = refl; built = refl; failed = refl }
are_moved mark.Free false true still free = record { waiting = refl; cancelled = refl; leased = refl; built = refl; failed = refl }
are_moved mark.Leased false true still free = let is = free refl in cc
are_moved mark.Built false true still free = let is = free refl in cc
are_moved mark.Failed false true still free = let is = free refl in cc

-- what the counts of all nodes are before and after a failure spreads
record AllMoved (marks : List Mark) (old new : List Bool) : Type 0 where
  waiting : count_of Waiting (statuses_of marks old) + size_of old ≡ count_of Waiting (statuses_of marks new) + size_of new
  cancelled : count_of Cancelled (statuses_of marks new) + size_of old ≡ count_of Cancelled (statuses_of marks old) + size_of new
  leased : count_of Leased (statuses_of marks new) ≡ count_of Leased (statuses_of marks old)
  built : count_of Built (statuses_of marks new) ≡ count_of Built (statuses_of marks old)
  failed : count_of Failed (statuses_of marks new) ≡ count_of Failed (statuses_of marks old)

all_moved_more : (m : Mark) (o w : Bool) (marks : List Mark) (old new : List Bool) → AreMoved m o w → AllMoved marks old new
    → AllMoved (m ∷ marks) (o ∷ old) (w ∷ new)
all_moved_more m o w marks old new head rest =
    let was = statuses_of marks old in
    let is = statuses_of marks new in
    let s = status_by m o in
    let t = status_by m w in
    record {
      waiting = omega (
        arith,
        head.waiting,
        rest.waiting,
        count_by-cons (same_status Waiting) s was,
        count_by-cons (same_status Waiting) t is,
        count_by-cons (λ (b : Bool). b) o old,
        count_by-cons (λ (b : Bool). b) w new,
      );
      cancelled = omega (
        arith,
        head.cancelled,
        rest.cancelled,
        count_by-cons (same_status Cancelled) s was,
        count_by-cons (same_status Cancelled) t is,
        count_by-cons (λ (b : Bool). b) o old,
        count_by-cons (λ (b : Bool). b) w new,
      );
      leased = omega (arith, head.leased, rest.leased, count_by-cons (same_status Leased) s was, count_by-cons (same_status Leased) t is);
      built = omega (arith, head.built, rest.built, count_by-cons (same_status Built) s was, count_by-cons (same_status Built) t is);
      failed = omega (arith, head.failed, rest.failed, count_by-cons (same_status Failed) s was, count_by-cons (same_status Failed) t is);
    }

all_moved : (marks : List Mark) (old new : List Bool) → length old ≡ length marks → length new ≡ length marks
    → ((d : ℕ) → IsMember old d → IsMember new d) → ((d : ℕ) → IsMember new d → mark_of marks d ≡ mark.Free) → AllMoved marks old new
all_moved [] [] [] old_sized new_sized still free = record { waiting = refl; cancelled = refl; leased = refl; built = refl; failed = refl }
all_moved [] (o ∷ old) new old_sized new_sized still free = absurd (omega arith)
all_moved [] [] (w ∷ new) old_sized new_sized still free = absurd (omega arith)
all_moved (m ∷ marks) [] new old_sized new_sized still free = absurd (omega arith)
all_moved (m ∷ marks) (o ∷ old) [] old_sized new_sized still free = absurd (omega arith)
all_moved (m ∷ marks) (o ∷ old) (w ∷ new) old_sized new_sized still free =
    all_moved_more m o w marks old new (are_moved m o w (still 0) (free 0))
    (all_moved marks old new (omega arith) (omega arith) (λ d. still (suc d)) (λ d. free (suc d)))

-- the counts after n more nodes are cancelled
pub record AreCancelled (n : ℕ) (old new : Counts) : Type 0 where
  pub waiting : new.waiting + n ≡ old.waiting
  pub cancelled : new.cancelled ≡ old.cancelled + n
  pub leased : new.leased ≡ old.leased
  pub built : new.built ≡ old.built
  pub failed : new.failed ≡ old.failed

pub IsTally-spread : (marks : List Mark) (old new : List Bool) (n : ℕ) (before after : Counts) → IsTally (statuses_of marks old) before
    → length old ≡ length marks → length new ≡ length marks
    → ((d : ℕ) → IsMember old d → IsMember new d) → ((d : ℕ) → IsMember new d → mark_of marks d ≡ mark.Free)
    → n + size_of old ≡ size_of new → AreCancelled n before after → IsTally (statuses_of marks new) after
IsTally-spread marks old new n before after tally old_sized new_sized still free counted cancelled =
    let moved = all_moved marks old new old_sized new_sized still free in
    record {
      waiting = omega (arith, moved.waiting, tally.waiting, cancelled.waiting);
      leased = cancelled.leased ∙ tally.leased ∙ sym moved.leased;
      built = cancelled.built ∙ tally.built ∙ sym moved.built;
      failed = cancelled.failed ∙ tally.failed ∙ sym moved.failed;
      cancelled = omega (arith, moved.cancelled, tally.cancelled, cancelled.cancelled);
    }

-- as many as are cancelled were waiting
pub waiting_enough : (marks : List Mark) (old new : List Bool) (n : ℕ) (before : Counts) → IsTally (statuses_of marks old) before
    → length old ≡ length marks → length new ≡ length marks
    → ((d : ℕ) → IsMember old d → IsMember new d) → ((d : ℕ) → IsMember new d → mark_of marks d ≡ mark.Free)
    → n + size_of old ≡ size_of new → n ≤ before.waiting
waiting_enough marks old new n before tally old_sized new_sized still free counted =
    let moved = all_moved marks old new old_sized new_sized still free in
    omega (arith, moved.waiting, tally.waiting)

-- one node fewer with a status and one more with another is one that moved
pub moved_from : (was becomes : Status) (old middle new : Counts) → IsLess was old middle → IsMore becomes middle new → IsMoved was becomes old new
moved_from was becomes old middle new less more = record {
  waiting = omega (arith, less.waiting, more.waiting);
  leased = omega (arith, less.leased, more.leased);
  built = omega (arith, less.built, more.built);
  failed = omega (arith, less.failed, more.failed);
  cancelled = omega (arith, less.cancelled, more.cancelled);
}

-- and then there is one fewer
pub total_of_less : (s : Status) (old new : Counts) → IsLess s old new → total_of new + 1 ≡ total_of old
total_of_less s old new less = omega (arith, one_each s, less.waiting, less.leased, less.built, less.failed, less.cancelled)

-- one that moved leaves as many
pub total_of-moved : (was becomes : Status) (old new : Counts) → IsMoved was becomes old new → total_of new ≡ total_of old
total_of-moved was becomes old new moved =
    omega (arith, one_each was, one_each becomes, moved.waiting, moved.leased, moved.built, moved.failed, moved.cancelled)

-- a tally has each status's number
pub count_in-tally : (statuses : List Status) (counts : Counts) (s : Status) → IsTally statuses counts → count_in s counts ≡ count_of s statuses
count_in-tally statuses counts Waiting tally = tally.waiting
count_in-tally statuses counts Leased tally = tally.leased
count_in-tally statuses counts Built tally = tally.built
count_in-tally statuses counts Failed tally = tally.failed
count_in-tally statuses counts Cancelled tally = tally.cancelled

-- a status is the same as itself
pub same_itself : (s : Status) → same_status s s ≡ true
same_itself Waiting = refl
same_itself Leased = refl
same_itself Built = refl
same_itself Failed = refl
same_itself Cancelled = refl

-- a test that is counted passes somewhere
pub passes_somewhere : {X : Type 0} (p : X → Bool) (xs : List X) → 0 < count_by p xs → (k : ℕ) × (k < length xs) × ((d : X) → p (get_or xs k d) ≡ true)
passes_somewhere p [] some = absurd (omega arith)
passes_somewhere p (x ∷ xs) some = elim (true_or_false (p x)) [
  | inl passes ↦ (0, omega arith, λ d. passes)
  | inr fails ↦
      let later = passes_somewhere p xs (subst (λ (n : ℕ). 0 < n) (count_by-cons_no p x xs fails) some) in
      (suc later.0, suc-le-suc later.1, later.2)
]

failed_mark : (m : Mark) (down : Bool) → same_status Failed (status_by m down) ≡ true → m ≡ mark.Failed
failed_mark mark.Free true is = cc
failed_mark mark.Free false is = cc
failed_mark mark.Leased down is = cc
failed_mark mark.Built down is = cc
failed_mark mark.Failed down is = refl

-- some node is counted as failed exactly where one has failed
pub failure_from_count : (marks : List Mark) (cancelled : List Bool) → 0 < count_of Failed (statuses_of marks cancelled) → HasFailure marks
failure_from_count marks cancelled some =
    let found = passes_somewhere (same_status Failed) (statuses_of marks cancelled) some in
    let within : found.0 < length marks = omega (arith, found.1, length-statuses_of marks cancelled) in
    record {
      node = found.0;
      failed = failed_mark (mark_of marks found.0) (get_or cancelled found.0 false)
          (subst (λ (t : Status). same_status Failed t ≡ true) (get_or-statuses_of marks cancelled found.0 within) (found.2 Waiting));
    }

pub count_from_failure : (marks : List Mark) (cancelled : List Bool) → HasFailure marks → 0 < count_of Failed (statuses_of marks cancelled)
count_from_failure marks cancelled failure =
    counted_at Failed marks cancelled failure.node
    (within_if_marked marks failure.node (λ free. let both : mark.Failed ≡ mark.Free = sym failure.failed ∙ free in cc))
    (ap (λ (m : Mark). status_by m (get_or cancelled failure.node false)) failure.failed) refl

-- the statuses once no further lease is made
abbrev pub stopped_statuses : List Mark → List Status
stopped_statuses marks = map (λ m. status_by m true) marks

-- then what waited is cancelled too
record IsStoppedHead (m : Mark) (c : Bool) : Type 0 where
  waiting : one_if Waiting (status_by m true) ≡ 0
  leased : one_if Leased (status_by m true) ≡ one_if Leased (status_by m c)
  built : one_if Built (status_by m true) ≡ one_if Built (status_by m c)
  failed : one_if Failed (status_by m true) ≡ one_if Failed (status_by m c)
  cancelled : one_if Cancelled (status_by m true) ≡ one_if Waiting (status_by m c) + one_if Cancelled (status_by m c)

stopped_head : (m : Mark) (c : Bool) → IsStoppedHead m c
stopped_head mark.Free true = record { waiting = refl; leased = refl; built = refl; failed = refl; cancelled = refl }
stopped_head mark.Free false = record { waiting = refl; leased = refl; built = refl; failed = refl; cancelled = refl }
stopped_head mark.Leased c = record { waiting = refl; leased = refl; built = refl; failed = refl; cancelled = refl }
stopped_head mark.Built c = record { waiting = refl; leased = refl; built = refl; failed = refl; cancelled = refl }
stopped_head mark.Failed c = record { waiting = refl; leased = refl; built = refl; failed = refl; cancelled = refl }

record AreStopped (marks : List Mark) (statuses : List Status) : Type 0 where
  waiting : count_of Waiting (stopped_statuses marks) ≡ 0
  leased : count_of Leased (stopped_statuses marks) ≡ count_of Leased statuses
  built : count_of Built (stopped_statuses marks) ≡ count_of Built statuses
  failed : count_of Failed (stopped_statuses marks) ≡ count_of Failed statuses
  cancelled : count_of Cancelled (stopped_statuses marks) ≡ count_of Waiting statuses + count_of Cancelled statuses

stopped_more : (m : Mark) (c : Bool) (marks : List Mark) (statuses : List Status) → AreStopped marks statuses
    → AreStopped (m ∷ marks) (status_by m c ∷ statuses)
stopped_more m c marks statuses rest =
    let head = stopped_head m c in
    let s = status_by m c in
    let t = status_by m true in
    let after = stopped_statuses marks in
    record {
      waiting = omega (arith, head.waiting, rest.waiting, count_by-cons (same_status Waiting) t after);
      leased = omega (arith, head.leased, rest.leased, count_by-cons (same_status Leased) t after, count_by-cons (same_status Leased) s statuses);
      built = omega (arith, head.built, rest.built, count_by-cons (same_status Built) t after, count_by-cons (same_status Built) s statuses);
      failed = omega (arith, head.failed, rest.failed, count_by-cons (same_status Failed) t after, count_by-cons (same_status Failed) s statuses);
      cancelled = omega (
        arith,
        head.cancelled,
        rest.cancelled,
        count_by-cons (same_status Cancelled) t after,
        count_by-cons (same_status Cancelled) s statuses,
        count_by-cons (same_status Waiting) s statuses,
      );
    }

all_stopped : (marks : List Mark) (cancelled : List Bool) → AreStopped marks (statuses_of marks cancelled)
all_stopped [] cancelled = record { waiting = refl; leased = refl; built = refl; failed = refl; cancelled = refl }
all_stopped (m ∷ marks) [] = stopped_more m false marks (statuses_of marks []) (all_stopped marks [])
all_stopped (m ∷ marks) (c ∷ cancelled) = stopped_more m c marks (statuses_of marks cancelled) (all_stopped marks cancelled)

pub IsTally-stopped : (marks : List Mark) (doomed : List Bool) (counts new : Counts) → IsTally (statuses_of marks doomed) counts
    → new.waiting ≡ 0 → new.cancelled ≡ counts.waiting + counts.cancelled → new.leased ≡ counts.leased → new.built ≡ counts.built
    → new.failed ≡ counts.failed → IsTally (stopped_statuses marks) new
IsTally-stopped marks doomed counts new tally waiting cancelled leased built failed =
    let stopped = all_stopped marks doomed in
    record {
      waiting = waiting ∙ sym stopped.waiting;
      leased = leased ∙ tally.leased ∙ sym stopped.leased;
      built = built ∙ tally.built ∙ sym stopped.built;
      failed = failed ∙ tally.failed ∙ sym stopped.failed;
      cancelled = omega (arith, cancelled, tally.waiting, tally.cancelled, stopped.cancelled);
    }

-- where every node is free and none is doomed, all wait
pub record AreFresh (n : ℕ) (statuses : List Status) : Type 0 where
  pub waiting : count_of Waiting statuses ≡ n
  pub leased : count_of Leased statuses ≡ 0
  pub built : count_of Built statuses ≡ 0
  pub failed : count_of Failed statuses ≡ 0
  pub cancelled : count_of Cancelled statuses ≡ 0

pub fresh_counts : (n : ℕ) → AreFresh n (statuses_of (replicate n mark.Free) (replicate n false))
fresh_counts zero = record { waiting = refl; leased = refl; built = refl; failed = refl; cancelled = refl }
fresh_counts (suc n) =
    let rest = fresh_counts n in
    let statuses = statuses_of (replicate n mark.Free) (replicate n false) in
    record {
      waiting = omega (arith, rest.waiting, count_by-cons_yes (same_status Waiting) Waiting statuses refl);
      leased = omega (arith, rest.leased, count_by-cons_no (same_status Leased) Waiting statuses refl);
      built = omega (arith, rest.built, count_by-cons_no (same_status Built) Waiting statuses refl);
      failed = omega (arith, rest.failed, count_by-cons_no (same_status Failed) Waiting statuses refl);
      cancelled = omega (arith, rest.cancelled, count_by-cons_no (same_status Cancelled) Waiting statuses refl);
    }

-- one more status, counted
pub IsTally-push : (statuses : List Status) (s : Status) (old new : Counts) → IsTally statuses old → IsMore s old new
    → IsTally (statuses ++ s ∷ []) new
IsTally-push statuses s old new tally more = record {
  waiting = omega (arith, tally.waiting, more.waiting, sum_by_push (λ t. one_if Waiting t) statuses s);
  leased = omega (arith, tally.leased, more.leased, sum_by_push (λ t. one_if Leased t) statuses s);
  built = omega (arith, tally.built, more.built, sum_by_push (λ t. one_if Built t) statuses s);
  failed = omega (arith, tally.failed, more.failed, sum_by_push (λ t. one_if Failed t) statuses s);
  cancelled = omega (arith, tally.cancelled, more.cancelled, sum_by_push (λ t. one_if Cancelled t) statuses s);
}

-- one more makes one more together
pub total_of-more : (s : Status) (old new : Counts) → IsMore s old new → total_of new ≡ total_of old + 1
total_of-more s old new more = omega (arith, one_each s, more.waiting, more.leased, more.built, more.failed, more.cancelled)
