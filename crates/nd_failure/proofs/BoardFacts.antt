-- What a board keeps, as its calls change it.
use Rattle.std.proofs.Common.{◌≡◌, ◌+◌, ◌^◌, ◌<◌, ◌≤◌, ℕ, Bool, true, false, not, List, [], ◌∷◌, map, replicate, Option, None, Some, length, Contains, Vec, Global, get_or, vec_capacity, MatchBool, refl, sym, ◌∙◌, ap, subst, inl, inr, eqb, ltb, arith}
use Rattle.std.specs.List.{count_by}
use Rattle.std.proofs.Math.ListN.{set, length-set}
use Rattle.std.proofs.lemmas.List.{get_or-set_same, get_or-set_other, get_or-map, length-map, get_or_past, get_or-replicate, length-replicate}
use Rattle.std.proofs.lemmas.Bool.{cases_eq, cases_lt, false≢true, ltb-true, lt-ltb}
use Rattle.nd_graph.specs.Walks.{inputs_of}
use Rattle.nd_flags.specs.Members.{IsMember, IsFirstFrom}
use Rattle.nd_failure.specs.Progress.{Progress, mark_of, HasInputsBuilt, IsLeased, IsReady, IsStopped, HasFailure}
use Rattle.nd_failure.specs.Statuses.{IsTally, HasStatus, CanFail, AreCounts, IsNextReady, total_of}
use Rattle.nd_failure.specs.Kept.{is_built, unbuilt_of, AreSettled, AreCounted, AreDoomed, AreReady, AreWoken, AreZero}
use Rattle.nd_failure.specs.Tallied.{status_by, statuses_of, count_in, IsMoved}
use Rattle.nd_failure.specs.Reversed.{AreDependants}
use Rattle.nd_failure.specs.Spread.{SpreadsFrom, size_of}
use Rattle.nd_failure.specs.BoardParts.{IsKept}
use Rattle.nd_failure.specs.declared.board.Board.TheInside.{Inside}
use Rattle.nd_failure.specs.declared.status.Counts.{Counts}
use Rattle.nd_failure.specs.declared.status.Mark.{Mark}
use Rattle.nd_failure.specs.declared.status.Mark.TheVariants.{Free, Leased, Built, Failed}
use Rattle.nd_failure.specs.declared.status.Status.{Status}
use Rattle.nd_failure.specs.declared.status.Status.TheVariants as status
use Rattle.nd_failure.proofs.BelowFacts.{free_or, built_above_none, HasFailedBelow-free}
use Rattle.nd_failure.proofs.CountFacts.{true_or_false, count_by-cons_yes, count_by-none, count-from_Contains, Contains-from_count}
use Rattle.nd_failure.proofs.MarkFacts.{within_if_marked, AreSettled-set, AreCounted-set, unbuilt_of-built, AreDoomed-set, AreReady-put}
use Rattle.nd_failure.proofs.TallyFacts.{AreCancelled, IsTally-moved, IsTally-spread, IsTally-stopped, stopped_statuses, count_in-tally, same_itself, counted_at, waiting_enough, fresh_counts, failure_from_count, count_from_failure, get_or-statuses_of, length-statuses_of, total_of-tally}
use Rattle.nd_flags.proofs.RowFacts.{IsMember-within}
use Rattle.nd_failure.proofs.SpreadFacts.{AreDoomed-failed, input_of_dependant}

-- the board as its model shows it
abbrev pub shown : Inside → Progress
shown b = record { inputs = b.edges; keep_going = b.keep_going; marks = b.marks.items; stop = b.stop }

pub built_from_test : (m : Mark) → is_built m ≡ true → m ≡ Built
built_from_test Free is = absurd (false≢true is)
built_from_test Leased is = absurd (false≢true is)
built_from_test Built is = refl
built_from_test Failed is = absurd (false≢true is)

-- a node whose inputs are all built has none below that failed
pub not_doomed : (rows : List (List ℕ)) (marks : List Mark) (doomed : List Bool) (i : ℕ) → AreSettled rows marks → AreDoomed rows marks doomed
    → HasInputsBuilt rows marks i → get_or doomed i false ≡ false
not_doomed rows marks doomed i settled known inputs = elim (true_or_false (get_or doomed i false)) [
  | inl up ↦ absurd (built_above_none rows marks i settled inputs (known.sound i up))
  | inr down ↦ down
]

-- and its counter is 0
pub unbuilt_none : (rows : List (List ℕ)) (marks : List Mark) (unbuilt : List ℕ) (i : ℕ) → AreCounted rows marks unbuilt
    → HasInputsBuilt rows marks i → get_or unbuilt i 0 ≡ 0
unbuilt_none rows marks unbuilt i counted inputs =
    counted.counted i ∙ count_by-none (λ c. not (is_built (mark_of marks c))) (inputs_of rows i)
    (λ c has. ap (λ (m : Mark). not (is_built m)) (inputs.built c has))

-- where its counter is 0 its inputs are all built
pub inputs_built_from_none : (rows : List (List ℕ)) (marks : List Mark) (unbuilt : List ℕ) (i : ℕ) → AreCounted rows marks unbuilt
    → get_or unbuilt i 0 ≡ 0 → HasInputsBuilt rows marks i
inputs_built_from_none rows marks unbuilt i counted none = record {
  built = λ c has. elim (true_or_false (is_built (mark_of marks c))) [
    | inl is ↦ built_from_test (mark_of marks c) is
    | inr is_not ↦
        let some = count-from_Contains (λ x. not (is_built (mark_of marks x))) (inputs_of rows i) c has (ap not is_not) in
        absurd (omega (arith, some, counted.counted i, none))
  ];
}

-- node i, whose status may change: its mark, its inputs and its status
pub record MayChange (b : Inside) (i : ℕ) (was : Status) : Type 0 where
  pub within : i < length b.marks.items
  pub unbuilt : mark_of b.marks.items i ≡ Built → ⊥
  pub sound : mark_of b.marks.items i ≡ Failed → ⊥
  pub inputs : HasInputsBuilt b.edges b.marks.items i
  pub is_was : status_by (mark_of b.marks.items i) false ≡ was

pub MayChange-leased : (b : Inside) (i : ℕ) → IsKept b → mark_of b.marks.items i ≡ Leased → MayChange b i status.Leased
MayChange-leased b i kept leased = record {
  within = within_if_marked b.marks.items i not_free;
  unbuilt = λ is. let both : Leased ≡ Built = sym leased ∙ is in cc;
  sound = λ is. let both : Leased ≡ Failed = sym leased ∙ is in cc;
  inputs = kept.settled.settled i not_free;
  is_was = ap (λ (m : Mark). status_by m false) leased;
}
  where
    not_free : mark_of b.marks.items i ≡ Free → ⊥
    not_free is = let both : Leased ≡ Free = sym leased ∙ is in cc

-- a mark that isn't `Built` fails the test
pub not_built_test : (m : Mark) → (m ≡ Built → ⊥) → is_built m ≡ false
not_built_test Free apart = refl
not_built_test Leased apart = refl
not_built_test Built apart = absurd (apart refl)
not_built_test Failed apart = refl

-- a board whose node i has another mark, neither of which is `Built` or `Failed`
pub IsKept-moved : (b : Inside) (i : ℕ) (m : Mark) (up : Bool) (was becomes : Status) (marks : Vec Mark Global) (ready : List Bool) (counts : Counts)
    → IsKept b → MayChange b i was → is_built m ≡ false → (m ≡ Failed → ⊥) → status_by m false ≡ becomes
    → MatchBool up ((m ≡ Free) × (get_or b.unbuilt i 0 ≡ 0)) (m ≡ Free → ⊥)
    → marks.items ≡ set b.marks.items i m → ready ≡ set b.ready i up → IsMoved was becomes b.counts counts
    → IsKept (record b { marks = marks; ready = ready; counts = counts })
IsKept-moved b i m up was becomes marks ready counts kept known unbuilt sound after right marks_are ready_is moved =
    let low = not_doomed b.edges b.marks.items b.doomed i kept.settled kept.doomed known.inputs in
    record {
      marked = ap length marks_are ∙ length-set b.marks.items i m ∙ kept.marked;
      settled = subst (λ (xs : List Mark). AreSettled b.edges xs) (sym marks_are)
          (AreSettled-set b.edges b.marks.items i m kept.settled known.within known.unbuilt known.inputs);
      counted = subst (λ (xs : List Mark). AreCounted b.edges xs b.unbuilt) (sym marks_are)
          (AreCounted-set b.edges b.marks.items b.unbuilt i m kept.counted known.within (not_built_test (mark_of b.marks.items i) known.unbuilt) unbuilt);
      doomed = subst (λ (xs : List Mark). AreDoomed b.edges xs b.doomed) (sym marks_are)
          (AreDoomed-set b.edges b.marks.items b.doomed i m kept.doomed known.within known.sound sound);
      ready = subst (λ (xs : List Mark). AreReady xs b.unbuilt ready) (sym marks_are)
          (subst (λ (xs : List Bool). AreReady (set b.marks.items i m) b.unbuilt xs) (sym ready_is)
          (AreReady-put b.marks.items b.unbuilt b.ready i m up kept.ready known.within right));
      tally = subst (λ (xs : List Mark). IsTally (statuses_of xs b.doomed) counts) (sym marks_are)
          (IsTally-moved b.marks.items b.doomed i m was becomes b.counts counts kept.tally known.within
          (ap (λ (down : Bool). status_by (mark_of b.marks.items i) down) low ∙ known.is_was) (ap (λ (down : Bool). status_by m down) low ∙ after) moved);
      idle = kept.idle;
      room = kept.room;
    }

-- a board whose node i, which was leased, is built
pub IsKept-built : (b : Inside) (i : ℕ) (marks : Vec Mark Global) (unbuilt : List ℕ) (ready : List Bool) (counts : Counts) (dependants : List ℕ)
    → IsKept b → mark_of b.marks.items i ≡ Leased → AreDependants b.edges i dependants
    → marks.items ≡ set b.marks.items i Built
    → length unbuilt ≡ length b.unbuilt → ((d : ℕ) → get_or unbuilt d 0 + count_by (eqb d) dependants ≡ get_or b.unbuilt d 0)
    → AreWoken dependants unbuilt b.ready ready → IsMoved status.Leased status.Built b.counts counts
    → IsKept (record b { marks = marks; unbuilt = unbuilt; ready = ready; counts = counts })
IsKept-built b i marks unbuilt ready counts dependants kept leased are marks_are sized lowered woken moved =
    record {
      marked = ap length marks_are ∙ length-set b.marks.items i Built ∙ kept.marked;
      settled = subst (λ (xs : List Mark). AreSettled b.edges xs) (sym marks_are)
          (AreSettled-set b.edges b.marks.items i Built kept.settled known.within known.unbuilt known.inputs);
      counted = subst (λ (xs : List Mark). AreCounted b.edges xs unbuilt) (sym marks_are) counted;
      doomed = subst (λ (xs : List Mark). AreDoomed b.edges xs b.doomed) (sym marks_are)
          (AreDoomed-set b.edges b.marks.items b.doomed i Built kept.doomed known.within known.sound (λ is. cc));
      ready = subst (λ (xs : List Mark). AreReady xs unbuilt ready) (sym marks_are) now_ready;
      tally = subst (λ (xs : List Mark). IsTally (statuses_of xs b.doomed) counts) (sym marks_are)
          (IsTally-moved b.marks.items b.doomed i Built status.Leased status.Built b.counts counts kept.tally known.within
          (ap (λ (m : Mark). status_by m (get_or b.doomed i false)) leased) refl moved);
      idle = kept.idle;
      room = kept.room;
    }
  where
    known : MayChange b i status.Leased
    known = MayChange-leased b i kept leased

    leased_not_free : mark_of b.marks.items i ≡ Free → ⊥
    leased_not_free is = let both : Leased ≡ Free = sym leased ∙ is in cc

    counted : AreCounted b.edges (set b.marks.items i Built) unbuilt
    counted = record {
      sized = sized ∙ kept.counted.sized;
      counted = λ d. omega (
        arith,
        lowered d,
        kept.counted.counted d,
        are.same d,
        unbuilt_of-built b.marks.items i known.within (ap is_built leased) (inputs_of b.edges d),
      );
    }

    -- a free node is another one, and keeps its mark
    still_free : (d : ℕ) → mark_of b.marks.items d ≡ Free → mark_of (set b.marks.items i Built) d ≡ Free
    still_free d free = get_or-set_other b.marks.items i d Built Free
        (λ same. leased_not_free (subst (λ (n : ℕ). mark_of b.marks.items n ≡ Free) same free)) ∙ free

    -- a dependant was free, since node i was not built
    dependant_free : (d : ℕ) → Contains dependants d → mark_of b.marks.items d ≡ Free
    dependant_free d has = elim (free_or (mark_of b.marks.items d)) [
      | inl free ↦ free
      | inr taken ↦ absurd (known.unbuilt ((kept.settled.settled d taken).built i (input_of_dependant b.edges i d dependants are has)))
    ]

    now_ready : AreReady (set b.marks.items i Built) unbuilt ready
    now_ready = record {
      sized = woken.sized ∙ kept.ready.sized ∙ sym (length-set b.marks.items i Built);
      sound = λ d member. elim (woken.sound d member) [
        | inl was ↦
            let before = kept.ready.sound d was in
            (still_free d before.0, omega (arith, lowered d, before.1))
        | inr found ↦ (still_free d (dependant_free d found.0), found.1)
      ];
      complete = λ d in_range free none. elim (cases_eq d i) [
        | inl same ↦
            let is : Built ≡ Free = sym (get_or-set_same b.marks.items i Built Free known.within)
            ∙ subst (λ (n : ℕ). mark_of (set b.marks.items i Built) n ≡ Free) same free in
            cc
        | inr apart ↦
            let was_free = sym (get_or-set_other b.marks.items i d Built Free apart) ∙ free in
            let in_marks : d < length b.marks.items = omega (arith, length-set b.marks.items i Built) in
            elim (cases_eq (get_or b.unbuilt d 0) 0) [
              | inl was_none ↦ woken.still d (kept.ready.complete d in_marks was_free was_none)
              | inr was_some ↦ woken.woken d (Contains-from_count d dependants (omega (arith, lowered d, none))) none
            ]
      ];
    }

-- what stands once node i has failed and the nodes that depend on it are known, before these are counted
pub record AreFailing (b : Inside) (i : ℕ) (doomed : List Bool) (middle : Counts) : Type 0 where
  pub settled : AreSettled b.edges (set b.marks.items i Failed)
  pub known : AreDoomed b.edges (set b.marks.items i Failed) doomed
  pub tally : IsTally (statuses_of (set b.marks.items i Failed) b.doomed) middle
  pub old_sized : length b.doomed ≡ length (set b.marks.items i Failed)
  pub new_sized : length doomed ≡ length (set b.marks.items i Failed)
  pub free : (d : ℕ) → IsMember doomed d → mark_of (set b.marks.items i Failed) d ≡ Free

pub failed_parts : (b : Inside) (i n : ℕ) (was : Status) (doomed : List Bool) (middle : Counts) → IsKept b → MayChange b i was → SpreadsFrom b.edges i b.doomed doomed
    → IsMoved was status.Failed b.counts middle → AreFailing b i doomed middle
failed_parts b i n was doomed middle kept known spreads moved =
    let low = not_doomed b.edges b.marks.items b.doomed i kept.settled kept.doomed known.inputs in
    let now_settled = AreSettled-set b.edges b.marks.items i Failed kept.settled known.within known.unbuilt known.inputs in
    let now_doomed = AreDoomed-failed b.edges b.marks.items b.doomed doomed i kept.doomed spreads known.within known.sound in
    let sized = length-set b.marks.items i Failed ∙ kept.marked in
    record {
      settled = now_settled;
      known = now_doomed;
      tally = IsTally-moved b.marks.items b.doomed i Failed was status.Failed b.counts middle kept.tally known.within
          (ap (λ (down : Bool). status_by (mark_of b.marks.items i) down) low ∙ known.is_was) refl moved;
      old_sized = kept.doomed.sized ∙ sym sized;
      new_sized = now_doomed.sized ∙ sym sized;
      free = λ d member. HasFailedBelow-free b.edges (set b.marks.items i Failed) d now_settled (now_doomed.sound d member);
    }

-- a board whose node i fails
pub IsKept-failed : (b : Inside) (i n : ℕ) (was : Status) (marks : Vec Mark Global) (doomed ready : List Bool) (middle counts : Counts)
    (work : Vec ℕ Global) → IsKept b → MayChange b i was
    → marks.items ≡ set b.marks.items i Failed → ready ≡ set b.ready i false
    → SpreadsFrom b.edges i b.doomed doomed → n + size_of b.doomed ≡ size_of doomed
    → work.items ≡ [] → vec_capacity work ≡ vec_capacity b.work
    → IsMoved was status.Failed b.counts middle → AreCancelled n middle counts
    → IsKept (record b { marks = marks; doomed = doomed; ready = ready; counts = counts; work = work })
IsKept-failed b i n was marks doomed ready middle counts work kept known marks_are ready_is spreads grown idle room moved cancelled =
    let failing = failed_parts b i n was doomed middle kept known spreads moved in
    record {
      marked = ap length marks_are ∙ length-set b.marks.items i Failed ∙ kept.marked;
      settled = subst (λ (xs : List Mark). AreSettled b.edges xs) (sym marks_are) failing.settled;
      counted = subst (λ (xs : List Mark). AreCounted b.edges xs b.unbuilt) (sym marks_are)
          (AreCounted-set b.edges b.marks.items b.unbuilt i Failed kept.counted known.within (not_built_test (mark_of b.marks.items i) known.unbuilt) refl);
      doomed = subst (λ (xs : List Mark). AreDoomed b.edges xs doomed) (sym marks_are) failing.known;
      ready = subst (λ (xs : List Mark). AreReady xs b.unbuilt ready) (sym marks_are)
          (subst (λ (xs : List Bool). AreReady (set b.marks.items i Failed) b.unbuilt xs) (sym ready_is)
          (AreReady-put b.marks.items b.unbuilt b.ready i Failed false kept.ready known.within (λ is. cc)));
      tally = subst (λ (xs : List Mark). IsTally (statuses_of xs doomed) counts) (sym marks_are)
          (IsTally-spread (set b.marks.items i Failed) b.doomed doomed n middle counts failing.tally
          failing.old_sized failing.new_sized spreads.still failing.free grown cancelled);
      idle = idle;
      room = subst (λ (k : ℕ). length b.edges < k) (sym room) kept.room;
    }

-- as many as a failure cancels were waiting
pub cancelled_le : (b : Inside) (i n : ℕ) (was : Status) (doomed : List Bool) (middle : Counts) → IsKept b → MayChange b i was → SpreadsFrom b.edges i b.doomed doomed → n + size_of b.doomed ≡ size_of doomed
    → IsMoved was status.Failed b.counts middle → n ≤ middle.waiting
cancelled_le b i n was doomed middle kept known spreads grown moved =
    let failing = failed_parts b i n was doomed middle kept known spreads moved in
    waiting_enough (set b.marks.items i Failed) b.doomed doomed n middle failing.tally failing.old_sized failing.new_sized
    spreads.still failing.free grown

pub MayChange-ready : (b : Inside) (i : ℕ) → IsKept b → IsReady (shown b) i → MayChange b i status.Waiting
MayChange-ready b i kept ready = record {
  within = omega (arith, ready.node, kept.marked);
  unbuilt = λ is. let both : Free ≡ Built = sym ready.waiting.0 ∙ is in cc;
  sound = λ is. let both : Free ≡ Failed = sym ready.waiting.0 ∙ is in cc;
  inputs = ready.inputs_built;
  is_was = ap (λ (m : Mark). status_by m false) ready.waiting.0;
}

pub MayChange-from : (b : Inside) (i : ℕ) (was : Status) → IsKept b → HasStatus (shown b) i was → CanFail (shown b) i → MayChange b i was
MayChange-from b i status.Waiting kept has can = elim can [
  | inl leased ↦ (let both : Leased ≡ Free = sym leased ∙ has.0 in cc)
  | inr ready ↦ MayChange-ready b i kept ready
]
MayChange-from b i status.Leased kept has can = MayChange-leased b i kept has
MayChange-from b i status.Built kept has can = elim can [
  | inl leased ↦ (let both : Leased ≡ Built = sym leased ∙ has in cc)
  | inr ready ↦ (let both : Free ≡ Built = sym ready.waiting.0 ∙ has in cc)
]
MayChange-from b i status.Failed kept has can = elim can [
  | inl leased ↦ (let both : Leased ≡ Failed = sym leased ∙ has in cc)
  | inr ready ↦ (let both : Free ≡ Failed = sym ready.waiting.0 ∙ has in cc)
]
MayChange-from b i status.Cancelled kept has can = elim can [
  | inl leased ↦ (let both : Leased ≡ Free = sym leased ∙ has.0 in cc)
  | inr ready ↦ absurd (elim has.1 [ inl stopped ↦ ready.waiting.1 stopped | inr below ↦ ready.waiting.2 below ])
]

-- the same of what contracts see of the board
pub known_leased : (b : Inside) (p : Progress) (i : ℕ) → IsKept b → shown b ≡ p → IsLeased p i → MayChange b i status.Leased
known_leased b p i kept is leased = MayChange-leased b i kept (subst (λ (q : Progress). IsLeased q i) (sym is) leased)

pub known_ready : (b : Inside) (p : Progress) (i : ℕ) → IsKept b → shown b ≡ p → IsReady p i → MayChange b i status.Waiting
known_ready b p i kept is ready = MayChange-ready b i kept (subst (λ (q : Progress). IsReady q i) (sym is) ready)

pub known_failing : (b : Inside) (p : Progress) (i : ℕ) (was : Status) → IsKept b → shown b ≡ p → HasStatus p i was → CanFail p i → MayChange b i was
known_failing b p i was kept is has can =
    MayChange-from b i was kept (subst (λ (q : Progress). HasStatus q i was) (sym is) has) (subst (λ (q : Progress). CanFail q i) (sym is) can)

-- a node with a status is counted there
pub counted_some : (b : Inside) (i : ℕ) (s : Status) → IsKept b → MayChange b i s → 0 < count_in s b.counts
counted_some b i s kept known =
    let low = not_doomed b.edges b.marks.items b.doomed i kept.settled kept.doomed known.inputs in
    subst (λ (n : ℕ). 0 < n) (sym (count_in-tally (statuses_of b.marks.items b.doomed) b.counts s kept.tally))
    (counted_at s b.marks.items b.doomed i known.within (ap (λ (down : Bool). status_by (mark_of b.marks.items i) down) low ∙ known.is_was) (same_itself s))

-- a leased one as leased, and a ready one as waiting
pub counted_leased : (b : Inside) (p : Progress) (i : ℕ) → IsKept b → shown b ≡ p → IsLeased p i → 0 < count_in status.Leased b.counts
counted_leased b p i kept is leased = counted_some b i status.Leased kept (known_leased b p i kept is leased)

pub counted_ready : (b : Inside) (p : Progress) (i : ℕ) → IsKept b → shown b ≡ p → IsReady p i → 0 < count_in status.Waiting b.counts
counted_ready b p i kept is ready = counted_some b i status.Waiting kept (known_ready b p i kept is ready)

-- the counts sum to the number of marks
pub total_of-kept : (b : Inside) → IsKept b → total_of b.counts ≡ length b.marks.items
total_of-kept b kept =
    total_of-tally (statuses_of b.marks.items b.doomed) b.counts kept.tally ∙ length-statuses_of b.marks.items b.doomed

-- and so they are those of numbers of 64 bits
pub counts_fit : (b : Inside) → IsKept b → total_of b.counts < 2 ^ 64
counts_fit b kept = omega (arith, total_of-kept b kept, b.marks.ok.0)

-- the members of the ready set are the ready nodes
pub ready_from_member : (b : Inside) (d : ℕ) → IsKept b → (IsStopped (shown b) → ⊥) → IsMember b.ready d → IsReady (shown b) d
ready_from_member b d kept going member =
    let known = kept.ready.sound d member in
    let inputs = inputs_built_from_none b.edges b.marks.items b.unbuilt d kept.counted known.1 in
    record {
      node = omega (arith, IsMember-within b.ready d member, kept.ready.sized, kept.marked);
      waiting = (known.0, going, built_above_none b.edges b.marks.items d kept.settled inputs);
      inputs_built = inputs;
    }

pub member_from_ready : (b : Inside) (d : ℕ) → IsKept b → IsReady (shown b) d → IsMember b.ready d
member_from_ready b d kept ready =
    kept.ready.complete d (omega (arith, ready.node, kept.marked)) ready.waiting.0
    (unbuilt_none b.edges b.marks.items b.unbuilt d kept.counted ready.inputs_built)

-- so the first member is the first ready node
pub IsNextReady-kept : (b : Inside) (from : ℕ) (found : Option ℕ) → IsKept b → (IsStopped (shown b) → ⊥) → IsFirstFrom b.ready from found
    → IsNextReady (shown b) from found
IsNextReady-kept b from None kept going none = λ k from_on ready. none k from_on (member_from_ready b k kept ready)
IsNextReady-kept b from (Some d) kept going first = record {
  ready = ready_from_member b d kept going first.member;
  not_before = first.not_before;
  first = λ k from_on before ready. first.least k from_on before (member_from_ready b k kept ready);
}

-- the statuses by the marks, where nothing has stopped the board
status_known : (p : Progress) (doomed : List Bool) (d : ℕ) (m : Mark) (down : Bool) → AreDoomed p.inputs p.marks doomed → (IsStopped p → ⊥)
    → mark_of p.marks d ≡ m → get_or doomed d false ≡ down → HasStatus p d (status_by m down)
status_known p doomed d Free true known going is down = (is, inr (known.sound d down))
status_known p doomed d Free false known going is down =
    (is, going, λ below. false≢true (sym down ∙ known.complete d below))
status_known p doomed d Leased down known going is flag = is
status_known p doomed d Built down known going is flag = is
status_known p doomed d Failed down known going is flag = is

pub AreCounts-going : (p : Progress) (doomed : List Bool) (counts : Counts) → length p.marks ≡ length p.inputs → AreDoomed p.inputs p.marks doomed
    → (IsStopped p → ⊥) → IsTally (statuses_of p.marks doomed) counts → AreCounts p counts
AreCounts-going p doomed counts marked known going tally = record {
  statuses = statuses_of p.marks doomed;
  of_nodes = record {
    one_each = length-statuses_of p.marks doomed ∙ marked;
    right = λ d within. subst (λ (s : Status). HasStatus p d s)
        (sym (get_or-statuses_of p.marks doomed d (omega (arith, within, marked))))
        (status_known p doomed d (mark_of p.marks d) (get_or doomed d false) known going refl refl);
  };
  tally = tally;
}

-- and where something has
status_stopped : (p : Progress) (d : ℕ) (m : Mark) → IsStopped p → mark_of p.marks d ≡ m → HasStatus p d (status_by m true)
status_stopped p d Free stopped is = (is, inl stopped)
status_stopped p d Leased stopped is = is
status_stopped p d Built stopped is = is
status_stopped p d Failed stopped is = is

pub AreCounts-stopped : (p : Progress) (doomed : List Bool) (counts new : Counts) → length p.marks ≡ length p.inputs
    → IsStopped p → IsTally (statuses_of p.marks doomed) counts
    → new.waiting ≡ 0 → new.cancelled ≡ counts.waiting + counts.cancelled → new.leased ≡ counts.leased → new.built ≡ counts.built
    → new.failed ≡ counts.failed → AreCounts p new
AreCounts-stopped p doomed counts new marked stopped tally waiting cancelled leased built failed = record {
  statuses = stopped_statuses p.marks;
  of_nodes = record {
    one_each = length-map p.marks (λ m. status_by m true) ∙ marked;
    right = λ d within. subst (λ (s : Status). HasStatus p d s)
        (sym (get_or-map (λ m. status_by m true) p.marks d Free status.Waiting (omega (arith, within, marked))))
        (status_stopped p d (mark_of p.marks d) stopped refl);
  };
  tally = IsTally-stopped p.marks doomed counts new tally waiting cancelled leased built failed;
}

-- the counters of the dependants of a node that isn't built allow for it
pub lower_within : (b : Inside) (i : ℕ) (dependants : List ℕ) → IsKept b → mark_of b.marks.items i ≡ Leased → AreDependants b.edges i dependants
    → (d : ℕ) → count_by (eqb d) dependants ≤ get_or b.unbuilt d 0
lower_within b i dependants kept leased are d =
    let within = (MayChange-leased b i kept leased).within in
    omega (
      arith,
      kept.counted.counted d,
      are.same d,
      unbuilt_of-built b.marks.items i within (ap is_built leased) (inputs_of b.edges d),
    )

-- whether a node has failed, by the count
pub failure_told : (b : Inside) (some : Bool) → IsKept b → ltb 0 b.counts.failed ≡ some
    → MatchBool some (HasFailure b.marks.items) (HasFailure b.marks.items → ⊥)
failure_told b true kept is =
    let some : 0 < b.counts.failed = ltb-true 0 b.counts.failed is in
    failure_from_count b.marks.items b.doomed (omega (arith, kept.tally.failed))
failure_told b false kept is = λ failure.
    let some = count_from_failure b.marks.items b.doomed failure in
    let counted : 0 < b.counts.failed = omega (arith, kept.tally.failed) in
    false≢true (sym is ∙ lt-ltb 0 b.counts.failed counted)

-- in a list of free marks every node is free
pub mark_of-fresh : (n d : ℕ) → mark_of (replicate n Free) d ≡ Free
mark_of-fresh n d = elim (cases_lt d n) [
  | inl within ↦ get_or-replicate n d Free Free within
  | inr past ↦ get_or_past (replicate n Free) d Free (omega (arith, length-replicate n Free))
]

fresh_unbuilt : (n : ℕ) (xs : List ℕ) → count_by (λ c. not (is_built (mark_of (replicate n Free) c))) xs ≡ length xs
fresh_unbuilt n [] = refl
fresh_unbuilt n (x ∷ xs) =
    count_by-cons_yes (λ c. not (is_built (mark_of (replicate n Free) c))) x xs (ap (λ (m : Mark). not (is_built m)) (mark_of-fresh n x))
    ∙ omega (arith, fresh_unbuilt n xs)

-- in a list of flags that are down no node is a member
fresh_flags : (n d : ℕ) → IsMember (replicate n false) d → ⊥
fresh_flags n d member = elim (cases_lt d n) [
  | inl within ↦ false≢true (sym (get_or-replicate n d false false within) ∙ member)
  | inr past ↦ false≢true (sym (get_or_past (replicate n false) d false (omega (arith, length-replicate n false))) ∙ member)
]

pub AreDoomed-fresh : (rows : List (List ℕ)) (n : ℕ) → n ≡ length rows → AreDoomed rows (replicate n Free) (replicate n false)
AreDoomed-fresh rows n is = record {
  sized = length-replicate n false ∙ is;
  sound = λ d member. absurd (fresh_flags n d member);
  complete = λ d below.
      let both : Free ≡ Failed = sym (mark_of-fresh n below.node) ∙ below.failed in
      cc;
}

fresh_tally : (n : ℕ) (counts : Counts) → counts.waiting ≡ n → counts.leased ≡ 0 → counts.built ≡ 0 → counts.failed ≡ 0 → counts.cancelled ≡ 0
    → IsTally (statuses_of (replicate n Free) (replicate n false)) counts
fresh_tally n counts waiting leased built failed cancelled =
    let fresh = fresh_counts n in
    record {
      waiting = waiting ∙ sym fresh.waiting;
      leased = leased ∙ sym fresh.leased;
      built = built ∙ sym fresh.built;
      failed = failed ∙ sym fresh.failed;
      cancelled = cancelled ∙ sym fresh.cancelled;
    }

-- a board over these edges on which nothing has happened
pub IsKept-fresh : (b : Inside) (n : ℕ) → n ≡ length b.edges → b.marks.items ≡ replicate n Free → b.unbuilt ≡ map length b.edges
    → AreZero b.unbuilt b.ready → b.doomed ≡ replicate n false
    → b.counts.waiting ≡ n → b.counts.leased ≡ 0 → b.counts.built ≡ 0 → b.counts.failed ≡ 0 → b.counts.cancelled ≡ 0
    → b.work.items ≡ [] → n < vec_capacity b.work → IsKept b
IsKept-fresh b n is marks unbuilt zeros doomed waiting leased built failed cancelled idle room = record {
  marked = ap length marks ∙ length-replicate n Free ∙ is;
  settled = record { settled = λ d taken. absurd (taken (all_free d)) };
  counted = counted;
  doomed = subst (λ (xs : List Bool). AreDoomed b.edges b.marks.items xs) (sym doomed)
      (subst (λ (xs : List Mark). AreDoomed b.edges xs (replicate n false)) (sym marks) (AreDoomed-fresh b.edges n is));
  ready = record {
    sized = zeros.sized ∙ ap length unbuilt ∙ length-map b.edges length ∙ sym is ∙ sym (length-replicate n Free) ∙ sym (ap length marks);
    sound = λ d member. (all_free d, zeros.sound d member);
    complete = λ d within free none. zeros.complete d
        (omega (arith, within, ap length unbuilt, length-map b.edges length, ap length marks, length-replicate n Free)) none;
  };
  tally = subst (λ (xs : List Bool). IsTally (statuses_of b.marks.items xs) b.counts) (sym doomed)
      (subst (λ (xs : List Mark). IsTally (statuses_of xs (replicate n false)) b.counts) (sym marks)
      (fresh_tally n b.counts waiting leased built failed cancelled));
  idle = idle;
  room = omega arith;
}
  where
    all_free : (d : ℕ) → mark_of b.marks.items d ≡ Free
    all_free d = ap (λ (xs : List Mark). mark_of xs d) marks ∙ mark_of-fresh n d

    length_at : (d : ℕ) → get_or (map length b.edges) d 0 ≡ length (inputs_of b.edges d)
    length_at d = elim (cases_lt d (length b.edges)) [
      | inl within ↦ get_or-map length b.edges d [] 0 within
      | inr past ↦ get_or_past (map length b.edges) d 0 (omega (arith, length-map b.edges length))
          ∙ sym (ap (λ (xs : List ℕ). length xs) (get_or_past b.edges d [] past))
    ]

    counted : AreCounted b.edges b.marks.items b.unbuilt
    counted = record {
      sized = ap length unbuilt ∙ length-map b.edges length;
      counted = λ d. ap (λ (xs : List ℕ). get_or xs d 0) unbuilt ∙ length_at d ∙ sym (fresh_unbuilt n (inputs_of b.edges d))
          ∙ ap (λ (xs : List Mark). unbuilt_of b.edges xs d) (sym marks);
    }

-- a board with the same fields
pub IsKept-same : (b copy : Inside) → IsKept b → copy.edges ≡ b.edges → copy.marks.items ≡ b.marks.items → copy.unbuilt ≡ b.unbuilt
    → copy.doomed ≡ b.doomed → copy.ready ≡ b.ready → copy.counts ≡ b.counts → copy.work.items ≡ []
    → vec_capacity copy.work ≡ vec_capacity b.work → IsKept copy
IsKept-same b copy kept edges marks unbuilt doomed ready counts idle room = record {
  marked = ap length marks ∙ kept.marked ∙ sym (ap length edges);
  settled = of_edges (λ rows. AreSettled rows copy.marks.items)
      (of_marks (λ xs. AreSettled b.edges xs) kept.settled);
  counted = of_edges (λ rows. AreCounted rows copy.marks.items copy.unbuilt)
      (of_marks (λ xs. AreCounted b.edges xs copy.unbuilt)
      (subst (λ (xs : List ℕ). AreCounted b.edges b.marks.items xs) (sym unbuilt) kept.counted));
  doomed = of_edges (λ rows. AreDoomed rows copy.marks.items copy.doomed)
      (of_marks (λ xs. AreDoomed b.edges xs copy.doomed)
      (subst (λ (xs : List Bool). AreDoomed b.edges b.marks.items xs) (sym doomed) kept.doomed));
  ready = of_marks (λ xs. AreReady xs copy.unbuilt copy.ready)
      (subst (λ (xs : List ℕ). AreReady b.marks.items xs copy.ready) (sym unbuilt)
      (subst (λ (xs : List Bool). AreReady b.marks.items b.unbuilt xs) (sym ready) kept.ready));
  tally = of_marks (λ xs. IsTally (statuses_of xs copy.doomed) copy.counts)
      (subst (λ (xs : List Bool). IsTally (statuses_of b.marks.items xs) copy.counts) (sym doomed)
      (subst (λ (x : Counts). IsTally (statuses_of b.marks.items b.doomed) x) (sym counts) kept.tally));
  idle = idle;
  room = subst (λ (k : ℕ). length copy.edges < k) (sym room) (subst (λ (k : ℕ). k < vec_capacity b.work) (sym (ap length edges)) kept.room);
}
  where
    of_edges : (P : List (List ℕ) → Type 0) → P b.edges → P copy.edges
    of_edges P is = subst P (sym edges) is

    of_marks : (P : List Mark → Type 0) → P b.marks.items → P copy.marks.items
    of_marks P is = subst P (sym marks) is

pub shown-same : (rows copied_rows : List (List ℕ)) (keep_going : Bool) (marks copied_marks : List Mark) (stop : Bool)
    → copied_rows ≡ rows → copied_marks ≡ marks
    → (let p : Progress = record { inputs = copied_rows; keep_going = keep_going; marks = copied_marks; stop = stop } in p)
    ≡ record { inputs = rows; keep_going = keep_going; marks = marks; stop = stop }
shown-same rows copied_rows keep_going marks copied_marks stop same_rows same_marks = cc

-- a node is ready exactly where it is in the set
pub ready_by_set : (b : Inside) (d : ℕ) (up : Bool) → IsKept b → (IsStopped (shown b) → ⊥) → up ≡ get_or b.ready d false
    → MatchBool up (IsReady (shown b) d) (IsReady (shown b) d → ⊥)
ready_by_set b d true kept going is = ready_from_member b d kept going (sym is)
ready_by_set b d false kept going is = λ ready. false≢true (is ∙ member_from_ready b d kept ready)
