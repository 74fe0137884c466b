-- Looking at the places one after the other, the best so far is the best of those that were
-- looked at.
use Rattle.std.proofs.Common.{◌≡◌, ◌⊎◌, inl, inr, ℕ, ◌+◌, ◌*◌, ◌<◌, ◌≤◌, mul-le-mul, Bool, true, false, true≢false, List, [], ◌∷◌, ◌++◌, length, take, get_or, Option, None, Some, refl, arith, sym, subst, ◌∙◌}
use Rattle.std.specs.Option.{option_map}
use Rattle.std.specs.Prelude.{Contains}
use Rattle.std.specs.List.Sorted.{IsStrictlyIncreasing}
use Rattle.std.proofs.lemmas.List.{take_more, get_or-take, length-take, get_or_default}
use Rattle.std.proofs.lemmas.List.Kept.{AllPairs-from_increasing}
use Rattle.std.proofs.lemmas.List.Elements.{Contains-append_left, Contains-push, Contains-push_cases}
use Rattle.std.proofs.lemmas.Bool.{cases_eq, cases_lt}
use Rattle.nd_machines.specs.Builders.{Builder}
use Rattle.nd_choose.specs.Order.{Beats}
use Rattle.nd_choose.specs.Best.{load_at, speed_at, jobs_at, is_up_at, IsFree, IsCandidate, ComesBefore, IsBest, IsChoice}
use Rattle.nd_choose.specs.Contenders.{IsContender, IsBetterAt, IsNoBetter}
use Rattle.nd_choose.specs.declared.contender.Contender.{Contender}
use Rattle.nd_choose.proofs.Ordered.{Follows, beats_on, beaten}

-- the next place, and which ones are meant then
pub record GoesOn (IsMeant IsMeantThen : ℕ → Type 0) (place : ℕ) : Type 0 where
  pub kept : (n : ℕ) → IsMeant n → IsMeantThen n
  pub here : IsMeantThen place
  pub only : (n : ℕ) → IsMeantThen n → IsMeant n ⊎ (n ≡ place)
  pub later : (n : ℕ) → IsMeant n → n < place

-- the places of a rising list, one after the other
pub among_goes_on : (among : List ℕ) (i : ℕ) → i < length among → IsStrictlyIncreasing among
    → GoesOn (Contains (take i among)) (Contains (take (i + 1) among)) (get_or among i 0)
among_goes_on among i within rising = record {
  kept = λ n before. rw more (Contains-append_left (take i among) (get_or among i 0 ∷ []) n before);
  here = rw more (Contains-push (take i among) (get_or among i 0));
  only = λ n found. elim (Contains-push_cases (take i among) (get_or among i 0) n (rw more at found)) [
    | inl before ↦ inl before
    | inr same ↦ inr (sym same)
  ];
  later = λ n before.
      let early : before.0 < i = omega (arith, before.1, length-take i among) in
      let rises = AllPairs-from_increasing among rising before.0 i n early within in
      let is : get_or among before.0 n ≡ n = sym (get_or-take i among before.0 n early) ∙ before.2 in
      subst (λ (m : ℕ). m < get_or among i 0) is (subst (λ (m : ℕ). get_or among before.0 n < m) (get_or_default among i n 0 within) rises);
}
  where
    more : take (i + 1) among ≡ take i among ++ get_or among i 0 ∷ []
    more = take_more among i 0 within

module _ (machines : List Builder) (loads : List ℕ) (ups : List Bool) where
  -- the best of those that are meant, with its numbers
  abbrev pub IsChosen : (ℕ → Type 0) → Option Contender → Type 0
  IsChosen IsMeant None = (n : ℕ) → IsCandidate machines loads ups IsMeant n → ⊥
  IsChosen IsMeant (Some best) = IsContender machines loads ups best.place best × IsBest machines loads ups IsMeant best.place

  -- the same, and that each candidate has a speed
  pub record IsSoFar (IsMeant : ℕ → Type 0) (best : Option Contender) : Type 0 where
    pub chosen : IsChosen IsMeant best
    pub moves : (n : ℕ) → IsCandidate machines loads ups IsMeant n → 0 < speed_at machines n

  candidate_along : (P Q : ℕ → Type 0) → ((n : ℕ) → P n → Q n) → (n : ℕ)
      → IsCandidate machines loads ups P n → IsCandidate machines loads ups Q n
  candidate_along P Q f n c = record { meant = f n c.meant; free = c.free }

  -- which machines are meant is said in another way
  pub best_along : (P Q : ℕ → Type 0) → ((n : ℕ) → P n → Q n) → ((n : ℕ) → Q n → P n) → (m : ℕ)
      → IsBest machines loads ups P m → IsBest machines loads ups Q m
  best_along P Q f g m b = record {
    candidate = candidate_along P Q f m b.candidate;
    first = λ other c differs. b.first other (candidate_along Q P g other c) differs;
  }

  pub so_far_along : (P Q : ℕ → Type 0) → ((n : ℕ) → P n → Q n) → ((n : ℕ) → Q n → P n) → (best : Option Contender)
      → IsSoFar P best → IsSoFar Q best
  so_far_along P Q f g None s = record {
    chosen = λ n c. s.chosen n (candidate_along Q P g n c);
    moves = λ n c. s.moves n (candidate_along Q P g n c);
  }
  so_far_along P Q f g (Some best) s = record {
    chosen = (s.chosen.0, best_along P Q f g best.place s.chosen.1);
    moves = λ n c. s.moves n (candidate_along Q P g n c);
  }

  -- a contender's numbers are those of its place
  numbers : (b c : Contender) → IsContender machines loads ups b.place b → IsContender machines loads ups c.place c → (P : ℕ → ℕ → ℕ → ℕ → Type 0)
      → P c.load c.speed b.load b.speed
      → P (load_at loads c.place) (speed_at machines c.place) (load_at loads b.place) (speed_at machines b.place)
  numbers b c bs cs P h =
      subst (λ (n : ℕ). P (load_at loads c.place) (speed_at machines c.place) (load_at loads b.place) n) bs.fast (
      subst (λ (n : ℕ). P (load_at loads c.place) (speed_at machines c.place) n b.speed) bs.loaded (
      subst (λ (n : ℕ). P (load_at loads c.place) n b.load b.speed) cs.fast (
      subst (λ (n : ℕ). P n c.speed b.load b.speed) cs.loaded h)))

  -- a place that comes before another is followed by it
  follows : (m n : ℕ) → ComesBefore machines loads m n → Follows (load_at loads m) (speed_at machines m) (load_at loads n) (speed_at machines n)
  follows m n (inl (inl lighter)) = inl lighter
  follows m n (inl (inr even)) = inr (even.0, omega (arith, even.1))
  follows m n (inr tie) = inr (tie.0, omega (arith, tie.1))

  -- a candidate that was one before, or the place that is looked at
  was_or_is : (P Q : ℕ → Type 0) (place : ℕ) → GoesOn P Q place → (n : ℕ) → IsCandidate machines loads ups Q n
      → IsCandidate machines loads ups P n ⊎ (n ≡ place)
  was_or_is P Q place g n c = elim (g.only n c.meant) [
    | inl old ↦ inl (record { meant = old; free = c.free })
    | inr same ↦ inr same
  ]

  -- where the place isn't free, the best stays
  was : (P Q : ℕ → Type 0) (place : ℕ) → GoesOn P Q place → (IsFree machines loads ups place → ⊥) → (n : ℕ) → IsCandidate machines loads ups Q n
      → IsCandidate machines loads ups P n
  was P Q place g taken n c = elim (was_or_is P Q place g n c) [
    | inl old ↦ old
    | inr same ↦ absurd (taken (subst (λ (m : ℕ). IsFree machines loads ups m) same c.free))
  ]

  passed : (P Q : ℕ → Type 0) (place : ℕ) → GoesOn P Q place → (IsFree machines loads ups place → ⊥) → (best : Option Contender)
      → IsSoFar P best → IsSoFar Q best
  passed P Q place g taken None s = record {
    chosen = λ n c. s.chosen n (was P Q place g taken n c);
    moves = λ n c. s.moves n (was P Q place g taken n c);
  }
  passed P Q place g taken (Some best) s = record {
    chosen = (
      s.chosen.0,
      record {
        candidate = candidate_along P Q g.kept best.place s.chosen.1.candidate;
        first = λ other c differs. s.chosen.1.first other (was P Q place g taken other c) differs;
      },
    );
    moves = λ n c. s.moves n (was P Q place g taken n c);
  }

  -- each candidate has a speed, the new one too
  moves_on : (P Q : ℕ → Type 0) (c : Contender) → GoesOn P Q c.place → IsContender machines loads ups c.place c
      → ((n : ℕ) → IsCandidate machines loads ups P n → 0 < speed_at machines n)
      → (n : ℕ) → IsCandidate machines loads ups Q n → 0 < speed_at machines n
  moves_on P Q c g cs before n candidate = elim (was_or_is P Q c.place g n candidate) [
    | inl old ↦ before n old
    | inr same ↦ subst (λ (m : ℕ). 0 < speed_at machines m) (sym same) (subst (λ (speed : ℕ). 0 < speed) cs.fast cs.moves)
  ]

  -- the first free one is the best
  only_one : (P Q : ℕ → Type 0) (c : Contender) → GoesOn P Q c.place → IsContender machines loads ups c.place c → IsSoFar P None → IsSoFar Q (Some c)
  only_one P Q c g cs s = record {
    chosen = (
      cs,
      record {
        candidate = record { meant = g.here; free = cs.free };
        first = λ other candidate differs. elim (was_or_is P Q c.place g other candidate) [
          | inl old ↦ absurd (s.chosen other old)
          | inr same ↦ absurd (differs same)
        ];
      },
    );
    moves = moves_on P Q c g cs s.moves;
  }

  -- one that beats the best takes its place
  replaced : (P Q : ℕ → Type 0) (b c : Contender) → GoesOn P Q c.place → IsContender machines loads ups c.place c → IsSoFar P (Some b)
      → Beats c.load c.speed b.load b.speed → IsSoFar Q (Some c)
  replaced P Q b c g cs s beats = record {
    chosen = (
      cs,
      record {
        candidate = record { meant = g.here; free = cs.free };
        first = λ other candidate differs. elim (was_or_is P Q c.place g other candidate) [
          | inr same ↦ absurd (differs same)
          | inl old ↦ inl (elim (cases_eq other b.place) [
            | inl same ↦ subst (λ (m : ℕ). Beats (load_at loads c.place) (speed_at machines c.place) (load_at loads m) (speed_at machines m)) (sym same) won
            | inr differ ↦ beats_on _ _ (load_at loads b.place) (speed_at machines b.place) _ _
                fast (s.moves b.place s.chosen.1.candidate) (s.moves other old) won
                (follows b.place other (s.chosen.1.first other old differ))
          ])
        ];
      },
    );
    moves = moves_on P Q c g cs s.moves;
  }
    where
      won : Beats (load_at loads c.place) (speed_at machines c.place) (load_at loads b.place) (speed_at machines b.place)
      won = numbers b c s.chosen.0 cs Beats beats

      fast : 0 < speed_at machines c.place
      fast = subst (λ (speed : ℕ). 0 < speed) cs.fast cs.moves

  -- one that doesn't beat the best, and stands later, leaves it
  stayed : (P Q : ℕ → Type 0) (b c : Contender) → GoesOn P Q c.place → IsContender machines loads ups c.place c → IsSoFar P (Some b)
      → (Beats c.load c.speed b.load b.speed → ⊥) → IsSoFar Q (Some b)
  stayed P Q b c g cs s fails = record {
    chosen = (
      s.chosen.0,
      record {
        candidate = candidate_along P Q g.kept b.place s.chosen.1.candidate;
        first = λ other candidate differs. elim (was_or_is P Q c.place g other candidate) [
          | inl old ↦ s.chosen.1.first other old differs
          | inr same ↦ subst (λ (m : ℕ). ComesBefore machines loads b.place m) (sym same) comes
        ];
      },
    );
    moves = moves_on P Q c g cs s.moves;
  }
    where
      comes : ComesBefore machines loads b.place c.place
      comes = elim (beaten _ _ _ _ (numbers b c s.chosen.0 cs (λ lc sc lb sb. Beats lc sc lb sb → ⊥) fails)) [
        | inl first ↦ inl first
        | inr tie ↦ inr (tie.0, tie.1, g.later b.place s.chosen.1.candidate.meant)
      ]

  -- one more place was looked at
  pub looked : (P Q : ℕ → Type 0) (place : ℕ) → GoesOn P Q place → (best taken : Option Contender)
      → IsSoFar P best → IsBetterAt machines loads ups place best taken → IsSoFar Q taken
  looked P Q place g best None s step =
      passed P Q place g step.0 None (subst (λ (b : Option Contender). IsSoFar P b) step.1 s)
  looked P Q place g best (Some taken) s (inl step) =
      passed P Q place g step.0 (Some taken) (subst (λ (b : Option Contender). IsSoFar P b) step.1 s)
  looked P Q place g None (Some taken) s (inr step) =
      let next = step.0 in
      subst (λ (c : Contender). IsSoFar Q (Some c)) (sym step.2)
      (only_one P Q next (subst (λ (m : ℕ). GoesOn P Q m) (sym step.1.stands) g)
      (subst (λ (m : ℕ). IsContender machines loads ups m next) (sym step.1.stands) step.1) s)
  looked P Q place g (Some best) (Some taken) s (inr step) =
      let next = step.0 in
      let goes = subst (λ (m : ℕ). GoesOn P Q m) (sym step.1.stands) g in
      let stands = subst (λ (m : ℕ). IsContender machines loads ups m next) (sym step.1.stands) step.1 in
      elim step.2 as (λ _. IsSoFar Q (Some taken)) [
        | inl won ↦ subst (λ (c : Contender). IsSoFar Q (Some c)) (sym won.1) (replaced P Q best next goes stands s won.0)
        | inr lost ↦ subst (λ (c : Contender). IsSoFar Q (Some c)) (sym lost.1) (stayed P Q best next goes stands s lost.0)
      ]

  -- all that are meant were looked at
  pub ended : (P Q : ℕ → Type 0) → ((n : ℕ) → P n → Q n) → ((n : ℕ) → Q n → P n) → (best : Option Contender)
      → IsSoFar P best → IsChoice machines loads ups Q (option_map (λ c. c.place) best)
  ended P Q f g None s = (so_far_along P Q f g None s).chosen
  ended P Q f g (Some best) s = (so_far_along P Q f g (Some best) s).chosen.1

-- a machine with as much load at no more speed doesn't beat the best
heavier : (load speed best_load best_speed : ℕ) → best_load ≤ load → speed ≤ best_speed → Beats load speed best_load best_speed → ⊥
heavier load speed best_load best_speed more slower (inl lighter) =
    let product : best_load * speed ≤ load * best_speed = mul-le-mul more slower in
    omega (arith, product, lighter)
heavier load speed best_load best_speed more slower (inr even) = omega (arith, even.1, slower)

-- so it leaves the best, whether it is free or not
pub passed_over : (machines : List Builder) (loads : List ℕ) (ups : List Bool) (place : ℕ) (best : Contender)
    → IsNoBetter machines loads place best → IsBetterAt machines loads ups place (Some best) (Some best)
passed_over machines loads ups place best no_better = elim (cases_lt (load_at loads place) (jobs_at machines place)) [
  | inr full ↦ inl (λ free. omega (arith, full, free.slot), refl)
  | inl slot ↦ by_up (is_up_at ups place) refl slot
]
  where
    by_up : (up : Bool) → is_up_at ups place ≡ up → load_at loads place < jobs_at machines place
        → IsBetterAt machines loads ups place (Some best) (Some best)
    by_up false down slot = inl (λ free. true≢false (sym free.up ∙ down), refl)
    by_up true up slot = inr (
      record { place = place; load = load_at loads place; speed = speed_at machines place },
      record { free = record { up = up; slot = slot }; stands = refl; loaded = refl; fast = refl; moves = no_better.moves },
      inr (heavier (load_at loads place) (speed_at machines place) best.load best.speed no_better.loaded no_better.slow, refl),
    )
