use Rattle.std.proofs.Common.{◌≡◌, ℕ, inl, inr, refl, subst, true≢false, sym, arith}
use Rattle.std.proofs.lemmas.Bool.{cases_lt}
use Rattle.nd_eligible.specs.Eligibility.{IsEligibleAt}
use Rattle.nd_eligible.proofs.Places.{eligible_at, not_eligible_at, eligible_within}
use Rattle.nd_choose.proofs.Choosing.{looked, so_far_along, ended}
use Rattle.nd_choose.proofs.choice.choose.Goals as goal
use Rattle.nd_choose.proofs.choice.choose.Goals.{then-eligible, else-eligible}

-- one more place: an eligible machine was looked at, another is none of those that are meant
pub loop-place-preserved : goal.loop-place-preserved
loop-place-preserved c = elim c.if-eligible.branch [
  | then-eligible w ↦ rw w.best-is (looked c.args.machines.now c.args.loads.now c.args.up.now _ _ c.loop-place.place
      (record {
        kept = λ n meant. (omega arith, meant.1);
        here = (omega arith, eligible_at c.args.machines.now c.args.need.now c.loop-place.place c.index-machines-place.result c.loop-place-test.true c.index-machines-place.is (w.if-eligible.ensures.0 refl));
        only = λ n meant. elim (cases_lt n c.loop-place.place) [
          | inl before ↦ inl (before, meant.1)
          | inr least ↦ inr (omega arith)
        ];
        later = λ n meant. meant.0;
      })
      _ _ c.loop-place.invariant w.better_at-best.ensures)
  | else-eligible w ↦ rw w.best-is (so_far_along c.args.machines.now c.args.loads.now c.args.up.now _ _
      (λ n meant. (omega arith, meant.1))
      (λ n meant. elim (cases_lt n c.loop-place.place) [
        | inl before ↦ (before, meant.1)
        | inr least ↦
            let same : n ≡ c.loop-place.place = omega arith in
            absurd (not_eligible_at c.args.machines.now c.args.need.now c.loop-place.place c.index-machines-place.result c.loop-place-test.true c.index-machines-place.is
            (λ passes. true≢false (sym (w.if-eligible.ensures.1 passes)))
            (subst (λ (m : ℕ). IsEligibleAt c.args.machines.now c.args.need.now m) same meant.1))
      ])
      _ c.loop-place.invariant)
]

-- the eligible machines are all in the list
pub returns : goal.returns
returns c =
    rw c.place_of.ensures (ended c.args.machines.now c.args.loads.now c.args.up.now _ _
    (λ n meant. meant.1)
    (λ n meant. (let within = eligible_within c.args.machines.now c.args.need.now n meant in omega (arith, within), meant))
    c.loop-place.best c.loop-place.invariant)
