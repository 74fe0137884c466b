-- Each derivation that is due has a head, after each change of a queue.
use Rattle.std.proofs.Common.{◌≡◌, ◌≤◌, ◌<◌, ◌+◌, ℕ, Bool, true, false, List, length, get_or, refl, ap, sym, ◌∙◌, subst, inl, inr, arith}
use Rattle.std.proofs.Math.ListN.{set}
use Rattle.std.proofs.lemmas.List.{get_or-set_same, get_or-set_other}
use Rattle.std.proofs.lemmas.Bool.{cases_eq, cases_lt, false≢true}
use Rattle.nd_flags.specs.Members.{IsMember, IsLeastFrom}
use Rattle.nd_pump.specs.Grouped.{group_in, IsReadyIn, IsLeastReady}
use Rattle.nd_pump.specs.Queues.{Queued, IsDue, IsLeastDue}
use Rattle.nd_pump.specs.QueueKept.{IsHeadOf, AreHeaded}

-- a flag that is put up leaves the others
up_kept : (row : List Bool) (i k : ℕ) → i < length row → IsMember row k → IsMember (set row i true) k
up_kept row i k within member = elim (cases_eq k i) [
  | inl same ↦ subst (λ (j : ℕ). IsMember (set row i true) j) (sym same) (get_or-set_same row i true false within)
  | inr apart ↦ get_or-set_other row i k true false apart ∙ member
]

-- a flag that is put down leaves the others
down_kept : (row : List Bool) (i k : ℕ) → (k ≡ i → ⊥) → IsMember row k → IsMember (set row i false) k
down_kept row i k apart member = get_or-set_other row i k false false apart ∙ member

-- what is up once a flag is put down was up before, and is another one
down_back : (row : List Bool) (i k : ℕ) → i < length row → IsMember (set row i false) k → (k ≡ i → ⊥)
down_back row i k within member same =
    false≢true (sym (get_or-set_same row i false false within) ∙ subst (λ (j : ℕ). IsMember (set row i false) j) same member)

down_before : (row : List Bool) (i k : ℕ) → i < length row → IsMember (set row i false) k → IsMember row k
down_before row i k within member = sym (get_or-set_other row i k false false (down_back row i k within member)) ∙ member

-- a derivation becomes ready, and is flagged
pub added : (q : Queued) (heads : List Bool) (d : ℕ) → d < length q.ready → d < length heads → AreHeaded q heads
    → AreHeaded (record q { ready = set q.ready d true }) (set heads d true)
added q heads d in_ready in_heads headed = record {
  head = λ x due. elim (cases_eq x d) [
    | inl same ↦ (
      x,
      record {
        flagged = subst (λ (j : ℕ). IsMember (set heads d true) j) (sym same) (get_or-set_same heads d true false in_heads);
        due = due;
        group = refl;
        not_behind = omega arith;
      },
    )
    | inr apart ↦
        let before : IsDue q x = record { ready = sym (get_or-set_other q.ready d x true false apart) ∙ due.ready; awake = due.awake } in
        let old = headed.head x before in (
          old.0,
          record {
            flagged = up_kept heads d old.0 in_heads old.1.flagged;
            due = record { ready = up_kept q.ready d old.0 in_ready old.1.due.ready; awake = old.1.due.awake };
            group = old.1.group;
            not_behind = old.1.not_behind;
          },
        )
  ];
}

-- the least ready derivation of a group is a head of each that is due of it
first_head : (q : Queued) (heads : List Bool) (count g f x : ℕ) → f < length heads
    → IsLeastReady (record { groups = q.groups; ready = q.ready; count = count }) g f
    → group_in q.groups x ≡ g → IsDue q x → IsHeadOf q (set heads f true) x f
first_head q heads count g f x within first group due = record {
  flagged = get_or-set_same heads f true false within;
  due = record {
    ready = first.ready.ready;
    awake = subst (λ (h : ℕ). get_or q.parked h false ≡ false) (group ∙ sym first.ready.group) due.awake;
  };
  group = first.ready.group ∙ sym group;
  not_behind = elim (cases_lt x f) [
    | inl before ↦ absurd (first.least x before (record { group = group; ready = due.ready }))
    | inr from_on ↦ omega arith
  ];
}

-- the heads of the other groups stay where the least of a group is flagged
pub flagged_more : (q : Queued) (heads : List Bool) (count g f : ℕ) → f < length heads
    → IsLeastReady (record { groups = q.groups; ready = q.ready; count = count }) g f
    → ((x : ℕ) → (group_in q.groups x ≡ g → ⊥) → IsDue q x → (e : ℕ) × IsHeadOf q heads x e)
    → AreHeaded q (set heads f true)
flagged_more q heads count g f within first others = record {
  head = λ x due. elim (cases_eq (group_in q.groups x) g) [
    | inl same ↦ (f, first_head q heads count g f x within first same due)
    | inr apart ↦
        let old = others x apart due in
        (old.0, record { flagged = up_kept heads f old.0 within old.1.flagged; due = old.1.due; group = old.1.group; not_behind = old.1.not_behind })
  ];
}

-- the heads stay where no derivation of a group is ready
pub none_of : (q : Queued) (heads : List Bool) (count g : ℕ)
    → ((d : ℕ) → IsReadyIn (record { groups = q.groups; ready = q.ready; count = count }) g d → ⊥)
    → ((x : ℕ) → (group_in q.groups x ≡ g → ⊥) → IsDue q x → (e : ℕ) × IsHeadOf q heads x e)
    → AreHeaded q heads
none_of q heads count g none others = record {
  head = λ x due. elim (cases_eq (group_in q.groups x) g) [
    | inl same ↦ absurd (none x (record { group = same; ready = due.ready }))
    | inr apart ↦ others x apart due
  ];
}

-- a derivation is no longer ready, and its flag is down: the heads of the other groups stay
pub removed_others : (q : Queued) (heads : List Bool) (d : ℕ) → d < length q.ready → AreHeaded q heads → (x : ℕ)
    → (group_in q.groups x ≡ group_in q.groups d → ⊥) → IsDue (record q { ready = set q.ready d false }) x
    → (e : ℕ) × IsHeadOf (record q { ready = set q.ready d false }) (set heads d false) x e
removed_others q heads d in_ready headed x apart due =
    let before : IsDue q x = record { ready = down_before q.ready d x in_ready due.ready; awake = due.awake } in
    let old = headed.head x before in
    let other : old.0 ≡ d → ⊥ = λ same. apart (sym old.1.group ∙ ap (λ (e : ℕ). group_in q.groups e) same) in (
      old.0,
      record {
        flagged = down_kept heads d old.0 other old.1.flagged;
        due = record { ready = down_kept q.ready d old.0 other old.1.due.ready; awake = old.1.due.awake };
        group = old.1.group;
        not_behind = old.1.not_behind;
      },
    )

-- a group is woken: the heads of the other groups stay
pub woken_others : (q : Queued) (heads : List Bool) (g : ℕ) → AreHeaded q heads → (x : ℕ)
    → (group_in q.groups x ≡ g → ⊥) → IsDue (record q { parked = set q.parked g false }) x
    → (e : ℕ) × IsHeadOf (record q { parked = set q.parked g false }) heads x e
woken_others q heads g headed x apart due =
    let before : IsDue q x = record { ready = due.ready; awake = sym (get_or-set_other q.parked g (group_in q.groups x) false false apart) ∙ due.awake } in
    let old = headed.head x before in (
      old.0,
      record {
        flagged = old.1.flagged;
        due = record {
          ready = old.1.due.ready;
          awake = get_or-set_other q.parked g (group_in q.groups old.0) false false (λ same. apart (sym old.1.group ∙ same)) ∙ old.1.due.awake;
        };
        group = old.1.group;
        not_behind = old.1.not_behind;
      },
    )

-- a derivation that isn't due loses its flag, and is nobody's head
pub unflagged : (q : Queued) (heads : List Bool) (d : ℕ) → (IsDue q d → ⊥) → AreHeaded q heads → AreHeaded q (set heads d false)
unflagged q heads d stale headed = record {
  head = λ x due.
      let old = headed.head x due in (
        old.0,
        record {
          flagged = down_kept heads d old.0 (λ same. stale (subst (λ (e : ℕ). IsDue q e) same old.1.due)) old.1.flagged;
          due = old.1.due;
          group = old.1.group;
          not_behind = old.1.not_behind;
        },
      );
}

-- the first head that is due is the first derivation that is due
pub first_due : (q : Queued) (heads : List Bool) (from d : ℕ) → AreHeaded q heads → ((k : ℕ) → k < from → IsMember heads k → ⊥)
    → IsLeastFrom heads from d → IsDue q d → IsLeastDue q d
first_due q heads from d headed none first due = record {
  due = due;
  least = λ k before k_due.
      let head = headed.head k k_due in
      elim (cases_lt head.0 from) [
        | inl early ↦ none head.0 early head.1.flagged
        | inr from_on ↦ first.least head.0 (omega arith) (omega (arith, head.1.not_behind)) head.1.flagged
      ];
}

-- where no flag is up none is due
pub none_due : (q : Queued) (heads : List Bool) (from : ℕ) → AreHeaded q heads → ((k : ℕ) → k < from → IsMember heads k → ⊥)
    → ((k : ℕ) → from ≤ k → IsMember heads k → ⊥) → (d : ℕ) → IsDue q d → ⊥
none_due q heads from headed none past d due =
    let head = headed.head d due in
    elim (cases_lt head.0 from) [
      | inl early ↦ none head.0 early head.1.flagged
      | inr from_on ↦ past head.0 (omega arith) head.1.flagged
    ]

-- no flag is up before the one that is next to be looked at
pub searched_more : (heads after : List Bool) (from d : ℕ) → ((k : ℕ) → k < from → IsMember heads k → ⊥) → IsLeastFrom heads from d
    → d < length heads → after ≡ set heads d false → (k : ℕ) → k < d + 1 → IsMember after k → ⊥
searched_more heads after from d none first within is k before member =
    let up : IsMember (set heads d false) k = subst (λ (xs : List Bool). IsMember xs k) is member in
    let apart : k ≡ d → ⊥ = down_back heads d k within up in
    let was : IsMember heads k = down_before heads d k within up in
    elim (cases_lt k from) [
      | inl early ↦ none k early was
      | inr from_on ↦ elim (cases_lt k d) [
        | inl less ↦ first.least k (omega arith) less was
        | inr up_to ↦ apart (omega arith)
      ]
    ]
