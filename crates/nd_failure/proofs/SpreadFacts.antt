-- The nodes that depend on a failed one: each turn of the work list, and its end.
use Rattle.std.proofs.Common.{◌≡◌, ◌<◌, ℕ, zero, suc, Bool, true, false, ◌⊎◌, eqb, List, [], ◌∷◌, ◌++◌, length, Contains, All, get_or, refl, sym, ◌∙◌, subst, inl, inr, eq-eqb, arith}
use Rattle.std.proofs.Math.ListN.{set, length-set}
use Rattle.std.proofs.lemmas.List.{get_or-set_same, get_or-set_other, get_or_past}
use Rattle.std.proofs.lemmas.List.Elements.{Contains-push, Contains-push_cases, Contains-append_left, Contains-get_or}
use Rattle.std.proofs.lemmas.Bool.{cases_eq, cases_lt}
use Rattle.nd_graph.specs.Walks.{inputs_of, Walk, IsBelow}
use Rattle.nd_flags.specs.Members.{IsMember}
use Rattle.nd_failure.specs.Reversed.{AreDependants}
use Rattle.nd_failure.specs.Spread.{Visited, Spreading, IsClosed, SpreadsFrom}
use Rattle.nd_failure.specs.Progress.{mark_of}
use Rattle.nd_failure.specs.Kept.{AreDoomed}
use Rattle.nd_failure.specs.declared.status.Mark.{Mark}
use Rattle.nd_failure.specs.declared.status.Mark.TheVariants.{Free, Failed}
use Rattle.nd_failure.proofs.BelowFacts.{IsBelow-input, IsBelow-step, HasFailedBelow-step}
use Rattle.nd_failure.proofs.MarkFacts.{HasFailedBelow-set}
use Rattle.nd_failure.proofs.CountFacts.{count-from_Contains, Contains-from_count}

-- a dependant has the node as an input, and what has it as an input is a dependant
pub input_of_dependant : (rows : List (List ℕ)) (c d : ℕ) (dependants : List ℕ) → AreDependants rows c dependants → Contains dependants d
    → Contains (inputs_of rows d) c
input_of_dependant rows c d dependants are has =
    Contains-from_count c (inputs_of rows d)
    (subst (λ (n : ℕ). 0 < n) (are.same d) (count-from_Contains (eqb d) dependants d has (eq-eqb d d refl)))

pub dependant_of_input : (rows : List (List ℕ)) (c d : ℕ) (dependants : List ℕ) → AreDependants rows c dependants
    → Contains (inputs_of rows d) c → Contains dependants d
dependant_of_input rows c d dependants are has =
    Contains-from_count d dependants
    (subst (λ (n : ℕ). 0 < n) (sym (are.same d)) (count-from_Contains (eqb c) (inputs_of rows d) c has (eq-eqb c c refl)))

-- no node visited yet
pub Visited-none : (old : List Bool) (work : List ℕ) → Visited [] old old work work
Visited-none old work = record {
  sized = refl;
  still = λ d member. member;
  reached = λ d has. absurd (omega (arith, has.1));
  fresh = λ d member. inl member;
  kept = λ d has. has;
  added = λ d has. inl has;
}

-- one more that was in the set
pub Visited-again : (from : List ℕ) (old new : List Bool) (work after : List ℕ) (d : ℕ) → Visited from old new work after
    → IsMember new d → Visited (from ++ d ∷ []) old new work after
Visited-again from old new work after d visited member = record {
  sized = visited.sized;
  still = visited.still;
  reached = λ x has. elim (Contains-push_cases from d x has) [
    | inl before ↦ visited.reached x before
    | inr same ↦ subst (λ (n : ℕ). IsMember new n) same member
  ];
  fresh = λ x known. elim (visited.fresh x known) [
    | inl was ↦ inl was
    | inr found ↦ inr (Contains-append_left from (d ∷ []) x found.0, found.1)
  ];
  kept = visited.kept;
  added = λ x has. elim (visited.added x has) [
    | inl was ↦ inl was
    | inr found ↦ inr (Contains-append_left from (d ∷ []) x found)
  ];
}

-- one more that was not
pub Visited-more : (from : List ℕ) (old new : List Bool) (work after : List ℕ) (d : ℕ) → Visited from old new work after
    → d < length new → Visited (from ++ d ∷ []) old (set new d true) work (after ++ d ∷ [])
Visited-more from old new work after d visited within = record {
  sized = length-set new d true ∙ visited.sized;
  still = λ x was. put_keeps x (visited.still x was);
  reached = λ x has. elim (Contains-push_cases from d x has) [
    | inl before ↦ put_keeps x (visited.reached x before)
    | inr same ↦ subst (λ (n : ℕ). IsMember (set new d true) n) same (get_or-set_same new d true false within)
  ];
  fresh = λ x known. elim (cases_eq x d) [
    | inl same ↦ inr (subst (λ (n : ℕ). Contains (from ++ d ∷ []) n × Contains (after ++ d ∷ []) n) (sym same)
        (Contains-push from d, Contains-push after d))
    | inr apart ↦ elim (visited.fresh x (sym (get_or-set_other new d x true false apart) ∙ known)) [
      | inl was ↦ inl was
      | inr found ↦ inr (Contains-append_left from (d ∷ []) x found.0, Contains-append_left after (d ∷ []) x found.1)
    ]
  ];
  kept = λ x has. Contains-append_left after (d ∷ []) x (visited.kept x has);
  added = λ x has. elim (Contains-push_cases after d x has) [
    | inl before ↦ elim (visited.added x before) [
      | inl was ↦ inl was
      | inr found ↦ inr (Contains-append_left from (d ∷ []) x found)
    ]
    | inr same ↦ inr (subst (λ (n : ℕ). Contains (from ++ d ∷ []) n) same (Contains-push from d))
  ];
}
  where
    put_keeps : (x : ℕ) → IsMember new x → IsMember (set new d true) x
    put_keeps x member = elim (cases_eq x d) [
      | inl same ↦ subst (λ (n : ℕ). IsMember (set new d true) n) (sym same) (get_or-set_same new d true false within)
      | inr apart ↦ get_or-set_other new d x true false apart ∙ member
    ]

-- the work list holds the root alone
pub Spreading-begun : (rows : List (List ℕ)) (root : ℕ) (old : List Bool) → IsClosed rows old → Spreading rows root old old (root ∷ [])
Spreading-begun rows root old old_closed = record {
  sized = refl;
  still = λ d member. member;
  sound = λ d member. inl member;
  closed = λ x d from has. elim from [
    | inl same ↦ inl (subst (λ (n : ℕ). Contains (root ∷ []) n) (sym same) (0, omega arith, refl))
    | inr member ↦ inr (old_closed.closed x d member has)
  ];
  worked = λ x has. elim (Contains-push_cases [] root x has) [
    | inl none ↦ absurd (omega (arith, none.1))
    | inr same ↦ inl (sym same)
  ];
}

-- what has an input that is the root or above it is above the root
above_root : (rows : List (List ℕ)) (root x d : ℕ) → (x ≡ root) ⊎ IsBelow rows x root → Contains (inputs_of rows d) x → IsBelow rows d root
above_root rows root x d from has = elim from [
  | inl same ↦ subst (λ (n : ℕ). IsBelow rows d n) same (IsBelow-input rows d x has)
  | inr below ↦ IsBelow-step rows d x root has below
]

-- a node is taken off the work list and its dependants are visited
pub Spreading-turn : (rows : List (List ℕ)) (root : ℕ) (old mid new : List Bool) (rest : List ℕ) (x : ℕ) (after dependants : List ℕ)
    → Spreading rows root old mid (rest ++ x ∷ []) → AreDependants rows x dependants → Visited dependants mid new rest after
    → Spreading rows root old new after
Spreading-turn rows root old mid new rest x after dependants spreading are visited = record {
  sized = visited.sized ∙ spreading.sized;
  still = λ d was. visited.still d (spreading.still d was);
  sound = λ d known. elim (visited.fresh d known) [
    | inl was ↦ spreading.sound d was
    | inr found ↦ inr (above found.0)
  ];
  closed = λ y d from has. elim (cases_eq y x) [
    | inl same ↦ inr (visited.reached d (dependant_of_input rows x d dependants are (subst (λ (n : ℕ). Contains (inputs_of rows d) n) same has)))
    | inr apart ↦ elim from [
      | inl is_root ↦ kept_closed y d apart (spreading.closed y d (inl is_root) has)
      | inr member ↦ elim (visited.fresh y member) [
        | inl was ↦ kept_closed y d apart (spreading.closed y d (inr was) has)
        | inr found ↦ inl found.1
      ]
    ]
  ];
  worked = λ y has. elim (visited.added y has) [
    | inl was ↦ spreading.worked y (Contains-append_left rest (x ∷ []) y was)
    | inr found ↦ inr (above found)
  ];
}
  where
    above : {d : ℕ} → Contains dependants d → IsBelow rows d root
    above {d} has = above_root rows root x d (spreading.worked x (Contains-push rest x)) (input_of_dependant rows x d dependants are has)

    kept_closed : (y d : ℕ) → (y ≡ x → ⊥) → Contains (rest ++ x ∷ []) y ⊎ IsMember mid d → Contains after y ⊎ IsMember new d
    kept_closed y d apart from = elim from [
      | inl on_list ↦ elim (Contains-push_cases rest x y on_list) [
        | inl before ↦ inl (visited.kept y before)
        | inr same ↦ absurd (apart (sym same))
      ]
      | inr member ↦ inr (visited.still d member)
    ]

-- with nothing left to visit, all that depends on the root is in the set
reached_by : (rows : List (List ℕ)) (root : ℕ) (old new : List Bool) → Spreading rows root old new []
    → (n d : ℕ) → Walk rows d root (suc n) → IsMember new d
reached_by rows root old new spreading zero d walk = elim (spreading.closed walk.0 d (inl walk.2) walk.1) [
  | inl none ↦ absurd (omega (arith, none.1))
  | inr member ↦ member
]
reached_by rows root old new spreading (suc n) d walk =
    elim (spreading.closed walk.0 d (inr (reached_by rows root old new spreading n walk.0 walk.2)) walk.1) [
      | inl none ↦ absurd (omega (arith, none.1))
      | inr member ↦ member
    ]

pub SpreadsFrom-done : (rows : List (List ℕ)) (root : ℕ) (old new : List Bool) → Spreading rows root old new [] → SpreadsFrom rows root old new
SpreadsFrom-done rows root old new spreading = record {
  sized = spreading.sized;
  still = spreading.still;
  sound = spreading.sound;
  complete = λ d below. reached_by rows root old new spreading below.steps d below.walk;
}

-- the nodes with a failed one below are closed under what depends on them
pub IsClosed-doomed : (rows : List (List ℕ)) (marks : List Mark) (doomed : List Bool) → AreDoomed rows marks doomed → IsClosed rows doomed
IsClosed-doomed rows marks doomed known = record {
  closed = λ x d member has. known.complete d (HasFailedBelow-step rows marks d x has (known.sound x member));
}

-- where a node fails, the nodes with a failed one below are those before and those that depend on it
pub AreDoomed-failed : (rows : List (List ℕ)) (marks : List Mark) (old new : List Bool) (i : ℕ) → AreDoomed rows marks old
    → SpreadsFrom rows i old new → i < length marks → (mark_of marks i ≡ Failed → ⊥) → AreDoomed rows (set marks i Failed) new
AreDoomed-failed rows marks old new i known spreads within before = record {
  sized = spreads.sized ∙ known.sized;
  sound = λ d member. elim (spreads.sound d member) [
    | inl was ↦ HasFailedBelow-set rows marks i Failed before d (known.sound d was)
    | inr below ↦ record { node = i; below = below; failed = get_or-set_same marks i Failed Free within }
  ];
  complete = λ d below. elim (cases_eq below.node i) [
    | inl same ↦ spreads.complete d (subst (λ (n : ℕ). IsBelow rows d n) same below.below)
    | inr apart ↦ spreads.still d (known.complete d (record {
      node = below.node;
      below = below.below;
      failed = sym (get_or-set_other marks i below.node Failed Free apart) ∙ below.failed;
    }))
  ];
}

-- what has an input is a node
pub row_within : (rows : List (List ℕ)) (d c : ℕ) → Contains (inputs_of rows d) c → d < length rows
row_within rows d c has = elim (cases_lt d (length rows)) [
  | inl within ↦ within
  | inr past ↦ absurd (not_in_none c (subst (λ (row : List ℕ). Contains row c) (get_or_past rows d [] past) has))
]
  where
    not_in_none : (x : ℕ) → Contains [] x → ⊥
    not_in_none x none = omega (arith, none.1)

-- what is on the work list is a node
pub worked_within : (rows : List (List ℕ)) (root : ℕ) (old new : List Bool) (rest : List ℕ) (x : ℕ) → Spreading rows root old new (rest ++ x ∷ [])
    → root < length rows → x < length rows
worked_within rows root old new rest x spreading within = elim (spreading.worked x (Contains-push rest x)) [
  | inl same ↦ subst (λ (n : ℕ). n < length rows) (sym same) within
  | inr below ↦ row_within rows x below.walk.0 below.walk.1
]

-- and so is each dependant
pub dependants_within : (rows : List (List ℕ)) (c : ℕ) (dependants : List ℕ) (n : ℕ) → AreDependants rows c dependants → n ≡ length rows
    → All (λ d. d < n) dependants
dependants_within rows c dependants n are sized = λ k d within.
    subst (λ (m : ℕ). get_or dependants k d < m) (sym sized)
    (row_within rows (get_or dependants k d) c (input_of_dependant rows c (get_or dependants k d) dependants are (Contains-get_or dependants k d within)))
