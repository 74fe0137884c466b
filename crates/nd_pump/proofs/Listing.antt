-- Derivations that are ready are listed one after another.
use Rattle.std.proofs.Common.{◌≡◌, ◌∙◌, ℕ, ◌+◌, ◌<◌, ◌≤◌, Bool, true, false, List, length, get_or, refl, sym, ap, subst, inl, inr, ◌⊎◌, Option, Some, None, arith}
use Rattle.std.specs.Option.{IfSome}
use Rattle.std.proofs.Math.ListN.{set, length-set}
use Rattle.std.proofs.lemmas.Bool.{cases_eq, cases_lt, false≢true}
use Rattle.std.proofs.lemmas.List.Elements.{All-contains, All-from_get_or}
use Rattle.nd_failure.specs.Reversed.{AreDependants}
use Rattle.nd_failure.proofs.SpreadFacts.{dependant_of_input}
use Rattle.std.proofs.lemmas.List.{get_or-set_same, get_or-set_other}
use Rattle.nd_flags.specs.Members.{IsMember}
use Rattle.nd_failure.specs.Progress.{Progress, IsReady}
use Rattle.nd_pump.specs.Queues.{Queued}
use Rattle.nd_history.specs.declared.entry.Entry.{Entry}
use Rattle.nd_history.specs.declared.entry.Entry.TheVariants.{Down, Built}
use Rattle.nd_kinds.specs.Kinds.{users_of}
use Rattle.nd_pump.specs.Listing.{IsSized, ListsMore, ListsAlso, ListsTo, ListsEach, ListsAbove, ListsNews, Wakes}
use Rattle.nd_pump.specs.Turned.{Turned, AreListed, HasTurned}
use Rattle.nd_pump.specs.Vacancies.{HasOpened}

member_set : (row : List Bool) (i k : ℕ) → i < length row → IsMember row k → IsMember (set row i true) k
member_set row i k within member = elim (cases_eq k i) [
  | inl same ↦ subst (λ (j : ℕ). IsMember (set row i true) j) (sym same) (get_or-set_same row i true false within)
  | inr apart ↦ get_or-set_other row i k true false apart ∙ member
]

-- a derivation is listed
pub listed_one : (p : Progress) (d : ℕ) (old new : Queued) → d < length p.inputs → IsSized p old → new ≡ record old { ready = set old.ready d true } → ListsAlso p d old new
listed_one p d old new lt sized is =
    let within : d < length old.ready = omega (arith, lt, sized.ready) in
    subst (λ (q : Queued). ListsAlso p d old q) (sym is) (record {
      more = record { groups = refl; parked = refl; sized = length-set old.ready d true; kept = λ k member. member_set old.ready d k within member };
      here = λ ready. get_or-set_same old.ready d true false within;
    })

-- one that isn't ready need not be
pub listed_not : (p : Progress) (d : ℕ) (old : Queued) → (IsReady p d → ⊥) → ListsAlso p d old old
listed_not p d old unready = record {
  more = record { groups = refl; parked = refl; sized = refl; kept = λ k member. member };
  here = λ ready. absurd (unready ready);
}

pub lists_none : (p : Progress) (old : Queued) → ListsTo p 0 old old
lists_none p old = record {
  more = record { groups = refl; parked = refl; sized = refl; kept = λ k member. member };
  below = λ d lt ready. absurd (omega (arith, lt));
}

more_more : (old mid new : Queued) → ListsMore old mid → ListsMore mid new → ListsMore old new
more_more old mid new first then' = record {
  groups = then'.groups ∙ first.groups;
  parked = then'.parked ∙ first.parked;
  sized = then'.sized ∙ first.sized;
  kept = λ d member. then'.kept d (first.kept d member);
}

-- one derivation more
pub lists_next : (p : Progress) (n : ℕ) (old mid new : Queued) → ListsTo p n old mid → ListsAlso p n mid new → ListsTo p (n + 1) old new
lists_next p n old mid new so_far also = record {
  more = more_more old mid new so_far.more also.more;
  below = λ d lt ready. elim (cases_lt d n) [
    | inl before ↦ also.more.kept d (so_far.below d before ready)
    | inr from_on ↦
        let here : n ≡ d = omega (arith, lt, from_on) in
        subst (λ (j : ℕ). IsMember new.ready j) here (also.here (subst (IsReady p) (sym here) ready))
  ];
}

pub sized_still : (p : Progress) (old new : Queued) → IsSized p old → ListsMore old new → IsSized p new
sized_still p old new sized more = record { groups = subst (λ (xs : List ℕ). length xs ≡ length p.inputs) (sym more.groups) sized.groups; ready = more.sized ∙ sized.ready }

-- all of them
pub lists_all : (p : Progress) (n : ℕ) (old new : Queued) → length p.inputs ≤ n → ListsTo p n old new → AreListed p new
lists_all p n old new le so_far = record { each = λ d ready. let lt = ready.node in so_far.below d (omega (arith, lt, le)) ready }

-- ---- lists of derivations

pub more_none : (q : Queued) → ListsMore q q
more_none q = record { groups = refl; parked = refl; sized = refl; kept = λ k member. member }

-- those at the first n places of a list
pub record ListsFirst (p : Progress) (drvs : List ℕ) (n : ℕ) (old new : Queued) : Type 0 where
  pub more : ListsMore old new
  pub first : (k : ℕ) → k < n → IsReady p (get_or drvs k 0) → IsMember new.ready (get_or drvs k 0)

pub first_none : (p : Progress) (drvs : List ℕ) (q : Queued) → ListsFirst p drvs 0 q q
first_none p drvs q = record { more = more_none q; first = λ k lt ready. absurd (omega (arith, lt)) }

pub first_next : (p : Progress) (drvs : List ℕ) (n : ℕ) (old mid new : Queued) → ListsFirst p drvs n old mid → ListsAlso p (get_or drvs n 0) mid new → ListsFirst p drvs (n + 1) old new
first_next p drvs n old mid new so_far also = record {
  more = more_more old mid new so_far.more also.more;
  first = λ k lt ready. elim (cases_lt k n) [
    | inl before ↦ also.more.kept (get_or drvs k 0) (so_far.first k before ready)
    | inr from_on ↦
        let here : n ≡ k = omega (arith, lt, from_on) in
        subst (λ (j : ℕ). IsMember new.ready (get_or drvs j 0)) here (also.here (subst (λ (j : ℕ). IsReady p (get_or drvs j 0)) (sym here) ready))
  ];
}

pub first_all : (p : Progress) (drvs : List ℕ) (n : ℕ) (old new : Queued) → length drvs ≤ n → ListsFirst p drvs n old new → ListsEach p drvs old new
first_all p drvs n old new le so_far = record {
  more = so_far.more;
  each = λ d has.
      All-contains (λ (x : ℕ). IsReady p x → IsMember new.ready x) drvs d
      (All-from_get_or (λ (x : ℕ). IsReady p x → IsMember new.ready x) drvs 0 (λ k lt ready. so_far.first k (omega (arith, lt, le)) ready)) has;
}

pub each_above : (p : Progress) (c : ℕ) (drvs : List ℕ) (old new : Queued) → AreDependants p.inputs c drvs → ListsEach p drvs old new → ListsAbove p c old new
each_above p c drvs old new are each = record { more = each.more; above = λ d has ready. each.each d (dependant_of_input p.inputs c d drvs are has) ready }

-- ---- what an entry makes ready

pub news_here : (p : Progress) (e : Entry) (d : ℕ) (old new : Queued) → e ≡ Down d → ListsAlso p d old new → ListsNews p e old new
news_here p e d old new is also =
    subst (λ (x : Entry). ListsNews p x old new) (sym is)
    (record { more = also.more; news = λ k news ready. subst (λ (j : ℕ). IsMember new.ready j) (sym news) (also.here (subst (IsReady p) news ready)) })

pub news_above : (p : Progress) (e : Entry) (c : ℕ) (refs : List (List (List ℕ))) (old new : Queued) → e ≡ Built c refs → ListsAbove p c old new → ListsNews p e old new
news_above p e c refs old new is above = subst (λ (x : Entry). ListsNews p x old new) (sym is) (record { more = above.more; news = above.above })

-- ---- groups that are woken

pub record WakesFirst (groups : List ℕ) (n : ℕ) (old new : Queued) : Type 0 where
  pub groups_same : new.groups ≡ old.groups
  pub ready_same : new.ready ≡ old.ready
  pub sized : length new.parked ≡ length old.parked
  pub fewer : (k : ℕ) → get_or new.parked k false ≡ true → get_or old.parked k false ≡ true
  pub first : (k : ℕ) → k < n → get_or new.parked (get_or groups k 0) false ≡ false

pub wakes_none : (q : Queued) (groups : List ℕ) (n : ℕ) → n ≡ 0 → WakesFirst groups n q q
wakes_none q groups n is = record { groups_same = refl; ready_same = refl; sized = refl; fewer = λ k up. up; first = λ k lt. absurd (omega (arith, lt, is)) }

-- a group that is put down
lowered : (row : List Bool) (g k : ℕ) → g < length row → (k ≡ g) × (get_or (set row g false) k false ≡ false) ⊎ (get_or (set row g false) k false ≡ get_or row k false)
lowered row g k lt = elim (cases_eq k g) [
  | inl same ↦ inl (same, subst (λ (j : ℕ). get_or (set row g false) j false ≡ false) (sym same) (get_or-set_same row g false false lt))
  | inr apart ↦ inr (get_or-set_other row g k false false apart)
]

false_not_true : (b : Bool) → b ≡ false → b ≡ true → ⊥
false_not_true b no_flag flag = false≢true (sym no_flag ∙ flag)

pub wakes_next : (groups : List ℕ) (n g : ℕ) (old mid new : Queued) → g ≡ get_or groups n 0 → g < length old.parked → new ≡ record mid { parked = set mid.parked g false } → WakesFirst groups n old mid → WakesFirst groups (n + 1) old new
wakes_next groups n g old mid new at lt is so_far =
    let sized = so_far.sized in
    let within : g < length mid.parked = omega (arith, lt, sized) in
    subst (λ (q : Queued). WakesFirst groups (n + 1) old q) (sym is) (record {
      groups_same = so_far.groups_same;
      ready_same = so_far.ready_same;
      sized = length-set mid.parked g false ∙ so_far.sized;
      fewer = λ k up. elim (lowered mid.parked g k within) [
        | inl here ↦ absurd (false_not_true (get_or (set mid.parked g false) k false) here.1 up)
        | inr same ↦ so_far.fewer k (sym same ∙ up)
      ];
      first = λ k before. elim (lowered mid.parked g (get_or groups k 0) within) [
        | inl here ↦ here.1
        | inr same ↦ elim (cases_lt k n) [
          | inl earlier ↦ same ∙ so_far.first k earlier
          | inr from_on ↦
              let last : n ≡ k = omega (arith, before, from_on) in
              let one : g ≡ get_or groups k 0 = at ∙ ap (λ (j : ℕ). get_or groups j 0) last in
              subst (λ (j : ℕ). get_or (set mid.parked g false) j false ≡ false) one (get_or-set_same mid.parked g false false within)
        ]
      ];
    })

pub wakes_all : (groups : List ℕ) (n : ℕ) (old new : Queued) → length groups ≤ n → WakesFirst groups n old new → Wakes groups old new
wakes_all groups n old new le so_far = record {
  groups_same = so_far.groups_same;
  ready_same = so_far.ready_same;
  sized = so_far.sized;
  fewer = so_far.fewer;
  woken = λ k has.
      All-contains (λ (x : ℕ). get_or new.parked x false ≡ false) groups k
      (All-from_get_or (λ (x : ℕ). get_or new.parked x false ≡ false) groups 0 (λ j lt. so_far.first j (omega (arith, lt, le)))) has;
}

-- ---- the turns after an entry

-- .. which touches no machine
pub turned_alone : (p : Progress) (e : Entry) (t : Turned) (q : Queued) (vacant : List Bool) → ListsNews p e t.queue q → HasOpened None t.vacant vacant → HasTurned p e None t (record { queue = q; kinds = t.kinds; vacant = vacant })
turned_alone p e t q vacant news opened = record {
  kinds = refl;
  kept = news.more.kept;
  listed = news.news;
  parked = λ n up. ap (λ (xs : List Bool). get_or xs n false) (sym news.more.parked) ∙ up;
  woken = tt;
  opened = opened;
}

-- .. which touches machine m
pub turned_awake : (p : Progress) (e : Entry) (m : ℕ) (t : Turned) (mid q : Queued) (vacant : List Bool) → ListsNews p e t.queue mid → Wakes (users_of t.kinds m) mid q → HasOpened (Some m) t.vacant vacant
    → HasTurned p e (Some m) t (record { queue = q; kinds = t.kinds; vacant = vacant })
turned_awake p e m t mid q vacant news wakes opened = record {
  kinds = refl;
  kept = λ d member. subst (λ (xs : List Bool). IsMember xs d) (sym wakes.ready_same) (news.more.kept d member);
  listed = λ d is ready. subst (λ (xs : List Bool). IsMember xs d) (sym wakes.ready_same) (news.news d is ready);
  parked = λ n up. ap (λ (xs : List Bool). get_or xs n false) (sym news.more.parked) ∙ wakes.fewer n up;
  woken = wakes.woken;
  opened = opened;
}

-- a machine past the local one is a builder
pub builder_ranged : (o : Option ℕ) (machines builders : ℕ) → machines ≡ builders + 1 → IfSome o (λ m. m < machines) → IfSome o (λ m. m ≤ builders)
builder_ranged None machines builders is h = tt
builder_ranged (Some m) machines builders is h = omega (arith, is, h)
