-- In a legal history no derivation is started twice: what was started is leased and started until it is built or has failed.
use Rattle.std.proofs.Common.{◌≡◌, ◌⊎◌, ℕ, ◌≤◌, Bool, true, false, not, ◌==◌, ◌&&◌, ◌||◌, if◌then◌else◌, List, [], ◌∷◌, count_by, refl, sym, ◌∙◌, subst, arith, eq-eqb, ◌+◌, inl, inr}
use Rattle.std.proofs.lemmas.Grind.{common_steps}
use Rattle.std.proofs.lemmas.Bool.{cases_eq, ne_eqb, false_from_ne_true, or_right}
use Rattle.std.specs.List.{list_any}
use Rattle.nd_history.specs.declared.entry.Entry.{Entry}
use Rattle.nd_history.specs.declared.entry.Entry.TheVariants.{Chosen, NoBuilder, Started, Down, Built, Failed, Stop, Drain, Enable}
use Rattle.nd_history.specs.Premises.{Premises}
use Rattle.nd_history.specs.History.{live, is_leased, is_built, is_failed, is_started, builds, fails}
use Rattle.nd_leases.specs.Tickets.{without}
use Rattle.nd_history.specs.Legal.{IsLegal}
use Rattle.nd_history.specs.Headline.{starts, StartsAreOnce}
use Rattle.nd_history.proofs.Legality.{gone, leased_fresh}
use Rattle.nd_history.proofs.Provisions.{leased_by}
use Rattle.nd_history.proofs.Slots.{count_cons, none_counted, same_of}

-- what has become of a derivation that was started: its lease goes on, or it is built, or it failed
pub record IsUnderWay (past : List Entry) (d : ℕ) : Type 0 where
  pub ways : ((is_leased d past ≡ true) × (is_started d past ≡ true)) ⊎ ((is_built d past ≡ true) ⊎ (is_failed d past ≡ true))

goes_on : (past : List Entry) (d : ℕ) → is_leased d past ≡ true → is_started d past ≡ true → IsUnderWay past d
goes_on past d leased started = record { ways = inl (leased, started) }

was_built : (past : List Entry) (d : ℕ) → is_built d past ≡ true → IsUnderWay past d
was_built past d built = record { ways = inr (inl built) }

has_failed : (past : List Entry) (d : ℕ) → is_failed d past ≡ true → IsUnderWay past d
has_failed past d failed = record { ways = inr (inr failed) }

-- an entry that leaves the lease and its start leaves all
still : (past : List Entry) (d : ℕ) (e : Entry) → (is_leased d past ≡ true → is_leased d (e ∷ past) ≡ true) → (is_started d past ≡ true → is_started d (e ∷ past) ≡ true) → IsUnderWay past d → IsUnderWay (e ∷ past) d
still past d e leased started was =
    elim was.ways [
      | inl lease ↦ goes_on (e ∷ past) d (leased lease.0) (started lease.1)
      | inr ended ↦ elim ended [
        | inl built ↦ was_built (e ∷ past) d (or_right (builds d e) (is_built d past) built)
        | inr failed ↦ has_failed (e ∷ past) d (or_right (fails d e) (is_failed d past) failed)
      ]
    ]

-- what is under way isn't leased without a start
not_fresh : (i : Premises) (past : List Entry) → IsLegal i past → (d : ℕ) → IsUnderWay past d → is_leased d past ≡ true → is_started d past ≡ false → ⊥
not_fresh i past legal d was leased fresh =
    let new = leased_fresh i past legal d leased in
    let unbuilt = new.unbuilt in
    let unfailed = new.unfailed in
    elim was.ways [
      | inl lease ↦ let started = lease.1 in cc
      | inr ended ↦ elim ended [ inl built ↦ cc | inr failed ↦ cc ]
    ]

-- .. and isn't one of which nothing was said
not_open : (past : List Entry) (d : ℕ) → IsUnderWay past d → is_leased d past ≡ false → is_built d past ≡ false → is_failed d past ≡ false → ⊥
not_open past d was unleased unbuilt unfailed =
    elim was.ways [
      | inl lease ↦ let leased = lease.0 in cc
      | inr ended ↦ elim ended [ inl built ↦ cc | inr failed ↦ cc ]
    ]

both_so : (a b : Bool) → a ≡ false → b ≡ true → (not a && b) ≡ true
both_so a b h k = rw (h, k) refl

-- a lease stays when that of another derivation ends
stays_leased : (d e : ℕ) (past : List Entry) → (d == e) ≡ false → is_leased d past ≡ true → list_any (λ t. d == t.drv) (without e (live past)) ≡ true
stays_leased d e past other leased = gone d e (live past) ∙ both_so (d == e) (is_leased d past) other leased

chosen_other : (b c : Bool) → b ≡ false → c ≡ true → (if b then false else c) ≡ true
chosen_other b c h k = rw (h, k) refl

or_first : (a b : Bool) → a ≡ true → (a || b) ≡ true
or_first a b h = rw h refl

started_first : (a b : Bool) → a ≡ false → (a || b) ≡ true → b ≡ true
started_first true b h k = cc
started_first false b h k = k

-- what was started is under way
pub under_way : (i : Premises) (past : List Entry) → IsLegal i past → (d : ℕ) → list_any (starts d) past ≡ true → IsUnderWay past d
under_way i [] legal d h = cc
under_way i (Started e paths ∷ past) legal d h =
    elim (cases_eq d e) [
      | inl same ↦
          let leased = leased_by e past legal.0.may.ticket legal.0.may.live in
          let P : ℕ → Type 0 = λ x. is_leased x past ≡ true in
          let is : (d == e) ≡ true = rw same (eq-eqb e e refl) in
          goes_on (Started e paths ∷ past) d (subst P (sym same) leased) (or_first (d == e) (is_started d past) is)
      | inr other ↦
          still past d (Started e paths) (λ k. k) (λ k. or_right (d == e) (is_started d past) k)
          (under_way i past legal.1 d (started_first (d == e) (list_any (starts d) past) (ne_eqb d e other) h))
    ]
under_way i (Chosen e m s ∷ past) legal d h =
    let was = under_way i past legal.1 d h in
    elim (cases_eq d e) [
      | inl same ↦
          let P : ℕ → Type 0 = λ x. IsUnderWay past x in
          let free = legal.0.may.ready.waiting.free in
          absurd (not_open past e (subst P same was) free.unleased free.unbuilt free.unfailed)
      | inr other ↦
          still past d (Chosen e m s) (λ k. or_right (d == e) (is_leased d past) k) (λ k. chosen_other (d == e) (is_started d past) (ne_eqb d e other) k) was
    ]
under_way i (Down e ∷ past) legal d h =
    let was = under_way i past legal.1 d h in
    elim (cases_eq d e) [
      | inl same ↦
          let P : ℕ → Type 0 = λ x. IsUnderWay past x in
          absurd (not_fresh i past legal.1 e (subst P same was) legal.0.may.live legal.0.may.fresh)
      | inr other ↦ still past d (Down e) (λ k. stays_leased d e past (ne_eqb d e other) k) (λ k. k) was
    ]
under_way i (Built e refs ∷ past) legal d h =
    let was = under_way i past legal.1 d h in
    elim (cases_eq d e) [
      | inl same ↦ let is : (d == e) ≡ true = rw same (eq-eqb e e refl) in was_built (Built e refs ∷ past) d (or_first (d == e) (is_built d past) is)
      | inr other ↦ still past d (Built e refs) (λ k. stays_leased d e past (ne_eqb d e other) k) (λ k. k) was
    ]
under_way i (Failed e why ∷ past) legal d h =
    let was = under_way i past legal.1 d h in
    elim (cases_eq d e) [
      | inl same ↦ let is : (d == e) ≡ true = rw same (eq-eqb e e refl) in has_failed (Failed e why ∷ past) d (or_first (d == e) (is_failed d past) is)
      | inr other ↦ still past d (Failed e why) (λ k. stays_leased d e past (ne_eqb d e other) k) (λ k. k) was
    ]
under_way i (NoBuilder e ∷ past) legal d h = still past d (NoBuilder e) (λ k. k) (λ k. k) (under_way i past legal.1 d h)
under_way i (Stop ∷ past) legal d h = still past d Stop (λ k. k) (λ k. k) (under_way i past legal.1 d h)
under_way i (Drain m ∷ past) legal d h = still past d (Drain m) (λ k. k) (λ k. k) (under_way i past legal.1 d h)
under_way i (Enable m ∷ past) legal d h = still past d (Enable m) (λ k. k) (λ k. k) (under_way i past legal.1 d h)

-- a derivation that may start wasn't started before
first_start : (i : Premises) (e : ℕ) (paths : List (List ℕ)) (past : List Entry) → IsLegal i (Started e paths ∷ past) → list_any (starts e) past ≡ false
first_start i e paths past legal =
    false_from_ne_true (list_any (starts e) past)
    (λ h. not_fresh i past legal.1 e (under_way i past legal.1 e h) (leased_by e past legal.0.may.ticket legal.0.may.live) legal.0.may.fresh)

one_more : (b : Bool) (n : ℕ) → (b ≡ true → n ≡ 0) → n ≤ 1 → (if b then n + 1 else n) ≤ 1
one_more true n h le = let none : n ≡ 0 = h refl in omega arith
one_more false n h le = le

started_once : (i : Premises) (past : List Entry) → IsLegal i past → (d : ℕ) → count_by (starts d) past ≤ 1
started_once i [] legal d = grind (arith, common_steps)
started_once i (Started e paths ∷ past) legal d =
    rw (count_cons (starts d) (Started e paths) past)
    (one_more (d == e) (count_by (starts d) past)
    (λ is.
    let P : ℕ → Type 0 = λ x. list_any (starts x) past ≡ false in
    none_counted (starts d) past (subst P (sym (same_of d e is)) (first_start i e paths past legal)))
    (started_once i past legal.1 d))
started_once i (Chosen e m s ∷ past) legal d = rw (count_cons (starts d) (Chosen e m s) past) (started_once i past legal.1 d)
started_once i (Down e ∷ past) legal d = rw (count_cons (starts d) (Down e) past) (started_once i past legal.1 d)
started_once i (Built e refs ∷ past) legal d = rw (count_cons (starts d) (Built e refs) past) (started_once i past legal.1 d)
started_once i (Failed e why ∷ past) legal d = rw (count_cons (starts d) (Failed e why) past) (started_once i past legal.1 d)
started_once i (NoBuilder e ∷ past) legal d = rw (count_cons (starts d) (NoBuilder e) past) (started_once i past legal.1 d)
started_once i (Stop ∷ past) legal d = rw (count_cons (starts d) Stop past) (started_once i past legal.1 d)
started_once i (Drain m ∷ past) legal d = rw (count_cons (starts d) (Drain m) past) (started_once i past legal.1 d)
started_once i (Enable m ∷ past) legal d = rw (count_cons (starts d) (Enable m) past) (started_once i past legal.1 d)

pub starts_are_once : (i : Premises) (past : List Entry) → IsLegal i past → StartsAreOnce past
starts_are_once i past legal = record { once = started_once i past legal }
