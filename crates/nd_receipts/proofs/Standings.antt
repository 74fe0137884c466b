-- Lemmas on which derivations are being built.
use Rattle.std.proofs.Common.{◌≡◌, ◌⊎◌, ℕ, zero, suc, ◌+◌, ◌<◌, ◌≤◌, ◌==◌, ◌&&◌, ◌||◌, not, Bool, true, false, if◌then◌else◌, List, [], ◌∷◌, reverse, length, take, get_or, set, replicate, slice_get, Option, Some, None, refl, sym, ap, ◌∙◌, subst, arith, inl, inr}
use Rattle.std.proofs.lemmas.Bool.{cases_eq, ne_eqb, eq-eqb}
use Rattle.std.proofs.lemmas.List.{length-set, take_all}
use Rattle.std.proofs.lemmas.Option.{none-some, slice_get-get_or}
use Rattle.nd_history.proofs.Legality.{gone}
use Rattle.nd_history.specs.declared.entry.Entry.{Entry}
use Rattle.nd_history.specs.declared.entry.Entry.TheVariants.{Chosen, NoBuilder, Started, Down, Built, Failed, Stop, Drain, Enable}
use Rattle.nd_history.specs.History.{live, is_leased, is_started}
use Rattle.nd_receipts.specs.declared.standing.Standing.{Standing}
use Rattle.nd_receipts.specs.Standing.{is_building, lease_said, start_said, flag_of, flags_after, Tells, IsIdle}
use Rattle.nd_receipts.specs.Walks.{AreWithin}
use Rattle.nd_receipts.proofs.Crossings.{get_set_same, get_set_other, replicate_at, turned_more}

-- ---- what one more entry says

-- what was said of d, or else what was so before
abbrev pub by_said : ℕ → Option (ℕ × Bool) → Bool → Bool
by_said d None before = before
by_said d (Some said) before = if d == said.0 then said.1 else before

or_said : (t x : Bool) → (t || x) ≡ (if t then true else x)
or_said true x = refl
or_said false x = refl

and_said : (t x : Bool) → (not t && x) ≡ (if t then false else x)
and_said true x = refl
and_said false x = refl

ended_by : (d e : ℕ) (past : List Entry) → is_leased d (Down e ∷ past) ≡ (if d == e then false else is_leased d past)
ended_by d e past = gone d e (live past) ∙ and_said (d == e) (is_leased d past)

leased_by : (d : ℕ) (e : Entry) (past : List Entry) → is_leased d (e ∷ past) ≡ by_said d (lease_said e) (is_leased d past)
leased_by d (Chosen e m s) past = or_said (d == e) (is_leased d past)
leased_by d (Down e) past = ended_by d e past
leased_by d (Built e refs) past = ended_by d e past
leased_by d (Failed e why) past = ended_by d e past
leased_by d (NoBuilder e) past = refl
leased_by d (Started e paths) past = refl
leased_by d Stop past = refl
leased_by d (Drain m) past = refl
leased_by d (Enable m) past = refl

pub started_by : (d : ℕ) (e : Entry) (past : List Entry) → is_started d (e ∷ past) ≡ by_said d (start_said e) (is_started d past)
started_by d (Started e paths) past = or_said (d == e) (is_started d past)
started_by d (Chosen e m s) past = refl
started_by d (NoBuilder e) past = refl
started_by d (Down e) past = refl
started_by d (Built e refs) past = refl
started_by d (Failed e why) past = refl
started_by d Stop past = refl
started_by d (Drain m) past = refl
started_by d (Enable m) past = refl

-- a derivation that none of the entries is about isn't leased
unleased_on : (drvs d : ℕ) (e : Entry) (past : List Entry) → ((f m s : ℕ) → e ≡ Chosen f m s → f < drvs) → drvs ≤ d → is_leased d past ≡ false → is_leased d (e ∷ past) ≡ false
unleased_on drvs d e past within le none = leased_by d e past ∙ by e within
  where
    less : (t x : Bool) → x ≡ false → (if t then false else x) ≡ false
    less true x is = refl
    less false x is = is

    by : (e : Entry) → ((f m s : ℕ) → e ≡ Chosen f m s → f < drvs) → by_said d (lease_said e) (is_leased d past) ≡ false
    by (Chosen f m s) within =
        let apart : d ≡ f → ⊥ = λ same. (let lt : f < drvs = within f m s refl in omega (arith, same, lt, le)) in
        ap (λ (t : Bool). if t then true else is_leased d past) (ne_eqb d f apart) ∙ none
    by (Down f) within = less (d == f) (is_leased d past) none
    by (Built f refs) within = less (d == f) (is_leased d past) none
    by (Failed f why) within = less (d == f) (is_leased d past) none
    by (NoBuilder f) within = none
    by (Started f paths) within = none
    by Stop within = none
    by (Drain m) within = none
    by (Enable m) within = none

-- ---- flags

-- a flag that is there says what f does of its derivation
pub record AreFlags (f : ℕ → List Entry → Bool) (flags : List Bool) (past : List Entry) : Type 0 where
  pub each : (d : ℕ) (b : Bool) → slice_get flags d ≡ Some b → b ≡ f d past

flags_more : (f : ℕ → List Entry → Bool) (flags : List Bool) (past : List Entry) (e : Entry) (said : Option (ℕ × Bool)) → AreFlags f flags past → ((d : ℕ) → f d (e ∷ past) ≡ by_said d said (f d past)) → AreFlags f (flags_after flags said) (e ∷ past)
flags_more f flags past e None was by = record { each = λ d b at. was.each d b at ∙ sym (by d) }
flags_more f flags past e (Some said) was by = record { each = λ d b at. one d b at (cases_eq d said.0) }
  where
    one : (d : ℕ) (b : Bool) → slice_get (set flags said.0 said.1) d ≡ Some b → (d ≡ said.0) ⊎ (d ≡ said.0 → ⊥) → b ≡ f d (e ∷ past)
    one d b at (inl same) =
        let Q : ℕ → Type 0 = λ n. slice_get (set flags said.0 said.1) n ≡ Some b in
        get_set_same flags said.0 said.1 b (subst Q same at) ∙ sym (ap (λ (t : Bool). if t then said.1 else f d past) (eq-eqb d said.0 same)) ∙ sym (by d)
    one d b at (inr other) =
        was.each d b (sym (get_set_other flags said.0 d said.1 other) ∙ at) ∙ sym (ap (λ (t : Bool). if t then said.1 else f d past) (ne_eqb d said.0 other)) ∙ sym (by d)

length_after : (flags : List Bool) (said : Option (ℕ × Bool)) → length (flags_after flags said) ≡ length flags
length_after flags None = refl
length_after flags (Some said) = length-set flags said.0 said.1

none_past : (flags : List Bool) (d : ℕ) → slice_get flags d ≡ None → length flags ≤ d
none_past [] d none = omega arith
none_past (b ∷ flags) zero none = absurd (none-some b (sym none))
none_past (b ∷ flags) (suc d) none = let rest = none_past flags d none in omega arith

some_within : (flags : List Bool) (d : ℕ) (b : Bool) → slice_get flags d ≡ Some b → d < length flags
some_within [] d b at = absurd (cc at)
some_within (x ∷ flags) zero b at = omega arith
some_within (x ∷ flags) (suc d) b at = let rest = some_within flags d b at in omega arith

long_replicate : (n : ℕ) (b : Bool) → length (replicate n b) ≡ n
long_replicate zero b = refl
long_replicate (suc n) b = ap suc (long_replicate n b)

pub sized : (drvs : ℕ) (flags : List Bool) → flags ≡ replicate drvs false → length flags ≡ drvs
sized drvs flags are = ap length are ∙ long_replicate drvs false

pub idle : (drvs : ℕ) (s : Standing) → s.leased.items ≡ replicate drvs false → s.started.items ≡ replicate drvs false → IsIdle s
idle drvs s leased started =
    let same : replicate drvs false ≡ replicate (length s.leased.items) false = sym (ap (λ (n : ℕ). replicate n false) (sized drvs s.leased.items leased)) in
    record { leased = leased ∙ same; started = started ∙ same }

-- ---- all entries

-- what the flags say once k entries were gone over
pub record StandsAt (old : List Entry) (drvs k : ℕ) (leased started : List Bool) : Type 0 where
  pub lease_flags : AreFlags is_leased leased (reverse (take k old))
  pub start_flags : AreFlags is_started started (reverse (take k old))
  pub long : length started ≡ length leased
  pub wide : length leased ≡ drvs
  pub unleased : (d : ℕ) → drvs ≤ d → is_leased d (reverse (take k old)) ≡ false

pub stand_first : (old : List Entry) (s : Standing) → IsIdle s → StandsAt old (length s.leased.items) 0 s.leased.items s.started.items
stand_first old s idle = record {
  lease_flags = record { each = λ d b at. replicate_at (length s.leased.items) false b d (ap (λ xs. slice_get xs d) (sym idle.leased) ∙ at) };
  start_flags = record { each = λ d b at. replicate_at (length s.leased.items) false b d (ap (λ xs. slice_get xs d) (sym idle.started) ∙ at) };
  long = sized (length s.leased.items) s.started.items idle.started;
  wide = refl;
  unleased = λ d le. refl;
}

pub stand_more : (old : List Entry) (drvs k : ℕ) (e : Entry) (leased after started now : List Bool) → AreWithin drvs old → StandsAt old drvs k leased started → k < length old → e ≡ get_or old k e → after ≡ flags_after leased (lease_said e) → now ≡ flags_after started (start_said e) → StandsAt old drvs (k + 1) after now
stand_more old drvs k e leased after started now within stands lt at is on =
    let past : List Entry = reverse (take k old) in
    let turned : reverse (take (k + 1) old) ≡ e ∷ past = turned_more old k e lt at in
    let L : List Entry → Type 0 = λ xs. AreFlags is_leased after xs in
    let S : List Entry → Type 0 = λ xs. AreFlags is_started now xs in
    let M : List Bool → Type 0 = λ flags. AreFlags is_leased flags (e ∷ past) in
    let N : List Bool → Type 0 = λ flags. AreFlags is_started flags (e ∷ past) in
    let there = slice_get-get_or old k e lt ∙ ap (λ (x : Entry). Some x) (sym at) in
    record {
      lease_flags = subst L (sym turned) (subst M (sym is) (flags_more is_leased leased past e (lease_said e) stands.lease_flags (λ d. leased_by d e past)));
      start_flags = subst S (sym turned) (subst N (sym on) (flags_more is_started started past e (start_said e) stands.start_flags (λ d. started_by d e past)));
      long = ap length on ∙ length_after started (start_said e) ∙ stands.long ∙ sym (ap length is ∙ length_after leased (lease_said e));
      wide = ap length is ∙ length_after leased (lease_said e) ∙ stands.wide;
      unleased = λ d le. ap (is_leased d) turned ∙ unleased_on drvs d e past (λ f m s chosen. within.each k f m s (there ∙ ap (λ (x : Entry). Some x) chosen)) le (stands.unleased d le);
    }

pub stand_last : (old : List Entry) (drvs k : ℕ) (s : Standing) → StandsAt old drvs k s.leased.items s.started.items → length old ≤ k → Tells s (reverse old)
stand_last old drvs k s stands le =
    let P : List Entry → Type 0 = λ xs. Tells s (reverse xs) in
    subst P (take_all k old le) (record { each = λ d. by d (slice_get s.leased.items d) (slice_get s.started.items d) refl refl })
  where
    past : List Entry
    past = reverse (take k old)

    by : (d : ℕ) (o q : Option Bool) → slice_get s.leased.items d ≡ o → slice_get s.started.items d ≡ q → (flag_of o && flag_of q) ≡ is_building d past
    by d (Some b) (Some c) one two =
        ap (λ (t : Bool). t && c) (stands.lease_flags.each d b one) ∙ ap (λ (t : Bool). is_leased d past && t) (stands.start_flags.each d c two)
    by d (Some b) None one two =
        let lt : d < length s.leased.items = some_within s.leased.items d b one in
        let ge : length s.started.items ≤ d = none_past s.started.items d two in
        let long = stands.long in
        absurd (omega (arith, lt, ge, long))
    by d None q one two =
        let ge : length s.leased.items ≤ d = none_past s.leased.items d one in
        let wide = stands.wide in
        sym (ap (λ (t : Bool). t && is_started d past) (stands.unleased d (omega (arith, ge, wide))))

pub ruleset standings = (stand_first, stand_more, stand_last)
