-- One machine of a builders list (Nix Reference Manual, setting `builders`), as contracts see it.
-- Public clauses cite this, but `names_same` and `builder_eq-Decides` serve proofs alone.
use Rattle.std.specs.Prelude.{◌≡◌, ◌==◌, ℕ, Bool, true, ◌&&◌, List, Option, None, Some}
use Rattle.std.specs.Bool.{Decides}
use Rattle.std.specs.Option.{option_eq}
use Rattle.std.specs.Cmp.{IsEquivalence, IsPartialEquivalence, partial_equiv_from_equiv, first_so, second_so, and_equiv, on_equiv}
use Rattle.std.specs.Cmp.Lexicographic.{options_equiv}
use Rattle.std.proofs.Common.{sym, ap, ◌∙◌, refl, eqb-true}
use Rattle.std.proofs.lemmas.Cmp.{nat_eq_equiv}
use Rattle.nd_bytes.specs.Compared.{bytes_eq, bytes_equal, bytes_same}
use Rattle.nd_machines.specs.FeatureSets.{sets_eq, sets_equal, sets_same}

-- byte strings are lists, and sets are rising lists. A speed of 1 is 1,000,000 millionths
pub record Builder : Type 0 where
  pub uri : List ℕ
  pub systems : List (List ℕ)
  pub key : Option (List ℕ)
  pub jobs : ℕ
  pub speed : ℕ
  pub supported : List (List ℕ)
  pub mandatory : List (List ℕ)
  pub host_key : Option (List ℕ)

-- ---- how machines compare: field by field

abbrev pub names_eq : Option (List ℕ) → Option (List ℕ) → Bool
names_eq = option_eq bytes_eq

abbrev pub builder_eq : Builder → Builder → Bool
builder_eq a b =
    bytes_eq a.uri b.uri && sets_eq a.systems b.systems && names_eq a.key b.key && a.jobs == b.jobs && a.speed == b.speed
    && sets_eq a.supported b.supported && sets_eq a.mandatory b.mandatory && names_eq a.host_key b.host_key

pub builder_equal : IsEquivalence builder_eq
builder_equal =
    and_equiv (and_equiv (and_equiv (and_equiv (and_equiv (and_equiv (and_equiv
    (on_equiv (λ (b : Builder). b.uri) bytes_equal)
    (on_equiv (λ (b : Builder). b.systems) sets_equal))
    (on_equiv (λ (b : Builder). b.key) (options_equiv bytes_equal)))
    (on_equiv (λ (b : Builder). b.jobs) nat_eq_equiv))
    (on_equiv (λ (b : Builder). b.speed) nat_eq_equiv))
    (on_equiv (λ (b : Builder). b.supported) sets_equal))
    (on_equiv (λ (b : Builder). b.mandatory) sets_equal))
    (on_equiv (λ (b : Builder). b.host_key) (options_equiv bytes_equal))

pub builder_partly_equal : IsPartialEquivalence builder_eq
builder_partly_equal = partial_equiv_from_equiv builder_equal

names_same : (a b : Option (List ℕ)) → names_eq a b ≡ true → a ≡ b
names_same None None e = refl
names_same None (Some y) e = cc
names_same (Some x) None e = cc
names_same (Some x) (Some y) e = ap Some (bytes_same x y e)

-- two machines are equal exactly where they have the same fields
pub builder_eq-Decides : (a b : Builder) → Decides (builder_eq a b) (a ≡ b)
builder_eq-Decides a b = (same, λ e. ap (builder_eq a) (sym e) ∙ builder_equal.refl a)
  where
    same : builder_eq a b ≡ true → a ≡ b
    same e =
        let to_mandatory = first_so _ (names_eq a.host_key b.host_key) e in
        let to_supported = first_so _ (sets_eq a.mandatory b.mandatory) to_mandatory in
        let to_speed = first_so _ (sets_eq a.supported b.supported) to_supported in
        let to_jobs = first_so _ (a.speed == b.speed) to_speed in
        let to_key = first_so _ (a.jobs == b.jobs) to_jobs in
        let to_systems = first_so _ (names_eq a.key b.key) to_key in
        λ i. record {
          uri = bytes_same a.uri b.uri (first_so _ (sets_eq a.systems b.systems) to_systems) i;
          systems = sets_same a.systems b.systems (second_so _ (sets_eq a.systems b.systems) to_systems) i;
          key = names_same a.key b.key (second_so _ (names_eq a.key b.key) to_key) i;
          jobs = eqb-true a.jobs b.jobs (second_so _ (a.jobs == b.jobs) to_jobs) i;
          speed = eqb-true a.speed b.speed (second_so _ (a.speed == b.speed) to_speed) i;
          supported = sets_same a.supported b.supported (second_so _ (sets_eq a.supported b.supported) to_supported) i;
          mandatory = sets_same a.mandatory b.mandatory (second_so _ (sets_eq a.mandatory b.mandatory) to_mandatory) i;
          host_key = names_same a.host_key b.host_key (second_so _ (names_eq a.host_key b.host_key) e) i;
        }
