-- Lists of machines that needs of the same kind share.
use Rattle.std.proofs.Common.{◌≡◌, ◌∙◌, ◌⊎◌, inl, inr, ℕ, ◌<◌, Bool, true, false, cond, ◌&&◌, List, [], ◌∷◌, ◌++◌, Option, None, Some, length, length-append, get_or, map, refl, sym, subst, arith}
use Rattle.std.specs.Prelude.{All, IsSomeAnd, slice_get}
use Rattle.std.specs.List.{AllZip, AllByRecursion}
use Rattle.std.specs.Ordering.{is_eq}
use Rattle.std.specs.Cmp.{tied_then}
use Rattle.std.specs.BTreeMap.{get_by, is_at, BTreeMap}
use Rattle.std.proofs.lemmas.List.{get_or_append_left}
use Rattle.std.proofs.lemmas.List.Elements.{All-from_recursion}
use Rattle.std.proofs.Math.Seq.{get_or-append_seam}
use Rattle.nd_bytes.specs.Compared.{bytes_cmp, bytes_ties, bytes_same}
use Rattle.nd_machines.specs.Builders.{Builder}
use Rattle.nd_machines.specs.FeatureSets.{sets_cmp, sets_ties, sets_same}
use Rattle.nd_eligible.specs.declared.need.Need.{Need}
use Rattle.nd_eligible.specs.Eligibility.{Eligible, AreEligible, BuildsFor, IsSubset}
use Rattle.nd_eligible.specs.Classing.{Kind, compare_kind, kind_cmp, IsClass, AreKnown}

-- ---- needs of the same kind

eligible_alike : (machine : Builder) (one other : Need) → one.system ≡ other.system → one.features ≡ other.features
    → Eligible machine one → Eligible machine other
eligible_alike machine one other system features h = record {
  jobs = h.jobs;
  system = subst (λ (s : List ℕ). BuildsFor machine s) system h.system;
  required = subst (λ (f : List (List ℕ)). IsSubset f (machine.supported ++ machine.mandatory)) features h.required;
  mandatory = subst (λ (f : List (List ℕ)). IsSubset machine.mandatory f) features h.mandatory;
}

some_alike : (found : Option Builder) (one other : Need) → one.system ≡ other.system → one.features ≡ other.features
    → IsSomeAnd found (λ machine. Eligible machine one) → IsSomeAnd found (λ machine. Eligible machine other)
some_alike None one other system features h = h
some_alike (Some machine) one other system features h = eligible_alike machine one other system features h

class_alike : (machines : List Builder) (lists : List (List ℕ)) (one other : Need) (number : ℕ) → one.system ≡ other.system → one.features ≡ other.features
    → IsClass machines lists one number → IsClass machines lists other number
class_alike machines lists one other number system features h = record {
  within = h.within;
  eligible = record {
    rising = h.eligible.rising;
    exact = λ place. (
      (λ found. some_alike (slice_get machines place) one other system features ((h.eligible.exact place).0 found)),
      (λ meant. (h.eligible.exact place).1 (some_alike (slice_get machines place) other one (sym system) (sym features) meant)),
    );
  };
}

-- ---- more lists

pub class_kept : (machines : List Builder) (lists more : List (List ℕ)) (need : Need) (number : ℕ)
    → IsClass machines lists need number → IsClass machines (lists ++ more) need number
class_kept machines lists more need number h = record {
  within = rw (length-append lists more) (omega (arith, h.within));
  eligible = rw (get_or_append_left lists more [] number h.within) h.eligible;
}

-- the last list is that of the need
pub class_last : (machines : List Builder) (lists : List (List ℕ)) (list : List ℕ) (need : Need) (number : ℕ) → number ≡ length lists
    → AreEligible machines need list → IsClass machines (lists ++ list ∷ []) need number
class_last machines lists list need number last h = record {
  within = rw (length-append lists (list ∷ [])) (omega arith);
  eligible = rw (last, get_or-append_seam lists list [] []) h;
}

-- ---- one more kind

both_true : (a b : Bool) → (a && b) ≡ true → (a ≡ true) × (b ≡ true)
both_true true true h = (refl, refl)
both_true true false h = absurd (cc)
both_true false b h = absurd (cc)

-- a need's own kind
kind_of : Need → Kind
kind_of need = (record { ref_ptr = (0, 0); now = need.system }, record { ref_ptr = (0, 0); now = need.features })

same_kind : (one other : Need) → is_at (compare_kind one) (kind_of other) ≡ true
    → (one.system ≡ other.system) × (one.features ≡ other.features)
unfolding kind_of
same_kind one other h =
    let both = both_true (is_eq (bytes_cmp one.system other.system)) (is_eq (sets_cmp one.features other.features))
    (tied_then (bytes_cmp one.system other.system) (sets_cmp one.features other.features) ∙ h) in (
      bytes_same one.system other.system (bytes_ties one.system other.system ∙ both.0),
      sets_same one.features other.features (sets_ties one.features other.features ∙ both.1),
    )

found_at : (here : Bool) (number known : ℕ) (before : Option ℕ) → cond here (Some number) before ≡ Some known
    → ((here ≡ true) × (number ≡ known)) ⊎ ((here ≡ false) × (before ≡ Some known))
found_at true number known before h = inl (refl, cc)
found_at false number known before h = inr (refl, h)

-- a kind that gets its number
pub known_more : (machines : List Builder) (known then : BTreeMap Kind ℕ) (lists lists_then more : List (List ℕ)) (need : Need) (number : ℕ)
    → AreKnown machines known lists → lists_then ≡ lists ++ more → IsClass machines lists_then need number
    → ((kind : Kind) → get_by (kind_cmp kind) then ≡ cond (is_at (compare_kind need) kind) (Some number) (get_by (kind_cmp kind) known))
    → AreKnown machines then lists_then
unfolding kind_of
known_more machines known then lists lists_then more need number h grown here updates = record {
  each = λ other found got. elim (found_at (is_at (compare_kind need) (kind_of other)) number found (get_by (compare_kind other) known) (sym (updates (kind_of other)) ∙ got)) [
    | inl new ↦
        let same = same_kind need other new.0 in
        subst (λ (n : ℕ). IsClass machines lists_then other n) new.1 (class_alike machines lists_then need other number same.0 same.1 here)
    | inr old ↦ subst (λ (ls : List (List ℕ)). IsClass machines ls other found) (sym grown)
        (class_kept machines lists more other found (h.each other found old.1))
  ];
}

-- ---- place by place

zip_weaker : {A B : Type 0} (R S : A → B → Type 0) → ((x : A) (y : B) → R x y → S x y) → (xs : List A) (ys : List B) → AllZip R xs ys → AllZip S xs ys
zip_weaker R S f [] [] h = h
zip_weaker R S f [] (y ∷ ys) h = h
zip_weaker R S f (x ∷ xs) [] h = h
zip_weaker R S f (x ∷ xs) (y ∷ ys) h = (f x y h.0, zip_weaker R S f xs ys h.1)

zip_push : {A B : Type 0} (R : A → B → Type 0) (xs : List A) (ys : List B) (x : A) (y : B) → AllZip R xs ys → R x y → AllZip R (xs ++ x ∷ []) (ys ++ y ∷ [])
zip_push R [] [] x y h here = (here, tt)
zip_push R [] (z ∷ ys) x y h here = absurd h
zip_push R (z ∷ xs) [] x y h here = absurd h
zip_push R (z ∷ xs) (w ∷ ys) x y h here = (h.0, zip_push R xs ys x y h.1 here)

-- one more need has its number
pub numbered_more : (machines : List Builder) (lists lists_then more : List (List ℕ)) (needs : List Need) (numbers : List ℕ) (need : Need) (number : ℕ)
    → lists_then ≡ lists ++ more → AllZip (IsClass machines lists) needs numbers → IsClass machines lists_then need number
    → AllZip (IsClass machines lists_then) (needs ++ need ∷ []) (numbers ++ number ∷ [])
numbered_more machines lists lists_then more needs numbers need number grown h here =
    zip_push (IsClass machines lists_then) needs numbers need number
    (zip_weaker (IsClass machines lists) (IsClass machines lists_then)
    (λ other n old. subst (λ (ls : List (List ℕ)). IsClass machines ls other n) (sym grown) (class_kept machines lists more other n old))
    needs numbers h)
    here

within_each : (machines : List Builder) (lists : List (List ℕ)) (needs : List Need) (numbers : List ℕ)
    → AllZip (IsClass machines lists) needs numbers → AllByRecursion (λ number. number < length lists) numbers
within_each machines lists [] [] h = tt
within_each machines lists [] (n ∷ numbers) h = absurd h
within_each machines lists (need ∷ needs) [] h = absurd h
within_each machines lists (need ∷ needs) (n ∷ numbers) h = (h.0.within, within_each machines lists needs numbers h.1)

-- each number is that of a list
pub all_within : (machines : List Builder) (lists : List (List ℕ)) (needs : List Need) (numbers : List ℕ)
    → AllZip (IsClass machines lists) needs numbers → All (λ number. number < length lists) numbers
all_within machines lists needs numbers h = All-from_recursion (λ number. number < length lists) numbers (within_each machines lists needs numbers h)

-- each need has its list
pub all_eligible : (machines : List Builder) (lists : List (List ℕ)) (needs : List Need) (numbers : List ℕ)
    → AllZip (IsClass machines lists) needs numbers → AllZip (AreEligible machines) needs (map (λ number. get_or lists number []) numbers)
all_eligible machines lists [] [] h = tt
all_eligible machines lists [] (n ∷ numbers) h = absurd h
all_eligible machines lists (need ∷ needs) [] h = absurd h
all_eligible machines lists (need ∷ needs) (n ∷ numbers) h = (h.0.eligible, all_eligible machines lists needs numbers h.1)
