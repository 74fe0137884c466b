-- The listed numbers are those of the listed paths.
use Rattle.std.proofs.Common.{◌≡◌, ℕ, ◌<◌, ◌≤◌, ◌==◌, Bool, true, false, ◌||◌, if◌then◌else◌, List, [], ◌∷◌, ◌++◌, length, refl, sym, ap, subst, ◌∙◌, arith, inl, inr, eq-eqb}
use Rattle.std.specs.List.{Contains}
use Rattle.std.proofs.lemmas.Bool.{cases_Bool, cases_eq, cases_lt, ne_eqb, or_cases}
use Rattle.std.proofs.lemmas.List.{get_or_append_left, get_or_default}
use Rattle.std.proofs.lemmas.List.Folds.{list_any-append}
use Rattle.std.proofs.lemmas.List.Elements.{Contains-append_left, Contains-push_cases, Contains-get_or}
use Rattle.std.specs.Cmp.Lexicographic.{nat_list_eq_equiv}
use Rattle.nd_path.specs.StorePath.{path_eq}
use Rattle.nd_path.specs.SamePaths.{paths_same}
use Rattle.nd_closure.specs.Tables.{is_listed}
use Rattle.nd_path_numbers.specs.Numbers.{Numbered, path_in, AreDistinct, HasGrown}
use Rattle.nd_path_numbers.specs.Held.{is_among, with_new}
use Rattle.nd_path_numbers.proofs.Growing.{known_stay}
use Rattle.nd_path_numbers.proofs.Holding.{member_by_test}
use Rattle.nd_history.proofs.Reported.{listed_both}
use Rattle.nd_provision.specs.Told.{Told, AreTold}

-- no path is listed
pub told_none : (l : Told) (paths : List (List ℕ)) → l.entries ≡ [] → l.numbers ≡ [] → AreDistinct paths → AreTold l paths
told_none l paths entries numbers apart = record {
  distinct = apart;
  known = rw numbers (record { each = λ n h. absurd (omega (arith, h.1)) });
  told = λ n lt. rw (entries, numbers) refl;
  listed = λ p h. let never : is_listed [] p ≡ true = subst (λ (es : List (List ℕ × List (List ℕ))). is_listed es p ≡ true) entries h in cc;
}

-- the same paths are listed, whatever room there is
pub told_same : (l m : Told) (paths : List (List ℕ)) → m.entries ≡ l.entries → m.numbers ≡ l.numbers → AreTold l paths → AreTold m paths
told_same l m paths entries numbers are = record {
  distinct = are.distinct;
  known = rw numbers are.known;
  told = λ n lt. rw (entries, numbers) (are.told n lt);
  listed = λ p h. are.listed p (subst (λ (es : List (List ℕ × List (List ℕ))). is_listed es p ≡ true) entries h);
}

-- a path that becomes known isn't listed
pub told_grown : (l : Told) (old new : Numbered) → HasGrown old new → AreTold l old.paths → AreTold l new.paths
told_grown l old new grown are = record {
  distinct = grown.distinct are.distinct;
  known = known_stay old new l.numbers grown are.known;
  told = λ n lt. elim (cases_lt n (length old.paths)) [
    | inl before ↦ are.told n before ∙ ap (λ (p : List ℕ). is_listed l.entries p) (sym (same n before))
    | inr past ↦ unmarked n past ∙ sym (unlisted n lt past)
  ];
  listed = λ p h. rw grown.paths (Contains-append_left old.paths grown.more p (are.listed p h));
}
  where
    same : (n : ℕ) → n < length old.paths → path_in new.paths n ≡ path_in old.paths n
    same n lt = ap (λ (ps : List (List ℕ)). path_in ps n) grown.paths ∙ get_or_append_left old.paths grown.more [] n lt

    unmarked : (n : ℕ) → length old.paths ≤ n → is_among l.numbers n ≡ false
    unmarked n past = elim (cases_Bool (is_among l.numbers n)) [
      | inl there ↦ absurd (omega (arith, past, are.known.each n ((member_by_test l.numbers n).0 there)))
      | inr out ↦ out
    ]

    unlisted : (n : ℕ) → n < length new.paths → length old.paths ≤ n → is_listed l.entries (path_in new.paths n) ≡ false
    unlisted n lt past = elim (cases_Bool (is_listed l.entries (path_in new.paths n))) [
      | inl there ↦
          let at : Contains old.paths (path_in new.paths n) = are.listed (path_in new.paths n) there in
          let is : path_in old.paths at.0 ≡ path_in new.paths n = get_or_default old.paths at.0 [] (path_in new.paths n) at.1 ∙ at.2 in
          let longer : at.0 < length new.paths = known_at at.0 at.1 in
          let one : at.0 ≡ n = (grown.distinct are.distinct).one at.0 n longer lt (same at.0 at.1 ∙ is) in
          absurd (omega (arith, one, at.1, past))
      | inr out ↦ out
    ]
      where
        known_at : (k : ℕ) → k < length old.paths → k < length new.paths
        known_at k lt = (known_stay old new (k ∷ []) grown (record { each = λ n h. first n h })).each k (0, omega arith, refl)
          where
            first : (n : ℕ) → Contains (k ∷ []) n → n < length old.paths
            first n h = elim (Contains-push_cases [] k n h) [
              | inl none ↦ absurd (omega (arith, none.1))
              | inr same ↦ subst (λ (x : ℕ). x < length old.paths) same lt
            ]

-- whether the path with a listed number is new
pub new_by_number : (l : Told) (paths : List (List ℕ)) (n : ℕ) (p : List ℕ) → AreTold l paths → n < length paths → path_in paths n ≡ p → is_among l.numbers n ≡ is_listed l.entries p
new_by_number l paths n p are lt is = are.told n lt ∙ ap (λ (x : List ℕ). is_listed l.entries x) is

or_none : (b : Bool) → (b || false) ≡ b
or_none true = refl
or_none false = refl

-- a path that wasn't listed is listed behind the others, with its number
pub told_new : (l m : Told) (paths : List (List ℕ)) (n : ℕ) (p : List ℕ) (rs : List (List ℕ)) → n < length paths → path_in paths n ≡ p → m.entries ≡ l.entries ++ (p, rs) ∷ [] → m.numbers ≡ l.numbers ++ n ∷ []
    → AreTold l paths → AreTold m paths
told_new l m paths n p rs lt is entries numbers are = record {
  distinct = are.distinct;
  known = rw numbers (record {
    each = λ k h. elim (Contains-push_cases l.numbers n k h) [
      | inl before ↦ are.known.each k before
      | inr same ↦ subst (λ (x : ℕ). x < length paths) same lt
    ];
  });
  told = λ k within.
      ap (λ (ns : List ℕ). is_among ns k) numbers ∙ list_any-append (λ (x : ℕ). k == x) l.numbers (n ∷ [])
      ∙ ap (λ (b : Bool). b || ((k == n) || false)) (are.told k within)
      ∙ ap (λ (b : Bool). is_listed l.entries (path_in paths k) || (b || false)) (alike k within)
      ∙ sym (ap (λ (es : List (List ℕ × List (List ℕ))). is_listed es (path_in paths k)) entries ∙ listed_both l.entries ((p, rs) ∷ []) (path_in paths k));
  listed = λ q h. elim (or_cases (is_listed l.entries q) (is_listed ((p, rs) ∷ []) q)
      (sym (listed_both l.entries ((p, rs) ∷ []) q) ∙ subst (λ (es : List (List ℕ × List (List ℕ))). is_listed es q ≡ true) entries h)) [
        | inl before ↦ are.listed q before
        | inr here ↦
            let same : q ≡ p = paths_same q p (sym (or_none (path_eq q p)) ∙ here) in
            subst (λ (x : List ℕ). Contains paths x) (is ∙ sym same) (Contains-get_or paths n [] lt)
      ];
}
  where
    -- numbers are the same exactly where their paths are
    alike : (k : ℕ) → k < length paths → (k == n) ≡ path_eq (path_in paths k) p
    alike k within = elim (cases_eq k n) [
      | inl same ↦ eq-eqb k n same ∙ sym (subst (λ (x : List ℕ). path_eq (path_in paths k) x ≡ true) (ap (path_in paths) same ∙ is) (nat_list_eq_equiv.refl (path_in paths k)))
      | inr other ↦ ne_eqb k n other ∙ sym (elim (cases_Bool (path_eq (path_in paths k) p)) [
        | inl there ↦ absurd (other (are.distinct.one k n within lt (paths_same (path_in paths k) p there ∙ sym is)))
        | inr apart ↦ apart
      ])
    ]

-- what was added by number, and is told of
pub told_added : (l m : Told) (paths : List (List ℕ)) (n : ℕ) (p : List ℕ) (rs : List (List ℕ)) (added : Bool) → n < length paths → path_in paths n ≡ p
    → m.entries ≡ (if added then l.entries ++ (p, rs) ∷ [] else l.entries) → m.numbers ≡ with_new l.numbers n added → AreTold l paths → AreTold m paths
told_added l m paths n p rs true lt is entries numbers are = told_new l m paths n p rs lt is entries numbers are
told_added l m paths n p rs false lt is entries numbers are = told_same l m paths entries numbers are
