-- Numbers that are added to what machines hold, and lists gone through one by one.
use Rattle.std.proofs.Common.{◌≡◌, ◌⊎◌, ℕ, ◌+◌, ◌<◌, ◌≤◌, Bool, not, if◌then◌else◌, List, [], ◌∷◌, ◌++◌, length, get_or, map, take, refl, sym, ap, subst, ◌∙◌, arith, inl, inr}
use Rattle.std.specs.Prelude.{◌↔◌}
use Rattle.std.specs.List.{Contains, zip}
use Rattle.std.proofs.lemmas.Bool.{cases_Bool, cases_eq}
use Rattle.std.proofs.lemmas.List.{take_more, take_all}
use Rattle.std.proofs.lemmas.Slice.Zip.{length-zip, get_or-zip}
use Rattle.std.proofs.lemmas.List.Elements.{Contains-push, Contains-push_cases, Contains-append_left}
use Rattle.nd_path.specs.PathSets.{HasSameMembers}
use Rattle.nd_closure.specs.Tables.{refs_of}
use Rattle.nd_path_numbers.specs.Held.{Hold, hold_of, is_among, KeepsOthers}
use Rattle.nd_path_numbers.specs.Numbers.{path_in, AreKnown}
use Rattle.nd_path_numbers.proofs.Holding.{member_by_test}
use Rattle.nd_path_numbers.proofs.Searched.{named, has_name}
use Rattle.nd_provision.specs.declared.copying.Additions.{Additions}
use Rattle.nd_provision.specs.Stored.{Stored, HasGained, HasTaken, AreGivenEntries, paths_on}

-- what holds of each item gone through, and of the next, holds of each behind it
pub each_more : {X : Type 0} → (P : X → Type 0) (xs : List X) (i : ℕ) (x : X) → i < length xs → x ≡ get_or xs i x → ((p : X) → Contains (take i xs) p → P p) → P x → (p : X) → Contains (take (i + 1) xs) p → P p
each_more P xs i x lt is before here p h =
    elim (Contains-push_cases (take i xs) (get_or xs i x) p (subst (λ ys. Contains ys p) (take_more xs i x lt) h)) [
      | inl there ↦ before p there
      | inr same ↦ subst P (is ∙ same) here
    ]

-- the item that was read is in the list
pub read_there : {X : Type 0} → (xs : List X) (i : ℕ) (x : X) → i < length xs → x ≡ get_or xs i x → Contains xs x
read_there xs i x lt is = (i, lt, sym is)

pub gained_none : (stocks : List Hold) (m : ℕ) → HasGained stocks stocks m []
gained_none stocks m = record {
  size = refl;
  gained = λ n. (λ h. inl h, λ h. elim h [ inl there ↦ there | inr none ↦ absurd (omega (arith, none.1)) ]);
  others = λ k _. refl;
}

-- one more number is added to what m holds
pub gained_more : (old mid new : List Hold) (m : ℕ) (seen : List ℕ) (n : ℕ) (added : Bool) → HasGained old mid m seen → added ≡ not (is_among (hold_of mid m).numbers n)
    → (hold_of new m).numbers ≡ (if added then (hold_of mid m).numbers ++ n ∷ [] else (hold_of mid m).numbers) → KeepsOthers mid new m → HasGained old new m (seen ++ n ∷ [])
gained_more old mid new m seen n added was is made keeps = record {
  size = keeps.size ∙ was.size;
  gained = λ q. (
    λ h. elim (from q h) [
      | inl there ↦ (elim ((was.gained q).0 there) [ inl before ↦ inl before | inr among ↦ inr (Contains-append_left seen (n ∷ []) q among) ])
      | inr same ↦ inr (subst (λ (x : ℕ). Contains (seen ++ n ∷ []) x) same (Contains-push seen n))
    ],
    λ h. elim h [
      | inl before ↦ to_old q ((was.gained q).1 (inl before))
      | inr among ↦ (elim (Contains-push_cases seen n q among) [
        | inl there ↦ to_old q ((was.gained q).1 (inr there))
        | inr same ↦ subst (λ (x : ℕ). Contains (hold_of new m).numbers x) same here
      ])
    ],
  );
  others = λ k ne. keeps.others k ne ∙ was.others k ne;
}
  where
    from : (q : ℕ) → Contains (hold_of new m).numbers q → Contains (hold_of mid m).numbers q ⊎ (n ≡ q)
    from q h = elim (cases_Bool (is_among (hold_of mid m).numbers n)) [
      | inl held ↦ inl (subst (λ (xs : List ℕ). Contains xs q) (made ∙ ap (λ (b : Bool). if b then (hold_of mid m).numbers ++ n ∷ [] else (hold_of mid m).numbers) (is ∙ ap not held)) h)
      | inr fresh ↦ Contains-push_cases (hold_of mid m).numbers n q (subst (λ (xs : List ℕ). Contains xs q) (made ∙ ap (λ (b : Bool). if b then (hold_of mid m).numbers ++ n ∷ [] else (hold_of mid m).numbers) (is ∙ ap not fresh)) h)
    ]

    to_old : (q : ℕ) → Contains (hold_of mid m).numbers q → Contains (hold_of new m).numbers q
    to_old q h = elim (cases_Bool (is_among (hold_of mid m).numbers n)) [
      | inl held ↦ subst (λ (xs : List ℕ). Contains xs q) (sym (made ∙ ap (λ (b : Bool). if b then (hold_of mid m).numbers ++ n ∷ [] else (hold_of mid m).numbers) (is ∙ ap not held))) h
      | inr fresh ↦ subst (λ (xs : List ℕ). Contains xs q) (sym (made ∙ ap (λ (b : Bool). if b then (hold_of mid m).numbers ++ n ∷ [] else (hold_of mid m).numbers) (is ∙ ap not fresh))) (Contains-append_left (hold_of mid m).numbers (n ∷ []) q h)
    ]

    here : Contains (hold_of new m).numbers n
    here = elim (cases_Bool (is_among (hold_of mid m).numbers n)) [
      | inl held ↦ to_old n ((member_by_test (hold_of mid m).numbers n).0 held)
      | inr fresh ↦ subst (λ (xs : List ℕ). Contains xs n) (sym (made ∙ ap (λ (b : Bool). if b then (hold_of mid m).numbers ++ n ∷ [] else (hold_of mid m).numbers) (is ∙ ap not fresh))) (Contains-push (hold_of mid m).numbers n)
    ]

-- the next of a list of numbers is added
pub gained_next : (old mid new : List Hold) (m : ℕ) (numbers : List ℕ) (i n : ℕ) (added : Bool) → i < length numbers → n ≡ get_or numbers i n → HasGained old mid m (take i numbers) → added ≡ not (is_among (hold_of mid m).numbers n)
    → (hold_of new m).numbers ≡ (if added then (hold_of mid m).numbers ++ n ∷ [] else (hold_of mid m).numbers) → KeepsOthers mid new m → HasGained old new m (take (i + 1) numbers)
gained_next old mid new m numbers i n added lt at was is made keeps =
    subst (λ (ns : List ℕ). HasGained old new m ns) (sym (take_more numbers i n lt ∙ ap (λ (x : ℕ). take i numbers ++ x ∷ []) (sym at))) (gained_more old mid new m (take i numbers) n added was is made keeps)

-- what every machine holds after numbers were added to one
pub gained_at : (old new : List Hold) (m : ℕ) (numbers : List ℕ) → HasGained old new m numbers → (k n : ℕ) → Contains (hold_of new k).numbers n ↔ Contains (hold_of old k).numbers n ⊎ ((k ≡ m) × Contains numbers n)
gained_at old new m numbers g k n = elim (cases_eq k m) [
  | inl same ↦ (
    λ h. elim ((g.gained n).0 (subst (λ (x : ℕ). Contains (hold_of new x).numbers n) same h)) [
      | inl before ↦ inl (subst (λ (x : ℕ). Contains (hold_of old x).numbers n) (sym same) before)
      | inr among ↦ inr (same, among)
    ],
    λ h. subst (λ (x : ℕ). Contains (hold_of new x).numbers n) (sym same) ((g.gained n).1 (elim h [
      | inl before ↦ inl (subst (λ (x : ℕ). Contains (hold_of old x).numbers n) same before)
      | inr among ↦ inr among.1
    ])),
  )
  | inr other ↦ (
    λ h. inl (subst (λ (s : Hold). Contains s.numbers n) (g.others k other) h),
    λ h. elim h [
      | inl before ↦ subst (λ (s : Hold). Contains s.numbers n) (sym (g.others k other)) before
      | inr among ↦ absurd (other among.0)
    ],
  )
]

-- the paths that machine m holds once additions were taken in
pub taken_at : (old new : Stored) (a : Additions) → HasTaken old new a → (m : ℕ) (p : List ℕ) → Contains (paths_on new m) p
    ↔ Contains (paths_on old m) p ⊎ (((m ≡ 0) × Contains (map (path_in old.numbers.paths) a.own.items) p) ⊎ ((m ≡ a.machine) × Contains (map (path_in old.numbers.paths) a.brought.items) p))
taken_at old new a took m p = (to, from)
  where
    paths : List (List ℕ)
    paths = old.numbers.paths

    on : Contains (paths_on new m) p → Contains (map (path_in paths) (hold_of new.stocks m).numbers) p
    on h = subst (λ (ps : List (List ℕ)). Contains (map (path_in ps) (hold_of new.stocks m).numbers) p) took.entered.paths h

    back : (n : ℕ) → Contains (hold_of new.stocks m).numbers n → path_in paths n ≡ p → Contains (paths_on new m) p
    back n h is = subst (λ (ps : List (List ℕ)). Contains (map (path_in ps) (hold_of new.stocks m).numbers) p) (sym took.entered.paths)
        (subst (λ (x : List ℕ). Contains (map (path_in paths) (hold_of new.stocks m).numbers) x) is (has_name paths (hold_of new.stocks m).numbers n h))

    to : Contains (paths_on new m) p → Contains (paths_on old m) p ⊎ (((m ≡ 0) × Contains (map (path_in paths) a.own.items) p) ⊎ ((m ≡ a.machine) × Contains (map (path_in paths) a.brought.items) p))
    to h =
        let at = named paths (hold_of new.stocks m).numbers p (on h) in
        elim ((gained_at took.between new.stocks a.machine a.brought.items took.brought m at.0).0 at.1) [
          | inl before ↦ (elim ((gained_at old.stocks took.between 0 a.own.items took.own m at.0).0 before) [
            | inl first ↦ inl (subst (λ (x : List ℕ). Contains (paths_on old m) x) at.2 (has_name paths (hold_of old.stocks m).numbers at.0 first))
            | inr own ↦ inr (inl (own.0, subst (λ (x : List ℕ). Contains (map (path_in paths) a.own.items) x) at.2 (has_name paths a.own.items at.0 own.1)))
          ])
          | inr came ↦ inr (inr (came.0, subst (λ (x : List ℕ). Contains (map (path_in paths) a.brought.items) x) at.2 (has_name paths a.brought.items at.0 came.1)))
        ]

    from : Contains (paths_on old m) p ⊎ (((m ≡ 0) × Contains (map (path_in paths) a.own.items) p) ⊎ ((m ≡ a.machine) × Contains (map (path_in paths) a.brought.items) p)) → Contains (paths_on new m) p
    from (inl first) =
        let at = named paths (hold_of old.stocks m).numbers p first in
        back at.0 ((gained_at took.between new.stocks a.machine a.brought.items took.brought m at.0).1 (inl ((gained_at old.stocks took.between 0 a.own.items took.own m at.0).1 (inl at.1)))) at.2
    from (inr (inl own)) =
        let at = named paths a.own.items p own.1 in
        back at.0 ((gained_at took.between new.stocks a.machine a.brought.items took.brought m at.0).1 (inl ((gained_at old.stocks took.between 0 a.own.items took.own m at.0).1 (inr (own.0, at.1))))) at.2
    from (inr (inr came)) =
        let at = named paths a.brought.items p came.1 in
        back at.0 ((gained_at took.between new.stocks a.machine a.brought.items took.brought m at.0).1 (inr (came.0, at.1))) at.2

-- .. and their numbers are known
pub taken_known : (old new : Stored) (a : Additions) → HasTaken old new a → ((m : ℕ) → AreKnown old.numbers.paths (hold_of old.stocks m).numbers) → (m : ℕ) → AreKnown new.numbers.paths (hold_of new.stocks m).numbers
taken_known old new a took known m = rw took.entered.paths (record {
  each = λ n h. elim ((gained_at took.between new.stocks a.machine a.brought.items took.brought m n).0 h) [
    | inl before ↦ (elim ((gained_at old.stocks took.between 0 a.own.items took.own m n).0 before) [
      | inl first ↦ (known m).each n first
      | inr own ↦ took.own_known.each n own.1
    ])
    | inr came ↦ took.brought_known.each n came.1
  ];
})

-- one more path beside its references
pub beside_more : (paths : List (List ℕ)) (refs : List (List (List ℕ))) (i : ℕ) (p : List ℕ) (rs : List (List ℕ)) → length refs ≡ length paths → i < length paths → p ≡ get_or paths i p → rs ≡ get_or refs i rs
    → take i (zip paths refs) ++ (p, rs) ∷ [] ≡ take (i + 1) (zip paths refs)
beside_more paths refs i p rs sized lt here there =
    let within : i < length (zip paths refs) = omega (arith, length-zip paths refs, sized, lt) in
    let at : get_or (zip paths refs) i (p, rs) ≡ (p, rs) =
    get_or-zip paths refs i (p, rs) lt (omega (arith, sized, lt)) ∙ ap (λ (x : List ℕ). (x, get_or refs i rs)) (sym here) ∙ ap (λ (x : List (List ℕ)). (p, x)) (sym there) in
    sym (take_more (zip paths refs) i (p, rs) within ∙ ap (λ (x : List ℕ × List (List ℕ)). take i (zip paths refs) ++ x ∷ []) at)

pub beside_all : (paths : List (List ℕ)) (refs : List (List (List ℕ))) (i : ℕ) → length paths ≤ i → take i (zip paths refs) ≡ zip paths refs
beside_all paths refs i le = take_all i (zip paths refs) (omega (arith, length-zip paths refs, le))

-- one more given path with its references
given_push : (info : List (List ℕ × List (List ℕ))) (paths : List (List ℕ)) (entries : List (List ℕ × List (List ℕ))) (p : List ℕ) (rs : List (List ℕ)) → AreGivenEntries info paths entries → HasSameMembers (refs_of info p) rs
    → AreGivenEntries info (paths ++ p ∷ []) (entries ++ (p, rs) ∷ [])
given_push info [] [] p rs are same = (refl, same, tt)
given_push info [] (e ∷ entries) p rs are same = absurd are
given_push info (q ∷ paths) [] p rs are same = absurd are
given_push info (q ∷ paths) (e ∷ entries) p rs are same = (are.0, are.1, given_push info paths entries p rs are.2 same)

pub given_more : (info : List (List ℕ × List (List ℕ))) (paths : List (List ℕ)) (entries : List (List ℕ × List (List ℕ))) (n : ℕ) (p : List ℕ) (rs : List (List ℕ)) → n < length paths → p ≡ get_or paths n p
    → AreGivenEntries info (take n paths) entries → HasSameMembers (refs_of info p) rs → AreGivenEntries info (take (n + 1) paths) (entries ++ (p, rs) ∷ [])
given_more info paths entries n p rs lt is are same =
    subst (λ (ps : List (List ℕ)). AreGivenEntries info ps (entries ++ (p, rs) ∷ [])) (sym (take_more paths n p lt ∙ ap (λ (x : List ℕ). take n paths ++ x ∷ []) (sym is)))
    (given_push info (take n paths) entries p rs are same)
