-- One more derivation has its kind, and each kind stands with the machines that it may use.
use Rattle.std.proofs.Common.{◌≡◌, ◌<◌, ◌≤◌, ◌+◌, ◌++◌, ◌∷◌, ◌⊎◌, [], ℕ, zero, suc, true, List, All, Some, length, get_or, slice_get, append-nil, add-one, refl, sym, ap, ◌∙◌, subst, inl, inr, arith}
use Rattle.std.specs.Prelude.{Contains}
use Rattle.std.proofs.Math.ListN.{set, length-set}
use Rattle.std.proofs.lemmas.Bool.{cases_eq, cases_lt}
use Rattle.std.proofs.lemmas.List.{get_or-set_same, get_or-set_other, get_or_append_left, get_or_push, length-append}
use Rattle.std.proofs.lemmas.List.Elements.{Contains-append_left, Contains-push, Contains-push_cases, Contains-get_or, All-contains, All-from_get_or, All-get_or}
use Rattle.std.proofs.lemmas.Option.{slice_get_within}
use Rattle.nd_machines.specs.Builders.{Builder}
use Rattle.nd_eligible.specs.declared.need.Need.{Need}
use Rattle.nd_eligible.specs.Settings.{Settings}
use Rattle.nd_kinds.specs.declared.kind.Kind.{Kind}
use Rattle.nd_kinds.specs.Kinds.{Kinded, IsKindOf, MayUse, HasKind, HaveKinds, AreKinds, number_of, users_of}
use Rattle.nd_kinds.specs.Sharing.{SharesNeed, AddsTo, IsListed, IsOneMore, HasJoined, IsOneMoreOf, AreSoFar}
use Rattle.nd_eligible.proofs.Places.{eligible_within}

-- ---- lists to which a number is added

pub adds_none : (number : ℕ) (users : List (List ℕ)) → AddsTo number users users
adds_none number users = record { sized = refl; kept = λ m k has. has; only = λ m k has. inl has }

push_row : (number m : ℕ) (old new : List (List ℕ)) (g : ℕ) → g < length old → new ≡ set old g (get_or old g [] ++ number ∷ [])
    → (get_or new m [] ≡ get_or old m []) ⊎ ((m ≡ g) × (get_or new m [] ≡ get_or old m [] ++ number ∷ []))
push_row number m old new g within is = elim (cases_eq m g) [
  | inl same ↦ inr (
    same,
    ap (λ (xs : List (List ℕ)). get_or xs m []) is
        ∙ subst (λ (j : ℕ). get_or (set old g (get_or old g [] ++ number ∷ [])) j [] ≡ get_or old j [] ++ number ∷ []) (sym same)
        (get_or-set_same old g (get_or old g [] ++ number ∷ []) [] within),
  )
  | inr apart ↦ inl (ap (λ (xs : List (List ℕ)). get_or xs m []) is ∙ get_or-set_other old g m (get_or old g [] ++ number ∷ []) [] apart)
]

-- a number is added to one list more
pub adds_more : (number : ℕ) (before old new : List (List ℕ)) (g : ℕ) → AddsTo number before old → g < length old
    → new ≡ set old g (get_or old g [] ++ number ∷ []) → AddsTo number before new
adds_more number before old new g adds within is = record {
  sized = ap length is ∙ (length-set old g (get_or old g [] ++ number ∷ []) ∙ adds.sized);
  kept = λ m k has. elim (push_row number m old new g within is) [
    | inl same ↦ subst (λ (xs : List ℕ). Contains xs k) (sym same) (adds.kept m k has)
    | inr more ↦ subst (λ (xs : List ℕ). Contains xs k) (sym more.1) (Contains-append_left (get_or old m []) (number ∷ []) k (adds.kept m k has))
  ];
  only = λ m k has. elim (push_row number m old new g within is) [
    | inl same ↦ adds.only m k (subst (λ (xs : List ℕ). Contains xs k) same has)
    | inr more ↦ elim (Contains-push_cases (get_or old m []) number k (subst (λ (xs : List ℕ). Contains xs k) more.1 has)) [
      | inl stood ↦ adds.only m k stood
      | inr here ↦ inr (sym here)
    ]
  ];
}

-- it stands in the list to which it was added
pub added_here : (number : ℕ) (old new : List (List ℕ)) (g : ℕ) → g < length old
    → new ≡ set old g (get_or old g [] ++ number ∷ []) → Contains (get_or new g []) number
added_here number old new g within is =
    subst (λ (xs : List ℕ). Contains xs number) (sym (ap (λ (xs : List (List ℕ)). get_or xs g []) is ∙ get_or-set_same old g (get_or old g [] ++ number ∷ []) [] within))
    (Contains-push (get_or old g []) number)

-- ---- kinds

at_kept : {X : Type 0} → (xs ys : List X) (n : ℕ) (x : X) → slice_get xs n ≡ Some x → slice_get (xs ++ ys) n ≡ Some x
at_kept [] ys n x is = cc
at_kept (z ∷ xs) ys zero x is = is
at_kept (z ∷ xs) ys (suc n) x is = at_kept xs ys n x is

at_last : {X : Type 0} → (xs : List X) (x : X) → slice_get (xs ++ x ∷ []) (length xs) ≡ Some x
at_last [] x = refl
at_last (z ∷ xs) x = at_last xs x

-- what stands in a list with one more item stood there, or is the last
at_cases : {X : Type 0} → (xs : List X) (x : X) (n : ℕ) (y : X) → slice_get (xs ++ x ∷ []) n ≡ Some y → (slice_get xs n ≡ Some y) ⊎ ((n ≡ length xs) × (x ≡ y))
at_cases [] x zero y is = inr (refl, cc)
at_cases [] x (suc n) y is = absurd (let no_way : ⊥ = cc in no_way)
at_cases (z ∷ xs) x zero y is = inl is
at_cases (z ∷ xs) x (suc n) y is = elim (at_cases xs x n y is) [ inl stood ↦ inl stood | inr last ↦ inr (ap suc last.0, last.1) ]

-- a number that is added stands at the end
last_number : (k new : Kinded) (n number : ℕ) → length k.numbers ≡ n → new.numbers ≡ k.numbers ++ number ∷ [] → number_of new n ≡ number
last_number k new n number sized numbers = ap (λ (xs : List ℕ). get_or xs n 0) numbers ∙ get_or_push k.numbers number 0 n sized

-- one more derivation has its kind, and the kinds are those that there were, or more
kinds_grown : (machines : List Builder) (home : Settings) (needs : List Need) (n number : ℕ) (k new : Kinded) (more : List Kind)
    → length k.numbers ≡ n → new.numbers ≡ k.numbers ++ number ∷ [] → new.kinds ≡ k.kinds ++ more
    → ((need : Need) → slice_get needs n ≡ Some need → HasKind machines home new n need)
    → HaveKinds machines home needs n k → HaveKinds machines home needs (n + 1) new
kinds_grown machines home needs n number k new more sized numbers kinds last had = record {
  each = λ d need lt is. elim (cases_lt d n) [
    | inl before ↦
        let was = had.each d need before is in
        let stands : number_of new d ≡ number_of k d = ap (λ (xs : List ℕ). get_or xs d 0) numbers ∙ get_or_append_left k.numbers (number ∷ []) 0 d (omega (arith, before, sized)) in
        record {
          kind = was.kind;
          at = ap (λ (j : ℕ). slice_get new.kinds j) stands ∙ (ap (λ (xs : List Kind). slice_get xs (number_of k d)) kinds ∙ at_kept k.kinds more (number_of k d) was.kind was.at);
          fits = was.fits;
        }
    | inr from_on ↦
        let here : n ≡ d = omega (arith, lt, from_on) in
        subst (λ (j : ℕ). HasKind machines home new j need) here (last need (subst (λ (j : ℕ). slice_get needs j ≡ Some need) (sym here) is))
  ];
}

pub so_far_none : (machines : List Builder) (home : Settings) (needs : List Need) (k : Kinded) → k.numbers ≡ [] → k.kinds ≡ [] → length k.users ≡ length machines + 1 → AreSoFar machines home needs 0 k
so_far_none machines home needs k numbers kinds park = record {
  sized = ap length numbers;
  kinds = record { each = λ d need lt is. absurd (omega (arith, lt)) };
  users = record { each = λ n kind is m may. let at : slice_get [] n ≡ Some kind = subst (λ (xs : List Kind). slice_get xs n ≡ Some kind) kinds is in absurd (let no_way : ⊥ = cc in no_way) };
  park = park;
}

-- one more derivation has the need of an earlier one
pub so_far_joined : (machines : List Builder) (home : Settings) (needs : List Need) (n first : ℕ) (k new : Kinded)
    → SharesNeed needs n first → new ≡ record k { numbers = k.numbers ++ number_of k first ∷ [] }
    → AreSoFar machines home needs n k → AreSoFar machines home needs (n + 1) new
so_far_joined machines home needs n first k new shares made so_far =
    let grown : Kinded = record k { numbers = k.numbers ++ number_of k first ∷ [] } in
    subst (λ (x : Kinded). AreSoFar machines home needs (n + 1) x) (sym made) (record {
      sized = length-append k.numbers (number_of k first ∷ []) ∙ ap (λ (j : ℕ). j + 1) so_far.sized;
      kinds = kinds_grown machines home needs n (number_of k first) k grown [] so_far.sized refl (sym (append-nil k.kinds))
          (λ need is.
          let was = so_far.kinds.each first need shares.earlier (shares.same ∙ is) in
          record { kind = was.kind; at = ap (λ (j : ℕ). slice_get k.kinds j) (last_number k grown n (number_of k first) so_far.sized refl) ∙ was.at; fits = was.fits })
          so_far.kinds;
      users = record { each = so_far.users.each };
      park = so_far.park;
    })

-- one more derivation has a kind of its own
so_far_added : (machines : List Builder) (home : Settings) (needs : List Need) (n : ℕ) (need : Need) (kind : Kind) (k new : Kinded)
    → slice_get needs n ≡ Some need → IsKindOf machines home need kind → IsOneMore kind k new
    → AreSoFar machines home needs n k → AreSoFar machines home needs (n + 1) new
so_far_added machines home needs n need kind k new is fits more so_far =
    let at : slice_get new.kinds (length k.kinds) ≡ Some kind = ap (λ (xs : List Kind). slice_get xs (length k.kinds)) more.kinds ∙ at_last k.kinds kind in
    record {
      sized = ap length more.numbers ∙ (length-append k.numbers (length k.kinds ∷ []) ∙ ap (λ (j : ℕ). j + 1) so_far.sized);
      kinds = kinds_grown machines home needs n (length k.kinds) k new (kind ∷ []) so_far.sized more.numbers more.kinds
          (λ other here.
          let one : need ≡ other = cc in
          record {
            kind = kind;
            at = ap (λ (j : ℕ). slice_get new.kinds j) (last_number k new n (length k.kinds) so_far.sized more.numbers) ∙ at;
            fits = subst (λ (x : Need). IsKindOf machines home x kind) one fits;
          })
          so_far.kinds;
      users = record {
        each = λ j other stands m may.
            elim (at_cases k.kinds kind j other (subst (λ (xs : List Kind). slice_get xs j ≡ Some other) more.kinds stands)) [
              | inl stood ↦ more.adds.kept m j (so_far.users.each j other stood m may)
              | inr last ↦
                  subst (λ (x : ℕ). Contains (users_of new m) x) (sym last.0)
                  (more.listed.each m (subst (λ (x : Kind). MayUse x m) (sym last.1) may))
            ];
      };
      park = more.adds.sized ∙ so_far.park;
    }

pub known_kind : (kind : Kind) (k new : Kinded) (number : ℕ) → slice_get k.kinds number ≡ Some kind → new ≡ record k { numbers = k.numbers ++ number ∷ [] } → IsOneMoreOf kind k new
known_kind kind k new number at grown = inl (record { number = number; at = at; grown = grown })

pub new_kind : (kind : Kind) (k new : Kinded) → IsOneMore kind k new → IsOneMoreOf kind k new
new_kind kind k new more = inr more

-- what stands at a number of a list lies within it
pub kind_within : {X : Type 0} → (xs : List X) (n : ℕ) (x : X) → slice_get xs n ≡ Some x → n < length xs
kind_within [] n x is = absurd (let no_way : ⊥ = cc in no_way)
kind_within (y ∷ xs) zero x is = omega arith
kind_within (y ∷ xs) (suc n) x is = let rest = kind_within xs n x is in omega (arith, rest)

-- one more derivation has a kind that there is
so_far_known : (machines : List Builder) (home : Settings) (needs : List Need) (n : ℕ) (need : Need) (kind : Kind) (k new : Kinded)
    → slice_get needs n ≡ Some need → IsKindOf machines home need kind → HasJoined kind k new
    → AreSoFar machines home needs n k → AreSoFar machines home needs (n + 1) new
so_far_known machines home needs n need kind k new is fits joined so_far =
    let number = joined.number in
    let grown : Kinded = record k { numbers = k.numbers ++ number ∷ [] } in
    subst (λ (x : Kinded). AreSoFar machines home needs (n + 1) x) (sym joined.grown) (record {
      sized = length-append k.numbers (number ∷ []) ∙ ap (λ (j : ℕ). j + 1) so_far.sized;
      kinds = kinds_grown machines home needs n number k grown [] so_far.sized refl (sym (append-nil k.kinds))
          (λ other here.
          let one : need ≡ other = cc in
          record {
            kind = kind;
            at = ap (λ (j : ℕ). slice_get k.kinds j) (last_number k grown n number so_far.sized refl) ∙ joined.at;
            fits = subst (λ (x : Need). IsKindOf machines home x kind) one fits;
          })
          so_far.kinds;
      users = record { each = so_far.users.each };
      park = so_far.park;
    })

-- one more derivation has this kind
pub so_far_taken : (machines : List Builder) (home : Settings) (needs : List Need) (n : ℕ) (need : Need) (kind : Kind) (k new : Kinded)
    → slice_get needs n ≡ Some need → IsKindOf machines home need kind → IsOneMoreOf kind k new
    → AreSoFar machines home needs n k → AreSoFar machines home needs (n + 1) new
so_far_taken machines home needs n need kind k new is fits more so_far = elim more [
  | inl joined ↦ so_far_known machines home needs n need kind k new is fits joined so_far
  | inr own ↦ so_far_added machines home needs n need kind k new is fits own so_far
]

-- all derivations have their kinds
pub so_far_all : (machines : List Builder) (home : Settings) (needs : List Need) (n : ℕ) (k : Kinded) → n ≡ length needs → AreSoFar machines home needs n k → AreKinds machines home needs k
so_far_all machines home needs n k is so_far = record {
  sized = so_far.sized ∙ is;
  kinds = subst (λ (j : ℕ). HaveKinds machines home needs j k) is so_far.kinds;
  users = so_far.users;
  park = so_far.park;
}

-- the number stands with the local machine where the kind may use it, and with the machines at the first n places
pub record AreListedTo (kind : Kind) (number n : ℕ) (users : List (List ℕ)) : Type 0 where
  pub home : kind.local ≡ true → Contains (get_or users 0 []) number
  pub places : (k : ℕ) → k < n → Contains (get_or users (get_or kind.places k 0 + 1) []) number

-- the machine at one more place
pub listed_more : (kind : Kind) (number n : ℕ) (before old new : List (List ℕ)) (place : ℕ) → place ≡ get_or kind.places n 0 → place + 1 < length old
    → new ≡ set old (place + 1) (get_or old (place + 1) [] ++ number ∷ []) → AddsTo number before old
    → AreListedTo kind number n old → AreListedTo kind number (n + 1) new
listed_more kind number n before old new place is within made adds listed =
    let more = adds_more number old old new (place + 1) (adds_none number old) within made in
    record {
      home = λ h. more.kept 0 number (listed.home h);
      places = λ k lt. elim (cases_lt k n) [
        | inl earlier ↦ more.kept (get_or kind.places k 0 + 1) number (listed.places k earlier)
        | inr from_on ↦
            let here : n ≡ k = omega arith in
            subst (λ (j : ℕ). Contains (get_or new (get_or kind.places j 0 + 1) []) number) here
            (subst (λ (p : ℕ). Contains (get_or new (p + 1) []) number) is (added_here number old new (place + 1) within made))
      ];
    }

all_listed : (kind : Kind) (number n : ℕ) (users : List (List ℕ)) → length kind.places ≤ n → AreListedTo kind number n users → (m : ℕ) → MayUse kind m → Contains (get_or users m []) number
all_listed kind number n users le listed zero may = listed.home may
all_listed kind number n users le listed (suc p) may =
    subst (λ (j : ℕ). Contains (get_or users j []) number) (add-one p)
    (All-contains (λ (q : ℕ). Contains (get_or users (q + 1) []) number) kind.places p
    (All-from_get_or (λ (q : ℕ). Contains (get_or users (q + 1) []) number) kind.places 0 (λ k lt. listed.places k (omega (arith, lt, le)))) may)

-- the number stands with each machine that the kind may use
pub listed_all : (kind : Kind) (number n : ℕ) (users : List (List ℕ)) → length kind.places ≤ n → AreListedTo kind number n users → IsListed kind number users
listed_all kind number n users le listed = record { each = all_listed kind number n users le listed }

-- ---- the numbers are those of kinds

-- what a number was added to has numbers of the kinds that there are then
pub kept_added : (numbers : List ℕ) (kinds : List Kind) (users : List (List ℕ)) (all : List Kind) (now : List (List ℕ)) (kind : Kind)
    → all ≡ kinds ++ kind ∷ [] → (number : ℕ) → number ≡ length kinds → AddsTo number users now
    → All (λ n. n < length kinds) numbers → ((m : ℕ) → All (λ n. n < length kinds) (get_or users m []))
    → All (λ n. n < length all) numbers × ((m : ℕ) → All (λ n. n < length all) (get_or now m []))
kept_added numbers kinds users all now kind is number last adds ranged users_ranged =
    let longer : length all ≡ length kinds + 1 = ap length is ∙ length-append kinds (kind ∷ []) in (
      λ k d lt. let was = ranged k d lt in omega (arith, was, longer),
      λ m k d lt. elim (adds.only m (get_or (get_or now m []) k d) (Contains-get_or (get_or now m []) k d lt)) [
        | inl stood ↦ let was = All-contains (λ (n : ℕ). n < length kinds) (get_or users m []) (get_or (get_or now m []) k d) (users_ranged m) stood in omega (arith, was, longer)
        | inr here ↦ omega (arith, here, longer, last)
      ],
    )

-- one more number that is less than the bound
pub pushed_ranged : (numbers : List ℕ) (number bound : ℕ) → All (λ n. n < bound) numbers → number < bound → All (λ n. n < bound) (numbers ++ number ∷ [])
pushed_ranged numbers number bound ranged lt =
    All-from_get_or (λ (n : ℕ). n < bound) (numbers ++ number ∷ []) 0 (λ k within. elim (cases_lt k (length numbers)) [
      | inl before ↦ let was = All-get_or (λ (n : ℕ). n < bound) numbers k 0 before ranged in let same = get_or_append_left numbers (number ∷ []) 0 k before in omega (arith, was, same)
      | inr from_on ↦
          let long = length-append numbers (number ∷ []) in
          let same = get_or_push numbers number 0 k (omega (arith, within, long, from_on)) in omega (arith, lt, same)
    ])

-- the places of a kind lie in the list, so that each of its machines has a list of users
pub places_within : (machines : List Builder) (home : Settings) (need : Need) (kind : Kind) (park : ℕ) → park ≡ length machines + 1 → IsKindOf machines home need kind → All (λ p. p + 1 < park) kind.places
places_within machines home need kind park is fits =
    All-from_get_or (λ (p : ℕ). p + 1 < park) kind.places 0 (λ k lt.
    let at = (fits.eligible.exact (get_or kind.places k 0)).0 (Contains-get_or kind.places k 0 lt) in
    let within = eligible_within machines need (get_or kind.places k 0) at in
    omega (arith, within, is))

-- ---- the kind of a derivation

-- the kind that a derivation has is as its need wants it
pub kind_suits : (machines : List Builder) (local : Settings) (needs : List Need) (k : Kinded) (d : ℕ) (need : Need) (kind : Kind) → AreKinds machines local needs k → slice_get needs d ≡ Some need
    → slice_get k.kinds (number_of k d) ≡ Some kind → IsKindOf machines local need kind
kind_suits machines local needs k d need kind are is_need at =
    let has = are.kinds.each d need (slice_get_within needs d need is_need) is_need in
    let at_has = has.at in
    let one : has.kind ≡ kind = cc in
    subst (λ (some : Kind). IsKindOf machines local need some) one has.fits
