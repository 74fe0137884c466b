-- Paths that are entered in a table and by number.
use Rattle.std.proofs.Common.{◌≡◌, ◌≢◌, ◌⊎◌, ℕ, ◌<◌, Bool, true, false, if◌then◌else◌, List, [], ◌∷◌, ◌++◌, length, get_or, map, set, refl, sym, ap, subst, ◌∙◌, arith, inl, inr}
use Rattle.std.specs.List.{Contains}
use Rattle.std.specs.Cmp.Lexicographic.{nat_list_eq_equiv}
use Rattle.std.proofs.lemmas.Bool.{cases_Bool, cases_eq}
use Rattle.std.proofs.lemmas.List.{append-nil, append_assoc, map-append, get_or-set_same, get_or-set_other}
use Rattle.std.proofs.lemmas.List.Elements.{Contains-push_cases, Contains-get_or}
use Rattle.nd_path.specs.StorePath.{path_eq}
use Rattle.nd_path.specs.SamePaths.{paths_same}
use Rattle.nd_closure.specs.Tables.{is_listed, refs_of}
use Rattle.nd_path_numbers.specs.Numbers.{Numbered, path_in, row_in, AreKnown, AreNumbered, HasGrown}
use Rattle.nd_path_numbers.proofs.Growing.{known_stay, names_stay}
use Rattle.nd_path_numbers.proofs.Searched.{named, has_name}
use Rattle.nd_provision.specs.declared.copying.Listing.{Listing}
use Rattle.nd_provision.specs.Stored.{entry_of, IsListing, AreListings, HasEntered, AreRefsHeld, AreRowsCovered, AreListingsCovered}
use Rattle.nd_provision.proofs.Lookalikes.{looks_same, looks_through, looks_longer, looks_again}
use Rattle.nd_history.proofs.Reported.{nothing_in, refs_first, refs_second, refs_unlisted, contains_here, contains_there}

-- ---- listings

pub listing_stays : (old new : Numbered) (l : Listing) → HasGrown old new → IsListing old.paths l → IsListing new.paths l
listing_stays old new l grown is =
    let one : AreKnown old.paths (l.number ∷ []) = record { each = λ n h. first n h } in
    let there : Contains (l.number ∷ []) l.number = (0, omega arith, refl) in
    record {
      known = (known_stay old new (l.number ∷ []) grown one).each l.number there;
      path = head (names_stay old new (l.number ∷ []) grown one) ∙ is.path;
      row = known_stay old new l.row grown is.row;
      refs = names_stay old new l.row grown is.row ∙ is.refs;
    }
  where
    first : (n : ℕ) → Contains (l.number ∷ []) n → n < length old.paths
    first n h = elim (Contains-push_cases [] l.number n h) [
      | inl none ↦ absurd (omega (arith, none.1))
      | inr same ↦ subst (λ (x : ℕ). x < length old.paths) same is.known
    ]

    head : {p q : List ℕ} → p ∷ [] ≡ q ∷ [] → p ≡ q
    head same = ap (λ (xs : List (List ℕ)). get_or xs 0 []) same

pub listings_stay : (old new : Numbered) (ls : List Listing) → HasGrown old new → AreListings old.paths ls → AreListings new.paths ls
listings_stay old new ls grown are = record { each = λ l h. listing_stays old new l grown (are.each l h) }

pub no_listings : (paths : List (List ℕ)) → AreListings paths []
no_listings paths = record { each = λ l h. absurd (omega (arith, h.1)) }

pub listings_push : (old new : Numbered) (ls : List Listing) (l : Listing) → HasGrown old new → AreListings old.paths ls → IsListing new.paths l → AreListings new.paths (ls ++ l ∷ [])
listings_push old new ls l grown are is = record {
  each = λ k h. elim (Contains-push_cases ls l k h) [
    | inl before ↦ listing_stays old new k grown (are.each k before)
    | inr same ↦ subst (λ (x : Listing). IsListing new.paths x) same is
  ];
}

pub entries_push : (ls : List Listing) (l : Listing) (path : List ℕ) (refs : List (List ℕ)) → entry_of l ≡ (path, refs) → map entry_of (ls ++ l ∷ []) ≡ map entry_of ls ++ (path, refs) ∷ []
entries_push ls l path refs is = map-append entry_of ls (l ∷ []) ∙ ap (λ (e : List ℕ × List (List ℕ)). map entry_of ls ++ e ∷ []) is

-- ---- entered one by one

pub entered_none : (t : List (List ℕ × List (List ℕ))) (n : Numbered) → HasEntered t t n n []
entered_none t n = record { looks = looks_same t (t ++ []) (sym (append-nil t)); paths = refl; numbered = λ are. are }

pub entered_through : (one two three : List (List ℕ × List (List ℕ))) (n m k : Numbered) (ls : List Listing) (l : Listing) → HasEntered one two n m ls → HasEntered two three m k (l ∷ []) → HasEntered one three n k (ls ++ l ∷ [])
entered_through one two three n m k ls l before here = record {
  looks = looks_through three (two ++ entry_of l ∷ []) (one ++ map entry_of (ls ++ l ∷ [])) here.looks
      (looks_through (two ++ entry_of l ∷ []) ((one ++ map entry_of ls) ++ entry_of l ∷ []) (one ++ map entry_of (ls ++ l ∷ []))
      (looks_longer two (one ++ map entry_of ls) (entry_of l ∷ []) before.looks)
      (looks_same _ _ (append_assoc one (map entry_of ls) (entry_of l ∷ []) ∙ ap (λ (es : List (List ℕ × List (List ℕ))). one ++ es) (sym (map-append entry_of ls (l ∷ []))))));
  paths = here.paths ∙ before.paths;
  numbered = λ are. here.numbered (before.numbered are);
}

-- a path that is listed already
pub entered_again : (t new : List (List ℕ × List (List ℕ))) (n : Numbered) (l : Listing) → is_listed t l.path ≡ true → new ≡ t → HasEntered t new n n (l ∷ [])
entered_again t new n l known is = record {
  looks = looks_through new t (t ++ entry_of l ∷ []) (looks_same new t is) (looks_again t (entry_of l) known);
  paths = refl;
  numbered = λ are. rw is are;
}

refs_alone : (p : List ℕ) (e : List ℕ × List (List ℕ)) (q : List ℕ) → Contains (refs_of (e ∷ []) p) q → (p ≡ e.0) × Contains e.1 q
refs_alone p e q h = elim (cases_Bool (path_eq p e.0)) [
  | inl same ↦ (paths_same p e.0 same, subst (λ (b : Bool). Contains (if b then e.1 else []) q) same h)
  | inr apart ↦ absurd (nothing_in q (subst (λ (b : Bool). Contains (if b then e.1 else []) q) apart h))
]

alone_refs : (p : List ℕ) (e : List ℕ × List (List ℕ)) (q : List ℕ) → p ≡ e.0 → Contains e.1 q → Contains (refs_of (e ∷ []) p) q
alone_refs p e q same h =
    let eq : path_eq p e.0 ≡ true = subst (λ (x : List ℕ). path_eq p x ≡ true) same (nat_list_eq_equiv.refl p) in
    subst (λ (b : Bool). Contains (if b then e.1 else []) q) (sym eq) h

-- a path that isn't listed yet
pub entered_new : (t new : List (List ℕ × List (List ℕ))) (n after : Numbered) (l : Listing) → is_listed t l.path ≡ false → new ≡ t ++ entry_of l ∷ [] → after.paths ≡ n.paths → after.rows ≡ set n.rows l.number l.row → l.number < length n.rows
    → IsListing n.paths l → HasEntered t new n after (l ∷ [])
entered_new t new n after l fresh is paths rows within listing = record {
  looks = looks_same new (t ++ entry_of l ∷ []) is;
  paths = paths;
  numbered = λ are. rw (is, paths) (told are);
}
  where
    longer : List (List ℕ × List (List ℕ))
    longer = t ++ entry_of l ∷ []

    own : row_in after.rows l.number ≡ l.row
    own = ap (λ (rs : List (List ℕ)). row_in rs l.number) rows ∙ get_or-set_same n.rows l.number l.row [] within

    other : (a : ℕ) → a ≢ l.number → row_in after.rows a ≡ row_in n.rows a
    other a ne = ap (λ (rs : List (List ℕ)). row_in rs a) rows ∙ get_or-set_other n.rows l.number a l.row [] ne

    -- what the longer table lists for a path
    from_longer : (p q : List ℕ) → Contains (refs_of longer p) q → Contains (refs_of t p) q ⊎ ((p ≡ l.path) × Contains l.refs q)
    from_longer p q h = elim (cases_Bool (is_listed t p)) [
      | inl here ↦ inl (subst (λ (rs : List (List ℕ)). Contains rs q) (refs_first t (entry_of l ∷ []) p here) h)
      | inr past ↦ inr (refs_alone p (entry_of l) q (subst (λ (rs : List (List ℕ)). Contains rs q) (refs_second t (entry_of l ∷ []) p past) h))
    ]

    to_longer : (p q : List ℕ) → Contains (refs_of t p) q → Contains (refs_of longer p) q
    to_longer p q h = elim (cases_Bool (is_listed t p)) [
      | inl here ↦ subst (λ (rs : List (List ℕ)). Contains rs q) (sym (refs_first t (entry_of l ∷ []) p here)) h
      | inr past ↦ absurd (nothing_in q (subst (λ (rs : List (List ℕ)). Contains rs q) (refs_unlisted t p past) h))
    ]

    in_longer : (q : List ℕ) → Contains l.refs q → Contains (refs_of longer l.path) q
    in_longer q h = subst (λ (rs : List (List ℕ)). Contains rs q) (sym (refs_second t (entry_of l ∷ []) l.path fresh)) (alone_refs l.path (entry_of l) q refl h)

    unlisted : (q : List ℕ) → Contains (refs_of t l.path) q → ⊥
    unlisted q h = nothing_in q (subst (λ (rs : List (List ℕ)). Contains rs q) (refs_unlisted t l.path fresh) h)

    there : Contains n.paths l.path
    there = subst (λ (x : List ℕ). Contains n.paths x) listing.path (Contains-get_or n.paths l.number [] listing.known)

    ranged : AreNumbered t n → (a b : ℕ) → Contains (row_in after.rows a) b → (a < length n.paths) × (b < length n.paths)
    ranged are a b h = elim (cases_eq a l.number) [
      | inl same ↦ (subst (λ (x : ℕ). x < length n.paths) (sym same) listing.known, listing.row.each b (subst (λ (xs : List ℕ). Contains xs b) (ap (row_in after.rows) same ∙ own) h))
      | inr ne ↦ are.ranged a b (subst (λ (xs : List ℕ). Contains xs b) (other a ne) h)
    ]

    sound : AreNumbered t n → (a b : ℕ) → Contains (row_in after.rows a) b → Contains (refs_of longer (path_in n.paths a)) (path_in n.paths b)
    sound are a b h = elim (cases_eq a l.number) [
      | inl same ↦
          let listed : Contains l.row b = subst (λ (xs : List ℕ). Contains xs b) (ap (row_in after.rows) same ∙ own) h in
          let said : Contains l.refs (path_in n.paths b) = subst (λ (xs : List (List ℕ)). Contains xs (path_in n.paths b)) listing.refs (has_name n.paths l.row b listed) in
          subst (λ (p : List ℕ). Contains (refs_of longer p) (path_in n.paths b)) (sym (ap (path_in n.paths) same ∙ listing.path)) (in_longer (path_in n.paths b) said)
      | inr ne ↦ to_longer (path_in n.paths a) (path_in n.paths b) (are.sound a b (subst (λ (xs : List ℕ). Contains xs b) (other a ne) h))
    ]

    complete : AreNumbered t n → (a : ℕ) (q : List ℕ) → a < length n.paths → Contains (refs_of longer (path_in n.paths a)) q → (b : ℕ) × Contains (row_in after.rows a) b × (path_in n.paths b ≡ q)
    complete are a q lt h = elim (cases_eq a l.number) [
      | inl same ↦
          let here : path_in n.paths a ≡ l.path = ap (path_in n.paths) same ∙ listing.path in
          let said : Contains l.refs q = (elim (from_longer (path_in n.paths a) q h) [
            | inl before ↦ absurd (unlisted q (subst (λ (p : List ℕ). Contains (refs_of t p) q) here before))
            | inr new_one ↦ new_one.1
          ]) in
          let at = named n.paths l.row q (subst (λ (xs : List (List ℕ)). Contains xs q) (sym listing.refs) said) in
          (at.0, subst (λ (xs : List ℕ). Contains xs at.0) (sym (ap (row_in after.rows) same ∙ own)) at.1, at.2)
      | inr ne ↦ (elim (from_longer (path_in n.paths a) q h) [
        | inl before ↦ (let at = are.complete a q lt before in (at.0, subst (λ (xs : List ℕ). Contains xs at.0) (sym (other a ne)) at.1, at.2))
        | inr new_one ↦ absurd (ne (are.distinct.one a l.number lt listing.known (new_one.0 ∙ sym listing.path)))
      ])
    ]

    told : AreNumbered t n → AreNumbered longer (record { paths = n.paths; rows = after.rows })
    told are = record {
      distinct = are.distinct;
      listed = λ p q h. elim (from_longer p q h) [
        | inl before ↦ are.listed p q before
        | inr new_one ↦ subst (λ (x : List ℕ). Contains n.paths x) (sym new_one.0) there
      ];
      ranged = ranged are;
      sound = sound are;
      complete = complete are;
    }

-- ---- what the outputs of a build refer to

pub refs_held : (table : List (List ℕ × List (List ℕ))) (n : Numbered) (held own : List ℕ) (ls : List Listing) → AreKnown n.paths own → AreListings n.paths ls → AreRowsCovered n.rows held own own → AreListingsCovered ls held own → AreNumbered table n
    → AreRefsHeld (table ++ map entry_of ls) (map (path_in n.paths) own) (map (path_in n.paths) held)
refs_held table n held own ls known listed rows few are = record {
  each = λ p q out h. elim (cases_Bool (is_listed table p)) [
    | inl before ↦
        let at = named n.paths own p out in
        let said : Contains (refs_of table (path_in n.paths at.0)) q = subst (λ (x : List ℕ). Contains (refs_of table x) q) (sym at.2) (subst (λ (rs : List (List ℕ)). Contains rs q) (refs_first table (map entry_of ls) p before) h) in
        let to = are.complete at.0 q (known.each at.0 at.1) said in
        among q to.0 to.2 ((rows.each at.0 at.1).each to.0 to.1)
    | inr new ↦ listed_one ls p q listed few (subst (λ (rs : List (List ℕ)). Contains rs q) (refs_second table (map entry_of ls) p new) h)
  ];
}
  where
    among : (q : List ℕ) (b : ℕ) → path_in n.paths b ≡ q → Contains own b ⊎ Contains held b → Contains (map (path_in n.paths) held) q ⊎ Contains (map (path_in n.paths) own) q
    among q b is (inl there) = inr (subst (λ (x : List ℕ). Contains (map (path_in n.paths) own) x) is (has_name n.paths own b there))
    among q b is (inr there) = inl (subst (λ (x : List ℕ). Contains (map (path_in n.paths) held) x) is (has_name n.paths held b there))

    listed_one : (ls : List Listing) (p q : List ℕ) → AreListings n.paths ls → AreListingsCovered ls held own → Contains (refs_of (map entry_of ls) p) q → Contains (map (path_in n.paths) held) q ⊎ Contains (map (path_in n.paths) own) q
    listed_one [] p q are few h = absurd (nothing_in q h)
    listed_one (l ∷ ls) p q are few h = elim (cases_Bool (path_eq p l.path)) [
      | inl same ↦
          let said : Contains l.refs q = subst (λ (b : Bool). Contains (if b then l.refs else refs_of (map entry_of ls) p) q) same h in
          let at = named n.paths l.row q (subst (λ (xs : List (List ℕ)). Contains xs q) (sym (are.each l (contains_here l ls)).refs) said) in
          among q at.0 at.2 ((few.each l (contains_here l ls)).each at.0 at.1)
      | inr apart ↦ listed_one ls p q (record { each = λ k there. are.each k (contains_there l ls k there) }) (record { each = λ k there. few.each k (contains_there l ls k there) })
          (subst (λ (b : Bool). Contains (if b then l.refs else refs_of (map entry_of ls) p) q) apart h)
    ]
