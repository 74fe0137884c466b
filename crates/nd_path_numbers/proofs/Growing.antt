-- Paths that become known one by one, and what stays so.
use Rattle.std.proofs.Common.{◌≡◌, ℕ, zero, suc, if◌then◌else◌, ◌+◌, ◌<◌, ◌≤◌, Bool, true, false, List, [], ◌∷◌, ◌++◌, length, map, get_or, take, refl, sym, ap, subst, ◌∙◌, arith, inl, inr, Option, Some, None, is_some, true≢false}
use Rattle.std.specs.List.{Contains, IsDistinct, list_any, position}
use Rattle.std.specs.Cmp.Lexicographic.{nat_list_eq_equiv}
use Rattle.std.proofs.lemmas.Bool.{cases_lt}
use Rattle.std.proofs.lemmas.List.{get_or_default, append-nil, append_assoc, length-append, get_or_append_left, get_or_past, take_more, map-append}
use Rattle.std.proofs.lemmas.List.Elements.{Contains-push_cases, Contains-append_cases, Contains-append_left}
use Rattle.std.proofs.lemmas.List.Folds.{list_any_at}
use Rattle.std.proofs.lemmas.List.Quantifiers.{position-Some}
use Rattle.std.proofs.lemmas.Option.{get_or_from_slice_get}
use Rattle.std.specs.List.{slice_get}
use Rattle.std.proofs.lemmas.Map.Keys.{apart_from_distinct}
use Rattle.nd_path.specs.StorePath.{path_eq}
use Rattle.nd_path.specs.SamePaths.{paths_same}
use Rattle.nd_path.specs.PathSets.{HasSameMembers}
use Rattle.nd_closure.specs.Tables.{refs_of}
use Rattle.nd_path_numbers.specs.Numbers.{AreNumbered, IsSetOf, Numbered, path_in, row_in, AreDistinct, AreKnown, AreNumbersOf, IsNumberOf, IsLookedUp, HasGrown, AddsOnly, Gathers}

-- ---- numbers of paths

equal_paths : (p q : List ℕ) → p ≡ q → path_eq p q ≡ true
equal_paths p q same = subst (λ (x : List ℕ). path_eq p x ≡ true) same (nat_list_eq_equiv.refl p)

-- keys that differ have one number each
pub distinct_keys : (paths : List (List ℕ)) → IsDistinct path_eq paths → AreDistinct paths
distinct_keys paths apart = record {
  one = λ a b p q same. elim (cases_lt a b) [
    | inl below ↦ absurd (true≢false (sym (equal_paths _ _ same) ∙ apart_from_distinct path_eq paths a b [] apart below q))
    | inr above ↦ (elim (cases_lt b a) [
      | inl below ↦ absurd (true≢false (sym (equal_paths _ _ (sym same)) ∙ apart_from_distinct path_eq paths b a [] apart below p))
      | inr not_above ↦ omega arith
    ])
  ];
}

-- a path is looked up
pub looked_up : (paths : List (List ℕ)) (path : List ℕ) (found : Option ℕ) → found ≡ position (path_eq path) paths → is_some found ≡ list_any (path_eq path) paths → IsLookedUp paths path found
looked_up paths path None at is = λ n h. true≢false (sym (list_any_at (path_eq path) paths n [] h.known (equal_paths path (path_in paths n) (sym h.named))) ∙ sym is)
looked_up paths path (Some n) at is =
    let place = position-Some (path_eq path) paths n [] (sym at) in
    record { known = place.0; named = sym (paths_same path (get_or paths n []) place.1) }

-- ---- lists of numbers

map_stays : (paths more : List (List ℕ)) (numbers : List ℕ) → AreKnown paths numbers → map (path_in (paths ++ more)) numbers ≡ map (path_in paths) numbers
map_stays paths more [] known = refl
map_stays paths more (n ∷ numbers) known =
    let first : path_in (paths ++ more) n ≡ path_in paths n = get_or_append_left paths more [] n (known.each n (0, omega arith, refl)) in
    let rest : map (path_in (paths ++ more)) numbers ≡ map (path_in paths) numbers =
    map_stays paths more numbers (record { each = λ k h. known.each k (suc h.0, omega (arith, h.1), h.2) }) in
    rw (first, rest) refl

pub names_stay : (old new : Numbered) (numbers : List ℕ) → HasGrown old new → AreKnown old.paths numbers → map (path_in new.paths) numbers ≡ map (path_in old.paths) numbers
names_stay old new numbers grown known = ap (λ (ps : List (List ℕ)). map (path_in ps) numbers) grown.paths ∙ map_stays old.paths grown.more numbers known

pub known_stay : (old new : Numbered) (numbers : List ℕ) → HasGrown old new → AreKnown old.paths numbers → AreKnown new.paths numbers
known_stay old new numbers grown known = record {
  each = λ n h. rw grown.paths (omega (arith, known.each n h, length-append old.paths grown.more));
}

pub numbers_stay : (old new : Numbered) (paths : List (List ℕ)) (numbers : List ℕ) → HasGrown old new → AreNumbersOf old.paths paths numbers → AreNumbersOf new.paths paths numbers
numbers_stay old new paths numbers grown are = record {
  known = known_stay old new numbers grown are.known;
  named = names_stay old new numbers grown are.known ∙ are.named;
}

pub no_numbers : (known : List (List ℕ)) → AreNumbersOf known [] []
no_numbers known = record { known = record { each = λ n h. absurd (omega (arith, h.1)) }; named = refl }

pub numbers_push : (known paths : List (List ℕ)) (numbers : List ℕ) (p : List ℕ) (n : ℕ) → AreNumbersOf known paths numbers → IsNumberOf known p n → AreNumbersOf known (paths ++ p ∷ []) (numbers ++ n ∷ [])
numbers_push known paths numbers p n are is = record {
  known = record {
    each = λ k h. elim (Contains-push_cases numbers n k h) [
      | inl before ↦ are.known.each k before
      | inr same ↦ subst (λ (x : ℕ). x < length known) same is.known
    ];
  };
  named = map-append (path_in known) numbers (n ∷ []) ∙ ap (λ (xs : List (List ℕ)). xs ++ path_in known n ∷ []) are.named ∙ ap (λ (x : List ℕ). paths ++ x ∷ []) is.named;
}

-- the next of the paths has got its number
pub numbers_more : (old new : Numbered) (paths : List (List ℕ)) (numbers : List ℕ) (i : ℕ) (p : List ℕ) (n : ℕ) → i < length paths → p ≡ get_or paths i p → AreNumbersOf old.paths (take i paths) numbers → HasGrown old new → IsNumberOf new.paths p n
    → AreNumbersOf new.paths (take (i + 1) paths) (numbers ++ n ∷ [])
numbers_more old new paths numbers i p n lt at are grown is =
    subst (λ (ps : List (List ℕ)). AreNumbersOf new.paths ps (numbers ++ n ∷ [])) (sym (take_more paths i p lt ∙ ap (λ (x : List ℕ). take i paths ++ x ∷ []) (sym at)))
    (numbers_push new.paths (take i paths) numbers p n (numbers_stay old new (take i paths) numbers grown are) is)

-- ---- growth

pub grown_none : (n : Numbered) → HasGrown n n
grown_none n = record { more = []; paths = sym (append-nil n.paths); rows = λ k. refl; distinct = λ apart. apart }

pub grown_through : (one two three : Numbered) → HasGrown one two → HasGrown two three → HasGrown one three
grown_through one two three h k = record {
  more = h.more ++ k.more;
  paths = k.paths ∙ ap (λ (ps : List (List ℕ)). ps ++ k.more) h.paths ∙ append_assoc one.paths h.more k.more;
  rows = λ n. k.rows n ∙ h.rows n;
  distinct = λ apart. k.distinct (h.distinct apart);
}

-- an empty row behind the others says nothing
pub row_behind : (rows : List (List ℕ)) (n : ℕ) → row_in (rows ++ [] ∷ []) n ≡ row_in rows n
row_behind rows n = elim (cases_lt n (length rows)) [
  | inl within ↦ get_or_append_left rows ([] ∷ []) [] n within
  | inr past ↦ behind rows n past ∙ sym (get_or_past rows n [] past)
]
  where
    behind : (rows : List (List ℕ)) (n : ℕ) → length rows ≤ n → get_or (rows ++ [] ∷ []) n [] ≡ []
    behind [] zero le = refl
    behind [] (suc n) le = refl
    behind (r ∷ rows) zero le = absurd (omega arith)
    behind (r ∷ rows) (suc n) le = behind rows n (omega arith)

pub row_grown : (old : Numbered) (rows : List (List ℕ)) → rows ≡ old.rows ++ [] ∷ [] → HasGrown old (record { paths = old.paths; rows = rows })
row_grown old rows is = record {
  more = [];
  paths = sym (append-nil old.paths);
  rows = λ n. ap (λ (rs : List (List ℕ)). row_in rs n) is ∙ row_behind old.rows n;
  distinct = λ apart. apart;
}

-- a path was put behind the others, where it was not among them
pub path_grown : (old : Numbered) (p : List ℕ) (keys : List (List ℕ)) → keys ≡ (if list_any (path_eq p) old.paths then old.paths else old.paths ++ p ∷ []) → IsDistinct path_eq keys → HasGrown old (record { paths = keys; rows = old.rows })
path_grown old p keys is apart = record {
  more = if list_any (path_eq p) old.paths then [] else p ∷ [];
  paths = is ∙ put (list_any (path_eq p) old.paths) old.paths;
  rows = λ n. refl;
  distinct = λ _. distinct_keys keys apart;
}
  where
    put : (b : Bool) (paths : List (List ℕ)) → (if b then paths else paths ++ p ∷ []) ≡ paths ++ (if b then [] else p ∷ [])
    put true paths = sym (append-nil paths)
    put false paths = refl

-- ---- no other path becomes known

pub only_none : (paths these : List (List ℕ)) → AddsOnly paths paths these
only_none paths these = record { each = λ p h. inl h }

-- a path was put behind the others, where it was not among them
pub only_this : (old : List (List ℕ)) (p : List ℕ) (keys : List (List ℕ)) → keys ≡ (if list_any (path_eq p) old then old else old ++ p ∷ []) → AddsOnly old keys (p ∷ [])
only_this old p keys is = rw is (put (list_any (path_eq p) old))
  where
    put : (b : Bool) → AddsOnly old (if b then old else old ++ p ∷ []) (p ∷ [])
    put true = only_none old (p ∷ [])
    put false = record { each = λ q h. Contains-append_cases old (p ∷ []) q h }

-- the next of the paths became known
pub only_next : (one two three these : List (List ℕ)) (i : ℕ) (p : List ℕ) → i < length these → p ≡ get_or these i p → AddsOnly one two these → AddsOnly two three (p ∷ []) → AddsOnly one three these
only_next one two three these i p lt at h k = record {
  each = λ q there. elim (k.each q there) [
    | inl before ↦ h.each q before
    | inr this ↦ (elim (Contains-push_cases [] p q this) [
      | inl none ↦ absurd (omega (arith, none.1))
      | inr same ↦ inr (subst (λ (x : List ℕ). Contains these x) same (i, lt, sym at))
    ])
  ];
}

pub number_found : (keys : List (List ℕ)) (n : ℕ) (p k : List ℕ) → n < length keys → slice_get keys n ≡ Some k → path_eq p k ≡ true → IsNumberOf keys p n
number_found keys n p k within at same = record { known = within; named = get_or_from_slice_get keys n k [] at ∙ sym (paths_same p k same) }

-- .. and so it is told
pub found_number : (keys : List (List ℕ)) (n : ℕ) (p k : List ℕ) → slice_get keys n ≡ Some k → IsNumberOf keys p n → path_eq p k ≡ true
found_number keys n p k at is = equal_paths p k (sym is.named ∙ get_or_from_slice_get keys n k [] at)

-- ---- paths gathered by number

pub gathers_none : (known : List (List ℕ)) → Gathers known [] []
gathers_none known = record { tells = λ h. refl }

known_before : (known : List (List ℕ)) (numbers : List ℕ) (n : ℕ) → AreKnown known (numbers ++ n ∷ []) → AreKnown known numbers
known_before known numbers n all = record { each = λ k h. all.each k (Contains-append_left numbers (n ∷ []) k h) }

pub gathers_more : (known : List (List ℕ)) (numbers : List ℕ) (i n : ℕ) (paths : List (List ℕ)) (p : List ℕ) → i < length numbers → n ≡ get_or numbers i n → path_in known n ≡ p → Gathers known (take i numbers) paths → Gathers known (take (i + 1) numbers) (paths ++ p ∷ [])
gathers_more known numbers i n paths p lt at named before =
    subst (λ (ns : List ℕ). Gathers known ns (paths ++ p ∷ [])) (sym (take_more numbers i n lt ∙ ap (λ (x : ℕ). take i numbers ++ x ∷ []) (sym at)))
    (record {
      tells = λ all.
          ap (λ (xs : List (List ℕ)). xs ++ p ∷ []) (before.tells (known_before known (take i numbers) n all))
          ∙ ap (λ (x : List ℕ). map (path_in known) (take i numbers) ++ x ∷ []) (sym named)
          ∙ sym (map-append (path_in known) (take i numbers) (n ∷ []));
    })

-- a number that is no path's
pub gathers_past : (known : List (List ℕ)) (numbers : List ℕ) (i n : ℕ) (paths : List (List ℕ)) → i < length numbers → n ≡ get_or numbers i n → length known ≤ n → Gathers known (take (i + 1) numbers) paths
gathers_past known numbers i n paths lt at past = record {
  tells = λ all. absurd (omega (arith, past, all.each n (subst (λ (ns : List ℕ). Contains ns n) (sym (take_more numbers i n lt ∙ ap (λ (x : ℕ). take i numbers ++ x ∷ []) (sym at))) (last (take i numbers) n))));
}
  where
    seam : (xs : List ℕ) (n d : ℕ) → get_or (xs ++ n ∷ []) (length xs) d ≡ n
    seam [] n d = refl
    seam (x ∷ xs) n d = seam xs n d

    last : (xs : List ℕ) (n : ℕ) → Contains (xs ++ n ∷ []) n
    last xs n = (length xs, omega (arith, length-append xs (n ∷ [])), seam xs n n)

pub gathered : (known : List (List ℕ)) (numbers : List ℕ) (paths set : List (List ℕ)) → Gathers known numbers paths → HasSameMembers paths set → IsSetOf known numbers set
gathered known numbers paths set all same = record { tells = λ h. subst (λ (ps : List (List ℕ)). HasSameMembers ps set) (all.tells h) same }

-- ---- rows and tables

-- with empty rows the empty table is told
pub numbered_none : (n : Numbered) → AreDistinct n.paths → ((k : ℕ) → row_in n.rows k ≡ []) → AreNumbered [] n
numbered_none n apart empty = record {
  distinct = apart;
  listed = λ p q h. absurd (omega (arith, h.1));
  ranged = λ a b h. absurd (none a b h);
  sound = λ a b h. absurd (none a b h);
  complete = λ a q lt h. absurd (omega (arith, h.1));
}
  where
    none : (a b : ℕ) → Contains (row_in n.rows a) b → ⊥
    none a b h = let there : Contains [] b = subst (λ (xs : List ℕ). Contains xs b) (empty a) h in absurd (omega (arith, there.1))

-- a table is told when more paths are known
pub numbered_grown : (entries : List (List ℕ × List (List ℕ))) (old new : Numbered) → HasGrown old new → AreNumbered entries old → AreNumbered entries new
numbered_grown entries old new grown are = record {
  distinct = grown.distinct are.distinct;
  listed = λ p q h. rw grown.paths (Contains-append_left old.paths grown.more p (are.listed p q h));
  ranged = λ a b h. let was = are.ranged a b (before a b h) in (longer a was.0, longer b was.1);
  sound = λ a b h.
      let was = are.ranged a b (before a b h) in
      subst (λ (p : List ℕ). Contains (refs_of entries p) (path_in new.paths b)) (sym (same a was.0))
      (subst (λ (q : List ℕ). Contains (refs_of entries (path_in old.paths a)) q) (sym (same b was.1)) (are.sound a b (before a b h)));
  complete = λ a q lt h. elim (cases_lt a (length old.paths)) [
    | inl within ↦
        let to = are.complete a q within (subst (λ (p : List ℕ). Contains (refs_of entries p) q) (same a within) h) in
        (to.0, subst (λ (xs : List ℕ). Contains xs to.0) (sym (grown.rows a)) to.1, same to.0 (are.ranged a to.0 to.1).1 ∙ to.2)
    | inr past ↦
        let known : Contains old.paths (path_in new.paths a) = are.listed (path_in new.paths a) q h in
        let at : path_in old.paths known.0 ≡ path_in new.paths a = get_or_default old.paths known.0 [] (path_in new.paths a) known.1 ∙ known.2 in
        let one : known.0 ≡ a = (grown.distinct are.distinct).one known.0 a (longer known.0 known.1) lt (same known.0 known.1 ∙ at) in
        absurd (omega (arith, one, known.1, past))
  ];
}
  where
    before : (a b : ℕ) → Contains (row_in new.rows a) b → Contains (row_in old.rows a) b
    before a b h = subst (λ (xs : List ℕ). Contains xs b) (grown.rows a) h

    longer : (a : ℕ) → a < length old.paths → a < length new.paths
    longer a lt = rw grown.paths (omega (arith, lt, length-append old.paths grown.more))

    same : (a : ℕ) → a < length old.paths → path_in new.paths a ≡ path_in old.paths a
    same a lt = ap (λ (ps : List (List ℕ)). path_in ps a) grown.paths ∙ get_or_append_left old.paths grown.more [] a lt
