-- The search that stops at each held path: what it has found so far, and what it ends with.
use Rattle.std.proofs.Common.{◌≡◌, ◌⊎◌, ℕ, ◌+◌, ◌<◌, ◌≤◌, Bool, not, List, [], ◌∷◌, ◌++◌, length, map, get_or, take, sym, ap, subst, ◌∙◌, inl, inr, arith, append_assoc, length-append}
use Rattle.std.specs.List.{Contains}
use Rattle.std.proofs.lemmas.Bool.{cases_lt, cases_Bool}
use Rattle.std.proofs.lemmas.List.{get_or_append_left, get_or_default, append-nil, take_more, length-map, get_or-map}
use Rattle.std.proofs.lemmas.List.Elements.{Contains-append_left, Contains-append_cases, Contains-get_or, Contains-push, Contains-push_cases}
use Rattle.nd_path.specs.PathSets.{HasSameMembers}
use Rattle.nd_closure.specs.Tables.{refs_of}
use Rattle.nd_closure.specs.Closures.{IsReached}
use Rattle.nd_closure.specs.Closures.IsReached.{seed as start, step as further}
use Rattle.nd_path_numbers.specs.Numbers.{Numbered, path_in, row_in, AreNumbered, AreKnown}
use Rattle.nd_path_numbers.specs.Held.{is_among, with_new}
use Rattle.nd_path_numbers.specs.Searches.{IsCovered, AddsUnheld, IsAlong, AreUnheld, IsReachedUnheld, IsUnheld}
use Rattle.nd_path_numbers.specs.Searches.IsAlong.{seed, step}
use Rattle.nd_path_numbers.specs.Searches.IsReachedUnheld.{seed as begin, step as onward}
use Rattle.nd_path_numbers.proofs.Holding.{member_by_test}

-- ---- one call that adds numbers

pub nothing_in : {X : Type 0} → (x : X) → Contains [] x → ⊥
nothing_in x h = absurd (omega (arith, h.1))

pub adds_none : (held numbers others : List ℕ) → AddsUnheld held numbers numbers others
adds_none held numbers others = record {
  added = [];
  grown = sym (append-nil numbers);
  among = λ n h. absurd (nothing_in n h);
  lacked = λ n h _. nothing_in n h;
}

pub covers_none : (held found : List ℕ) → IsCovered [] held found
covers_none held found = record { each = λ n h. absurd (nothing_in n h) }

pub covers_grown : (numbers held found more : List ℕ) → IsCovered numbers held found → IsCovered numbers held (found ++ more)
covers_grown numbers held found more covers = record {
  each = λ n h. elim (covers.each n h) [
    | inl there ↦ inl (Contains-append_left found more n there)
    | inr held_n ↦ inr held_n
  ];
}

pub covers_more : (numbers held found : List ℕ) (i n : ℕ) → i < length numbers → n ≡ get_or numbers i n → IsCovered (take i numbers) held found → Contains found n ⊎ Contains held n → IsCovered (take (i + 1) numbers) held found
covers_more numbers held found i n lt is covers here = record {
  each = λ k h. elim (Contains-push_cases (take i numbers) n k (subst (λ (ns : List ℕ). Contains ns k) (take_more numbers i n lt ∙ ap (λ (x : ℕ). take i numbers ++ x ∷ []) (sym is)) h)) [
    | inl before ↦ covers.each k before
    | inr same ↦ subst (λ (x : ℕ). Contains found x ⊎ Contains held x) same here
  ];
}

adds_push : (held old new numbers : List ℕ) (n : ℕ) → AddsUnheld held old new numbers → Contains numbers n → (Contains held n → ⊥) → AddsUnheld held old (new ++ n ∷ []) numbers
adds_push held old new numbers n h there lacks = record {
  added = h.added ++ n ∷ [];
  grown = ap (λ (xs : List ℕ). xs ++ n ∷ []) h.grown ∙ append_assoc old h.added (n ∷ []);
  among = λ k e. elim (Contains-push_cases h.added n k e) [
    | inl before ↦ h.among k before
    | inr same ↦ subst (λ (x : ℕ). Contains numbers x) same there
  ];
  lacked = λ k e. elim (Contains-push_cases h.added n k e) [
    | inl before ↦ h.lacked k before
    | inr same ↦ subst (λ (x : ℕ). Contains held x → ⊥) same lacks
  ];
}

-- a number that isn't held was put into the set
pub adds_one : (held old new made numbers : List ℕ) (n : ℕ) → AddsUnheld held old new numbers → Contains numbers n → (Contains held n → ⊥) → made ≡ with_new new n (not (is_among new n)) → AddsUnheld held old made numbers
adds_one held old new made numbers n h there lacks is = elim (cases_Bool (is_among new n)) [
  | inl known ↦ subst (λ (xs : List ℕ). AddsUnheld held old xs numbers) (sym (is ∙ ap (λ (b : Bool). with_new new n (not b)) known)) h
  | inr fresh ↦ subst (λ (xs : List ℕ). AddsUnheld held old xs numbers) (sym (is ∙ ap (λ (b : Bool). with_new new n (not b)) fresh)) (adds_push held old new numbers n h there lacks)
]

pub covers_one : (numbers held new made : List ℕ) (i n : ℕ) → i < length numbers → n ≡ get_or numbers i n → IsCovered (take i numbers) held new → made ≡ with_new new n (not (is_among new n)) → IsCovered (take (i + 1) numbers) held made
covers_one numbers held new made i n lt at covers is = elim (cases_Bool (is_among new n)) [
  | inl known ↦ subst (λ (xs : List ℕ). IsCovered (take (i + 1) numbers) held xs) (sym (is ∙ ap (λ (b : Bool). with_new new n (not b)) known))
      (covers_more numbers held new i n lt at covers (inl ((member_by_test new n).0 known)))
  | inr fresh ↦ subst (λ (xs : List ℕ). IsCovered (take (i + 1) numbers) held xs) (sym (is ∙ ap (λ (b : Bool). with_new new n (not b)) fresh))
      (covers_more numbers held (new ++ n ∷ []) i n lt at (covers_grown (take i numbers) held new (n ∷ []) covers) (inl (Contains-push new n)))
]

-- ---- the search

-- the search has found these numbers, and has looked at the rows of the first n
pub record Searched (rows : List (List ℕ)) (held seeds found : List ℕ) (n : ℕ) : Type 0 where
  pub within : n ≤ length found
  pub reached : (k : ℕ) → Contains found k → IsAlong rows held seeds k
  pub seeded : IsCovered seeds held found
  pub onward : (k : ℕ) → k < n → IsCovered (row_in rows (get_or found k 0)) held found

pub begun : (rows : List (List ℕ)) (held seeds found : List ℕ) → AddsUnheld held [] found seeds → IsCovered seeds held found → Searched rows held seeds found 0
begun rows held seeds found only all = record {
  within = omega arith;
  reached = λ k h. let new : Contains only.added k = subst (λ (xs : List ℕ). Contains xs k) only.grown h in seed k (only.among k new) (only.lacked k new);
  seeded = all;
  onward = λ k lt. absurd (omega arith);
}

pub gone_on : (rows : List (List ℕ)) (held seeds found grown : List ℕ) (n : ℕ) → Searched rows held seeds found n → n < length found
    → AddsUnheld held found grown (row_in rows (get_or found n 0)) → IsCovered (row_in rows (get_or found n 0)) held grown → Searched rows held seeds grown (n + 1)
gone_on rows held seeds found grown n s lt only all =
    let more : IsCovered (row_in rows (get_or found n 0)) held (found ++ only.added) =
    subst (λ (xs : List ℕ). IsCovered (row_in rows (get_or found n 0)) held xs) only.grown all in
    rw only.grown (record {
      within = omega (arith, length-append found only.added);
      reached = λ k h. elim (Contains-append_cases found only.added k h) [
        | inl before ↦ s.reached k before
        | inr new ↦ step (get_or found n 0) k (s.reached (get_or found n 0) (Contains-get_or found n 0 lt)) (only.among k new) (only.lacked k new)
      ];
      seeded = covers_grown seeds held found only.added s.seeded;
      onward = λ k h.
          let same : get_or (found ++ only.added) k 0 ≡ get_or found k 0 = get_or_append_left found only.added 0 k (omega arith) in
          rw same (elim (cases_lt k n) [
            | inl before ↦ covers_grown (row_in rows (get_or found k 0)) held found only.added (s.onward k before)
            | inr last ↦ (let here : k ≡ n = omega arith in rw here more)
          ]);
    })

pub ended : (rows : List (List ℕ)) (held seeds found : List ℕ) (n : ℕ) → Searched rows held seeds found n → length found ≤ n → AreUnheld rows held seeds found
ended rows held seeds found n s all = record {
  reached = s.reached;
  seeded = s.seeded;
  onward = λ k h.
      let at : get_or found h.0 0 ≡ k = get_or_default found h.0 0 k h.1 ∙ h.2 in
      subst (λ (x : ℕ). IsCovered (row_in rows x) held found) at (s.onward h.0 (omega (arith, h.1)));
}

-- ---- the paths with these numbers

-- the last path of a walk of which none is held isn't held
pub last_unheld : (entries : List (List ℕ × List (List ℕ))) (held seeds : List (List ℕ)) (p : List ℕ) → IsReachedUnheld entries held seeds p → Contains held p → ⊥
last_unheld entries held seeds p (begin q h free) = free
last_unheld entries held seeds p (onward q r w h free) = free

-- a walk of which no path is held is a walk
pub walk_reached : (entries : List (List ℕ × List (List ℕ))) (held seeds : List (List ℕ)) (p : List ℕ) → IsReachedUnheld entries held seeds p → IsReached entries seeds p
walk_reached entries held seeds p (begin q h free) = start q h
walk_reached entries held seeds p (onward q r w h free) = further q r (walk_reached entries held seeds q w) h

-- a path of a list of numbers is that of one of them
pub named : (paths : List (List ℕ)) (numbers : List ℕ) (p : List ℕ) → Contains (map (path_in paths) numbers) p → (n : ℕ) × Contains numbers n × (path_in paths n ≡ p)
named paths numbers p h =
    let at : h.0 < length numbers = subst (λ (n : ℕ). h.0 < n) (length-map numbers (path_in paths)) h.1 in
    (get_or numbers h.0 0, Contains-get_or numbers h.0 0 at, sym (get_or-map (path_in paths) numbers h.0 0 p at) ∙ h.2)

pub has_name : (paths : List (List ℕ)) (numbers : List ℕ) (n : ℕ) → Contains numbers n → Contains (map (path_in paths) numbers) (path_in paths n)
has_name paths numbers n h = (h.0, subst (λ (k : ℕ). h.0 < k) (sym (length-map numbers (path_in paths))) h.1, get_or-map (path_in paths) numbers h.0 n (path_in paths n) h.1 ∙ ap (path_in paths) h.2)

along_known : (entries : List (List ℕ × List (List ℕ))) (n : Numbered) (held seeds : List ℕ) → AreNumbered entries n → AreKnown n.paths seeds → (k : ℕ) → IsAlong n.rows held seeds k → k < length n.paths
along_known entries n held seeds are known k (seed j h free) = known.each j h
along_known entries n held seeds are known k (step j i r h free) = (are.ranged j i h).1

-- a path whose number isn't held isn't held
not_named : (entries : List (List ℕ × List (List ℕ))) (n : Numbered) (held : List ℕ) → AreNumbered entries n → AreKnown n.paths held → (k : ℕ) → k < length n.paths → (Contains held k → ⊥) → Contains (map (path_in n.paths) held) (path_in n.paths k) → ⊥
not_named entries n held are known k lt free h = let there = named n.paths held (path_in n.paths k) h in
    free (subst (λ (x : ℕ). Contains held x) (are.distinct.one there.0 k (known.each there.0 there.1) lt there.2) there.1)

along_reached : (entries : List (List ℕ × List (List ℕ))) (n : Numbered) (held seeds : List ℕ) → AreNumbered entries n → AreKnown n.paths held → AreKnown n.paths seeds → (k : ℕ) → IsAlong n.rows held seeds k → IsReachedUnheld entries (map (path_in n.paths) held) (map (path_in n.paths) seeds) (path_in n.paths k)
along_reached entries n held seeds are held_known seeds_known k (seed j h free) = begin (path_in n.paths j) (has_name n.paths seeds j h) (not_named entries n held are held_known j (seeds_known.each j h) free)
along_reached entries n held seeds are held_known seeds_known k (step j i r h free) = onward (path_in n.paths j) (path_in n.paths i) (along_reached entries n held seeds are held_known seeds_known j r) (are.sound j i h) (not_named entries n held are held_known i (are.ranged j i h).1 free)

pub unheld_named : (entries : List (List ℕ × List (List ℕ))) (n : Numbered) (held seeds found : List ℕ) (paths : List (List ℕ)) → AreNumbered entries n → AreKnown n.paths held → AreKnown n.paths seeds → AreUnheld n.rows held seeds found
    → (AreKnown n.paths found → HasSameMembers (map (path_in n.paths) found) paths) → IsUnheld entries (map (path_in n.paths) held) (map (path_in n.paths) seeds) paths
unheld_named entries n held seeds found paths are held_known seeds_known s members =
    let known : AreKnown n.paths found = record { each = λ k h. along_known entries n held seeds are seeds_known k (s.reached k h) } in
    let same : HasSameMembers (map (path_in n.paths) found) paths = members known in
    record {
      reached = λ p h. let at = named n.paths found p (same.from p h) in
          subst (λ (x : List ℕ). IsReachedUnheld entries (map (path_in n.paths) held) (map (path_in n.paths) seeds) x) at.2 (along_reached entries n held seeds are held_known seeds_known at.0 (s.reached at.0 at.1));
      seeded = λ p h. let at = named n.paths seeds p h in there_or_held known same p at.0 at.2 (s.seeded.each at.0 at.1);
      onward = λ p q h k. let at = named n.paths found p (same.from p h) in
          let to = are.complete at.0 q (known.each at.0 at.1) (subst (λ (x : List ℕ). Contains (refs_of entries x) q) (sym at.2) k) in
          there_or_held known same q to.0 to.2 ((s.onward at.0 at.1).each to.0 to.1);
    }
  where
    there_or_held : AreKnown n.paths found → HasSameMembers (map (path_in n.paths) found) paths → (p : List ℕ) (k : ℕ) → path_in n.paths k ≡ p → Contains found k ⊎ Contains held k → Contains paths p ⊎ Contains (map (path_in n.paths) held) p
    there_or_held known same p k is (inl there) = inl (same.to p (subst (λ (x : List ℕ). Contains (map (path_in n.paths) found) x) is (has_name n.paths found k there)))
    there_or_held known same p k is (inr there) = inr (subst (λ (x : List ℕ). Contains (map (path_in n.paths) held) x) is (has_name n.paths held k there))
