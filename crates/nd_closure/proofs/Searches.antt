-- The search that makes a closure: what it has found so far, and that it ends with the least closed set.
use Rattle.std.proofs.Common.{◌≡◌, ℕ, ◌+◌, ◌<◌, ◌≤◌, List, [], ◌++◌, length, get_or, sym, subst, ◌∙◌, inl, inr, arith, length-append}
use Rattle.std.specs.Prelude.{◌↔◌}
use Rattle.std.specs.List.{Contains}
use Rattle.std.proofs.lemmas.Bool.{cases_lt}
use Rattle.std.proofs.lemmas.List.{get_or_append_left, get_or_default}
use Rattle.std.proofs.lemmas.List.Elements.{Contains-append_left, Contains-append_cases, Contains-get_or}
use Rattle.nd_path.specs.PathSets.{HasSameMembers}
use Rattle.nd_closure.specs.Tables.{refs_of}
use Rattle.nd_closure.specs.Closures.{IsReached, IsClosed, IsLeastClosed, HoldsAll, AddsOnly}
use Rattle.nd_closure.specs.Closures.IsReached.{seed, step}

-- the search has found these paths, and has looked at the references of the first n
pub record Search (entries : List (List ℕ × List (List ℕ))) (seeds found : List (List ℕ)) (n : ℕ) : Type 0 where
  pub within : n ≤ length found
  pub sound : (p : List ℕ) → Contains found p → IsReached entries seeds p
  pub seeded : HoldsAll found seeds
  pub closed : (k : ℕ) → k < n → HoldsAll found (refs_of entries (get_or found k []))

-- at the start the seeds are found
pub begun : (entries : List (List ℕ × List (List ℕ))) (seeds found : List (List ℕ)) → AddsOnly [] found seeds → HoldsAll found seeds → Search entries seeds found 0
begun entries seeds found only all = record {
  within = omega arith;
  sound = λ p h. seed p (only.among.each p (subst (λ (xs : List (List ℕ)). Contains xs p) only.grown h));
  seeded = all;
  closed = λ k lt. absurd (omega arith);
}

-- a step finds the references of the next path
pub gone_on : (entries : List (List ℕ × List (List ℕ))) (seeds found grown : List (List ℕ)) (n : ℕ) → Search entries seeds found n → n < length found
    → AddsOnly found grown (refs_of entries (get_or found n [])) → HoldsAll grown (refs_of entries (get_or found n [])) → Search entries seeds grown (n + 1)
gone_on entries seeds found grown n s lt only all =
    let more : HoldsAll (found ++ only.added) (refs_of entries (get_or found n [])) =
    subst (λ (xs : List (List ℕ)). HoldsAll xs (refs_of entries (get_or found n []))) only.grown all in
    rw only.grown (record {
      within = omega (arith, length-append found only.added);
      sound = λ p h. elim (Contains-append_cases found only.added p h) [
        | inl before ↦ s.sound p before
        | inr new ↦ step (get_or found n []) p (s.sound (get_or found n []) (Contains-get_or found n [] lt)) (only.among.each p new)
      ];
      seeded = record { each = λ p h. Contains-append_left found only.added p (s.seeded.each p h) };
      closed = λ k h.
          let same : get_or (found ++ only.added) k [] ≡ get_or found k [] = get_or_append_left found only.added [] k (omega arith) in
          rw same (elim (cases_lt k n) [
            | inl before ↦ record { each = λ p there. Contains-append_left found only.added p ((s.closed k before).each p there) }
            | inr last ↦ (let here : k ≡ n = omega arith in rw here more)
          ]);
    })

-- where each path found has been looked at, each reached path is found
pub complete : (entries : List (List ℕ × List (List ℕ))) (seeds found : List (List ℕ)) (n : ℕ) → Search entries seeds found n → length found ≤ n
    → (p : List ℕ) → IsReached entries seeds p → Contains found p
complete entries seeds found n s all x (seed p h) = s.seeded.each p h
complete entries seeds found n s all x (step p q r h) =
    let there = complete entries seeds found n s all p r in
    (s.closed there.0 (omega (arith, there.1))).each q
    (subst (λ (y : List ℕ). Contains (refs_of entries y) q) (sym (get_or_default found there.0 [] p there.1 ∙ there.2)) h)

pub exactly : (entries : List (List ℕ × List (List ℕ))) (seeds found result : List (List ℕ)) (n : ℕ) → Search entries seeds found n → length found ≤ n
    → HasSameMembers found result → (p : List ℕ) → Contains result p ↔ IsReached entries seeds p
exactly entries seeds found result n s all same p =
    (λ h. s.sound p (same.from p h), λ h. same.to p (complete entries seeds found n s all p h))

-- a closed set that holds the seeds holds each reached path
within_closed : (entries : List (List ℕ × List (List ℕ))) (seeds others : List (List ℕ)) → HoldsAll others seeds → IsClosed entries others
    → (p : List ℕ) → IsReached entries seeds p → Contains others p
within_closed entries seeds others seeded closed x (seed p h) = seeded.each p h
within_closed entries seeds others seeded closed x (step p q r h) = (closed.refs p (within_closed entries seeds others seeded closed p r)).each q h

-- the reached paths are the least closed set that holds the seeds
pub least_closed : (entries : List (List ℕ × List (List ℕ))) (seeds result : List (List ℕ)) → ((p : List ℕ) → Contains result p ↔ IsReached entries seeds p) → IsLeastClosed entries seeds result
least_closed entries seeds result reached = record {
  seeded = record { each = λ p h. (reached p).1 (seed p h) };
  closed = record { refs = λ p h. record { each = λ q k. (reached q).1 (step p q ((reached p).0 h) k) } };
  least = λ others seeded closed. record { each = λ p h. within_closed entries seeds others seeded closed p ((reached p).0 h) };
}
