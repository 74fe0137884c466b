-- Paths that are compared with what a search found, by number.
use Rattle.std.proofs.Common.{◌≡◌, ℕ, ◌+◌, ◌<◌, List, [], ◌∷◌, ◌++◌, length, map, get_or, take, sym, ap, subst, ◌∙◌}
use Rattle.std.specs.List.Sorted.{IsPermutation}
use Rattle.std.proofs.lemmas.List.{take_more}
use Rattle.std.proofs.lemmas.List.Sorted.{IsPermutation-map, IsPermutation-sym, Contains-permutation}
use Rattle.nd_path.specs.PathSets.{HasSameMembers}
use Rattle.nd_path_numbers.specs.Numbers.{Numbered, path_in, AreNumbersOf, IsNumberOf}
use Rattle.nd_path_numbers.specs.Searches.{AreUnheld, FindsUnheld}
use Rattle.nd_path_numbers.proofs.Growing.{numbers_push}
use Rattle.nd_path_numbers.proofs.Searched.{unheld_named}

-- one more path has the number beside it
pub matched_more : (known paths : List (List ℕ)) (numbers : List ℕ) (i : ℕ) (p : List ℕ) (n : ℕ) → i < length paths → i < length numbers → p ≡ get_or paths i p → n ≡ get_or numbers i n
    → AreNumbersOf known (take i paths) (take i numbers) → IsNumberOf known p n → AreNumbersOf known (take (i + 1) paths) (take (i + 1) numbers)
matched_more known paths numbers i p n in_paths in_numbers at there are is =
    let more : take (i + 1) paths ≡ take i paths ++ p ∷ [] = take_more paths i p in_paths ∙ ap (λ (x : List ℕ). take i paths ++ x ∷ []) (sym at) in
    let beside : take (i + 1) numbers ≡ take i numbers ++ n ∷ [] = take_more numbers i n in_numbers ∙ ap (λ (x : ℕ). take i numbers ++ x ∷ []) (sym there) in
    rw (more, beside) (numbers_push known (take i paths) (take i numbers) p n are is)

-- what was found, in another order, are the numbers of these paths
pub matched : (n : Numbered) (held seeds found sorted : List ℕ) (paths : List (List ℕ)) → AreUnheld n.rows held seeds found → IsPermutation found sorted → AreNumbersOf n.paths paths sorted → FindsUnheld n held seeds paths
matched n held seeds found sorted paths unheld moved are = record {
  tells = λ entries told held_known seeds_known. unheld_named entries n held seeds found paths told held_known seeds_known unheld (λ known. same);
}
  where
    named : IsPermutation (map (path_in n.paths) found) paths
    named = subst (λ (xs : List (List ℕ)). IsPermutation (map (path_in n.paths) found) xs) are.named (IsPermutation-map (path_in n.paths) found sorted moved)

    same : HasSameMembers (map (path_in n.paths) found) paths
    same = record {
      to = λ p h. Contains-permutation (map (path_in n.paths) found) paths p named h;
      from = λ p h. Contains-permutation paths (map (path_in n.paths) found) p (IsPermutation-sym (map (path_in n.paths) found) paths named) h;
    }
