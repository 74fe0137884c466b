-- Reading store paths word by word, and lists of them.
use Rattle.std.proofs.Common.{◌≡◌, ℕ, Bool, true, false, List, [], ◌∷◌, ◌++◌, length, get_or, refl, sym, ap, subst, ◌∙◌, arith, append_assoc, append-nil, length-append}
use Rattle.std.specs.List.{All, AllZip, slice_split, onto_first}
use Rattle.std.proofs.Math.Seq.{get_or-append_seam}
use Rattle.std.proofs.lemmas.List.Elements.{All-nil, All-head, All-tail, All-push}
use Rattle.std.proofs.lemmas.List.Splits.{slice_split_at, slice_split_none, slice_split-cons_yes, slice_split-cons_no}
use Rattle.nd_path.specs.Refusals.{IsPath}
use Rattle.nd_path.specs.PathSets.{IsRising, HasSameMembers}
use Rattle.nd_script.specs.declared.line_error.LineError.{LineError}
use Rattle.nd_script.specs.declared.line_error.LineError.TheVariants.{Bad, Memory}
use Rattle.nd_script.specs.Words.{IsSetOf, AreLists, is_mark}
use Rattle.nd_script.specs.Faults.{IsNoPath, RulesOut}

-- ---- one set

-- so many words are read, and so many are left
pub record IsGathering (words paths left : List (List ℕ)) : Type 0 where
  pub whole : words ≡ paths ++ left
  pub are : All IsPath paths

pub gathered : (words paths set : List (List ℕ)) → IsGathering words paths [] → HasSameMembers paths set → IsRising set → IsSetOf words set
gathered words paths set h members rising = subst (λ (ws : List (List ℕ)). IsSetOf ws set) (sym (h.whole ∙ append-nil paths)) (record { are = h.are; members = members; rising = rising })

pub gather : (words paths left rest : List (List ℕ)) (word path : List ℕ) → IsGathering words paths left → left ≡ word ∷ rest → path ≡ word → IsPath path → IsGathering words (paths ++ path ∷ []) rest
gather words paths left rest word path h cut same is = record {
  whole = h.whole ∙ ap (λ (ws : List (List ℕ)). paths ++ ws) (cut ∙ ap (λ (w : List ℕ). w ∷ rest) (sym same)) ∙ sym (append_assoc paths (path ∷ []) rest);
  are = All-push IsPath paths path h.are is;
}

-- a word that is no path makes the words no set
pub no_set : (words paths left rest : List (List ℕ)) (word : List ℕ) (fault : LineError) → IsGathering words paths left → left ≡ word ∷ rest → IsNoPath word fault → RulesOut (IsSetOf words) fault
no_set words paths left rest word Bad h cut none = λ set is.
    let whole : words ≡ paths ++ word ∷ rest = h.whole ∙ ap (λ (ws : List (List ℕ)). paths ++ ws) cut in
    none (subst IsPath (ap (λ (ws : List (List ℕ)). get_or ws (length paths) []) whole ∙ get_or-append_seam paths word rest [])
    (is.are (length paths) [] (omega (arith, ap length whole, length-append paths (word ∷ rest)))))
no_set words paths left rest word Memory h cut none = tt

-- ---- lists of sets

pub AllZip-snoc : {A B : Type 0} (R : A → B → Type 0) (xs : List A) (ys : List B) (x : A) (y : B) → AllZip R xs ys → R x y → AllZip R (xs ++ x ∷ []) (ys ++ y ∷ [])
AllZip-snoc R [] [] x y each here = (here, tt)
AllZip-snoc R [] (z ∷ ys) x y each here = absurd each
AllZip-snoc R (z ∷ xs) [] x y each here = absurd each
AllZip-snoc R (a ∷ xs) (b ∷ ys) x y each here = (each.0, AllZip-snoc R xs ys x y each.1 here)

-- these lists are read to these sets, these paths begin the next list, and these words are left
pub record IsListing (words : List (List ℕ)) (sets : List (List (List ℕ))) (paths left : List (List ℕ)) : Type 0 where
  pub lists : List (List (List ℕ))
  pub cut : slice_split is_mark words ≡ [] ∷ (lists ++ slice_split is_mark (paths ++ left))
  pub each : AllZip IsSetOf lists sets
  pub unmarked : All (λ w. is_mark w ≡ false) paths
  pub are : All IsPath paths

-- behind the first mark
pub listing_begun : (words left : List (List ℕ)) (mark : List ℕ) → words ≡ mark ∷ left → is_mark mark ≡ true → IsListing words [] [] left
listing_begun words left mark whole is = record {
  lists = [];
  cut = ap (slice_split is_mark) whole ∙ slice_split-cons_yes is_mark mark left is;
  each = tt;
  unmarked = All-nil (λ (w : List ℕ). is_mark w ≡ false);
  are = All-nil IsPath;
}

-- one more path
pub list_path : (words : List (List ℕ)) (sets : List (List (List ℕ))) (paths left rest : List (List ℕ)) (word path : List ℕ)
    → IsListing words sets paths left → left ≡ word ∷ rest → is_mark word ≡ false → path ≡ word → IsPath path → IsListing words sets (paths ++ path ∷ []) rest
list_path words sets paths left rest word path h cut unmarked same is = record {
  lists = h.lists;
  cut = h.cut
      ∙ ap (λ (ws : List (List ℕ)). [] ∷ (h.lists ++ slice_split is_mark ws))
      (ap (λ (ws : List (List ℕ)). paths ++ ws) (cut ∙ ap (λ (w : List ℕ). w ∷ rest) (sym same)) ∙ sym (append_assoc paths (path ∷ []) rest));
  each = h.each;
  unmarked = All-push (λ (w : List ℕ). is_mark w ≡ false) paths path h.unmarked (ap is_mark same ∙ unmarked);
  are = All-push IsPath paths path h.are is;
}

-- a mark ends a list
pub list_mark : (words : List (List ℕ)) (sets : List (List (List ℕ))) (paths left rest set : List (List ℕ)) (word : List ℕ)
    → IsListing words sets paths left → left ≡ word ∷ rest → is_mark word ≡ true → HasSameMembers paths set → IsRising set → IsListing words (sets ++ set ∷ []) [] rest
list_mark words sets paths left rest set word h cut is members rising = record {
  lists = h.lists ++ paths ∷ [];
  cut = h.cut
      ∙ ap (λ (parts : List (List (List ℕ))). [] ∷ (h.lists ++ parts)) (ap (λ (ws : List (List ℕ)). slice_split is_mark (paths ++ ws)) cut ∙ slice_split_at is_mark paths word rest h.unmarked is)
      ∙ ap (λ (parts : List (List (List ℕ))). [] ∷ parts) (sym (append_assoc h.lists (paths ∷ []) (slice_split is_mark rest)));
  each = AllZip-snoc IsSetOf h.lists sets paths set h.each (record { are = h.are; members = members; rising = rising });
  unmarked = All-nil (λ (w : List ℕ). is_mark w ≡ false);
  are = All-nil IsPath;
}

-- and so does the end
pub listed : (words : List (List ℕ)) (sets : List (List (List ℕ))) (paths set : List (List ℕ)) → IsListing words sets paths [] → HasSameMembers paths set → IsRising set → AreLists words (sets ++ set ∷ [])
listed words sets paths set h members rising = record {
  lists = h.lists ++ paths ∷ [];
  some = omega (arith, length-append h.lists (paths ∷ []));
  cut = h.cut ∙ ap (λ (parts : List (List (List ℕ))). [] ∷ (h.lists ++ parts)) (ap (slice_split is_mark) (append-nil paths) ∙ slice_split_none is_mark paths h.unmarked);
  each = AllZip-snoc IsSetOf h.lists sets paths set h.each (record { are = h.are; members = members; rising = rising });
}

-- ---- words that are no lists

-- the words of each part are store paths
AreParts : List (List (List ℕ)) → Type 0
AreParts [] = Unit {0}
AreParts (part ∷ parts) = All IsPath part × AreParts parts

parts_of : (lists sets : List (List (List ℕ))) → AllZip IsSetOf lists sets → AreParts lists
unfolding AreParts
parts_of [] sets each = tt
parts_of (list ∷ lists) [] each = absurd each
parts_of (list ∷ lists) (set ∷ sets) each = (each.0.are, parts_of lists sets each.1)

later_parts : (lists parts : List (List (List ℕ))) → AreParts (lists ++ parts) → AreParts parts
unfolding AreParts
later_parts [] parts h = h
later_parts (list ∷ lists) parts h = later_parts lists parts h.1

behind_first : (word : List ℕ) (parts : List (List (List ℕ))) → AreParts (onto_first word parts) → AreParts parts
unfolding AreParts
behind_first word [] h = tt
behind_first word (part ∷ parts) h = (All-tail IsPath word part h.0, h.1)

at_first : (word : List ℕ) (parts : List (List (List ℕ))) → AreParts (onto_first word parts) → IsPath word
unfolding AreParts
at_first word [] h = All-head IsPath word [] h.0
at_first word (part ∷ parts) h = All-head IsPath word part h.0

-- a word that is no mark is a store path
path_within : (before rest : List (List ℕ)) (word : List ℕ) → is_mark word ≡ false → AreParts (slice_split is_mark (before ++ word ∷ rest)) → IsPath word
unfolding AreParts
path_within [] rest word unmarked h = at_first word (slice_split is_mark rest) (subst AreParts (slice_split-cons_no is_mark word rest unmarked) h)
path_within (b ∷ before) rest word unmarked h = by (is_mark b) refl (path_within before rest word unmarked)
  where
    by : (is : Bool) → is_mark b ≡ is → (AreParts (slice_split is_mark (before ++ word ∷ rest)) → IsPath word) → IsPath word
    by true is onward = let behind : AreParts ([] ∷ slice_split is_mark (before ++ word ∷ rest)) = subst AreParts (slice_split-cons_yes is_mark b (before ++ word ∷ rest) is) h in onward behind.1
    by false is onward = onward (behind_first b (slice_split is_mark (before ++ word ∷ rest)) (subst AreParts (slice_split-cons_no is_mark b (before ++ word ∷ rest) is) h))

pub no_lists : (words : List (List ℕ)) (sets : List (List (List ℕ))) (paths left rest : List (List ℕ)) (word : List ℕ) (fault : LineError)
    → IsListing words sets paths left → left ≡ word ∷ rest → is_mark word ≡ false → IsNoPath word fault → RulesOut (AreLists words) fault
no_lists words sets paths left rest word Bad h cut unmarked none = λ others are.
    let same : are.lists ≡ h.lists ++ slice_split is_mark (paths ++ word ∷ rest) =
    tail_is (sym are.cut ∙ h.cut ∙ ap (λ (ws : List (List ℕ)). [] ∷ (h.lists ++ slice_split is_mark (paths ++ ws))) cut) in
    none (path_within paths rest word unmarked (later_parts h.lists (slice_split is_mark (paths ++ word ∷ rest)) (subst AreParts same (parts_of are.lists others are.each))))
  where
    tail_is : {x y : List (List ℕ)} {xs ys : List (List (List ℕ))} → x ∷ xs ≡ y ∷ ys → xs ≡ ys
    tail_is e = cc
no_lists words sets paths left rest word Memory h cut unmarked none = tt

-- no word at all
pub nothing_listed : (sets : List (List (List ℕ))) → AreLists [] sets → ⊥
nothing_listed sets are = let lists : [] ≡ are.lists = cc are.cut in absurd (omega (arith, are.some, ap length lists))

-- no mark in front
pub no_mark : (words rest : List (List ℕ)) (mark : List ℕ) → words ≡ mark ∷ rest → is_mark mark ≡ false → (sets : List (List (List ℕ))) → AreLists words sets → ⊥
no_mark words rest mark whole is sets are = begins mark (slice_split is_mark rest) are.lists (sym (slice_split-cons_no is_mark mark rest is) ∙ ap (slice_split is_mark) (sym whole) ∙ are.cut)
  where
    begins : (x : List ℕ) (parts lists : List (List (List ℕ))) → onto_first x parts ≡ [] ∷ lists → ⊥
    begins x [] lists e = cc
    begins x (part ∷ parts) lists e = cc
