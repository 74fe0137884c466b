-- Reading sets of paths and the references of outputs, word by word.
use Rattle.std.proofs.Common.{◌≡◌, ◌∙◌, ℕ, true, false, List, [], ◌∷◌, ◌++◌, refl, sym, ap, subst, append_assoc, true≢false, Ordering, Less, Equal, Greater, Some, None, nat_eq}
use Rattle.std.specs.Prelude.{codes}
use Rattle.std.specs.Cmp.{first_so, second_so}
use Rattle.std.specs.Cmp.Lexicographic.{pointwise, same_text, other_text}
use Rattle.std.specs.List.{All, AllByRecursion, flat_map}
use Rattle.std.specs.List.Sorted.{IsStrictlySortedBy}
use Rattle.std.specs.Ordering.{is_lt}
use Rattle.std.proofs.lemmas.Cmp.{nat_list_cmp_total}
use Rattle.std.proofs.lemmas.List.{append-nil}
use Rattle.std.proofs.lemmas.List.Elements.{All-head, All-tail, All-nil, All-push}
use Rattle.std.proofs.lemmas.Grind.{flat_map-append}
use Rattle.nd_path.specs.StorePath.{path_cmp}
use Rattle.nd_path.specs.PathSets.{IsRising, HasSameMembers}
use Rattle.nd_path.specs.Refusals.{IsPath, IsRefused, fault_of}
use Rattle.nd_path.specs.declared.path_error.PathError.{PathError}
use Rattle.nd_path.specs.declared.path_error.PathError.TheVariants.{Prefix, Digest, Name, Memory}
use Rattle.nd_path.proofs.Rising.{rising_same}
use Rattle.nd_history_text.specs.HistoryTexts.{output_words}
use Rattle.nd_history_text.specs.Sound.{IsPathSet}
use Rattle.nd_history_text.specs.declared.history_error.LineError.{LineError}
use Rattle.nd_history_text.specs.declared.history_error.LineError.TheVariants.{Bad, Memory as NoMemory}
use Rattle.nd_history_text.specs.Reading.{Refuses, path_fault, rises, is_end, ArePathsFirst, ArePathWords, AreOutputs}
use Rattle.nd_history_text.proofs.Plain.{path_is_no_output}
use Rattle.nd_history_text.proofs.Once.{same_head, same_tail, paths_once, same_paths, outputs_end}

-- ---- rising lists

less : (o : Ordering) → is_lt o ≡ true → o ≡ Less
less Less h = refl
less Equal h = absurd (true≢false (sym h))
less Greater h = absurd (true≢false (sym h))

below_all : (x y : List ℕ) (zs : List (List ℕ)) → path_cmp x y ≡ Less → AllByRecursion (λ z. path_cmp y z ≡ Less) zs → AllByRecursion (λ z. path_cmp x z ≡ Less) zs
below_all x y [] first rest = tt
below_all x y (z ∷ zs) first rest = (nat_list_cmp_total.trans x y z first rest.0, below_all x y zs first rest.1)

sorted : (xs : List (List ℕ)) → rises xs ≡ true → IsStrictlySortedBy path_cmp xs
unfolding IsStrictlySortedBy
sorted [] up = tt
sorted (x ∷ []) up = (tt, tt)
sorted (x ∷ (y ∷ ys)) up =
    let first = less (path_cmp x y) (first_so (is_lt (path_cmp x y)) (rises (y ∷ ys)) up) in
    let rest = sorted (y ∷ ys) (second_so (is_lt (path_cmp x y)) (rises (y ∷ ys)) up) in
    ((first, below_all x y ys first rest.0), rest)

from_sorted : (xs : List (List ℕ)) → IsStrictlySortedBy path_cmp xs → rises xs ≡ true
unfolding IsStrictlySortedBy
from_sorted [] h = refl
from_sorted (x ∷ []) h = refl
from_sorted (x ∷ (y ∷ ys)) h = rw (h.0.0) (from_sorted (y ∷ ys) h.1)

-- ---- sets of paths

-- so many of the words have been read to these paths, and these are left
pub record IsReadingPaths (words done left : List (List ℕ)) : Type 0 where
  pub whole : words ≡ done ++ left
  pub paths : All IsPath done

pub paths_begun : (words : List (List ℕ)) → IsReadingPaths words [] words
paths_begun words = record { whole = refl; paths = All-nil IsPath }

pub paths_more : (words done left more : List (List ℕ)) (word : List ℕ) → IsReadingPaths words done left → left ≡ word ∷ more → IsPath word
    → IsReadingPaths words (done ++ word ∷ []) more
paths_more words done left more word h next is = record {
  whole = h.whole ∙ ap (λ (ws : List (List ℕ)). done ++ ws) next ∙ sym (append_assoc done (word ∷ []) more);
  paths = All-push IsPath done word h.paths is;
}

-- a word that is no path, where no end stands
bad_word : (done paths rest left more : List (List ℕ)) (word : List ℕ) → All IsPath done → All IsPath paths → is_end rest ≡ true → is_end left ≡ false
    → left ≡ word ∷ more → (IsPath word → ⊥) → done ++ left ≡ paths ++ rest → ⊥
bad_word [] [] rest left more word h k end open_end next no_path same = true≢false (sym end ∙ ap is_end (sym same) ∙ open_end)
bad_word [] (path ∷ paths) rest left more word h k end open_end next no_path same =
    no_path (subst IsPath (sym (same_head (sym next ∙ same))) (All-head IsPath path paths k))
bad_word (path ∷ done) [] rest left more word h k end open_end next no_path same =
    true≢false (sym end ∙ ap is_end (sym same) ∙ path_is_no_output path (All-head IsPath path done h))
bad_word (path ∷ done) (other ∷ paths) rest left more word h k end open_end next no_path same =
    bad_word done paths rest left more word (All-tail IsPath path done h) (All-tail IsPath other paths k) end open_end next no_path (same_tail same)

faulty : (word : List ℕ) (e : PathError) → fault_of word ≡ Some e → IsPath word → ⊥
faulty word e h none = let both : Some e ≡ None = sym h ∙ none in cc

bad_by : (words done left more : List (List ℕ)) (word : List ℕ) → IsReadingPaths words done left → is_end left ≡ false → left ≡ word ∷ more
    → (IsPath word → ⊥) → (paths rest : List (List ℕ)) → ArePathsFirst words paths rest → ⊥
bad_by words done left more word h open_end next no_path paths rest k =
    bad_word done paths rest left more word h.paths k.set.paths k.end open_end next no_path (sym h.whole ∙ k.whole)

-- a word that is no path, by the fault that it has
pub faulty_word : (word : List ℕ) (e : PathError) → IsRefused word e → Refuses (path_fault e) (IsPath word → ⊥)
faulty_word word Prefix fault = faulty word Prefix fault
faulty_word word Digest fault = faulty word Digest fault
faulty_word word Name fault = faulty word Name fault
faulty_word word Memory fault = tt

pub paths_refused : (words done left more : List (List ℕ)) (word : List ℕ) (f : LineError) → IsReadingPaths words done left → is_end left ≡ false
    → left ≡ word ∷ more → Refuses f (IsPath word → ⊥) → Refuses f ((paths rest : List (List ℕ)) → ArePathsFirst words paths rest → ⊥)
paths_refused words done left more word Bad h open_end next fault = bad_by words done left more word h open_end next fault
paths_refused words done left more word NoMemory h open_end next fault = tt

-- all of them were read
pub paths_ended : (words done left : List (List ℕ)) → IsReadingPaths words done left → is_end left ≡ true → ArePathWords words done left
paths_ended words done left h end = record { paths = h.paths; whole = h.whole; end = end }

-- paths that don't rise
pub paths_unrisen : (words done left : List (List ℕ)) → ArePathWords words done left → rises done ≡ false → (paths rest : List (List ℕ)) → ArePathsFirst words paths rest → ⊥
paths_unrisen words done left h down paths rest k =
    let same = paths_once done paths left rest h.paths k.set.paths h.end k.end (sym h.whole ∙ k.whole) in
    true≢false (sym (from_sorted paths k.set.rising.rises) ∙ ap rises (sym same.0) ∙ down)

-- the set of those that do
pub paths_read : (words done left set : List (List ℕ)) → ArePathWords words done left → rises done ≡ true → HasSameMembers done set → IsRising set
    → ArePathsFirst words set left
paths_read words done left set h up members rising =
    let same : done ≡ set = rising_same done set (record { rises = sorted done up }) rising members in
    record {
      set = record { paths = subst (λ (ps : List (List ℕ)). All IsPath ps) same h.paths; rising = rising };
      whole = h.whole ∙ ap (λ (ps : List (List ℕ)). ps ++ left) same;
      end = h.end;
    }

pub ruleset path_sets = (paths_begun, paths_more, paths_refused, paths_ended)

-- ---- the references of outputs

-- what is left of the references of outputs
pub record OutputsLeft (left : List (List ℕ)) (done refs : List (List (List ℕ))) : Type 0 where
  pub more : List (List (List ℕ))
  pub all : refs ≡ done ++ more
  pub are : AreOutputs left more

-- so many of the words have been read to these sets, and these are left
pub record IsReadingOutputs (words : List (List ℕ)) (done : List (List (List ℕ))) (left : List (List ℕ)) : Type 0 where
  pub sets : All IsPathSet done
  pub whole : words ≡ flat_map output_words done ++ left
  pub past : (refs : List (List (List ℕ))) → AreOutputs words refs → OutputsLeft left done refs

pub outputs_begun : (words : List (List ℕ)) → IsReadingOutputs words [] words
outputs_begun words = record { sets = All-nil IsPathSet; whole = refl; past = λ refs h. record { more = refs; all = refl; are = h } }

-- the next set of what is left
next_left : (left behind rest set : List (List ℕ)) (done refs : List (List (List ℕ))) → left ≡ codes "o" ∷ behind → ArePathsFirst behind set rest
    → OutputsLeft left done refs → OutputsLeft rest (done ++ set ∷ []) refs
next_left left behind rest set done refs next here h = goes h.more h.all h.are
  where
    goes : (more : List (List (List ℕ))) → refs ≡ done ++ more → AreOutputs left more → OutputsLeft rest (done ++ set ∷ []) refs
    goes [] all are = let none : codes "o" ∷ behind ≡ [] = sym next ∙ are.whole in cc
    goes (other ∷ more) all are =
        let there : ArePathsFirst behind other (flat_map output_words more) = record {
          set = All-head IsPathSet other more are.sets;
          whole = same_tail (sym next ∙ are.whole);
          end = outputs_end more;
        } in
        let same = same_paths behind set rest other (flat_map output_words more) here there in
        record {
          more = more;
          all = all ∙ ap (λ (s : List (List ℕ)). done ++ s ∷ more) (sym same.0) ∙ sym (append_assoc done (set ∷ []) more);
          are = record { sets = All-tail IsPathSet other more are.sets; whole = same.1 };
        }

pub outputs_more : (words left behind rest set : List (List ℕ)) (done : List (List (List ℕ))) (word : List ℕ) → IsReadingOutputs words done left
    → left ≡ word ∷ behind → true ≡ pointwise nat_eq word (codes "o") → ArePathsFirst behind set rest → IsReadingOutputs words (done ++ set ∷ []) rest
outputs_more words left behind rest set done word h next is here =
    let next' : left ≡ codes "o" ∷ behind = next ∙ ap (λ (w : List ℕ). w ∷ behind) (same_text word (codes "o") is) in
    record {
      sets = All-push IsPathSet done set h.sets here.set;
      whole =
          h.whole ∙ ap (λ (ws : List (List ℕ)). flat_map output_words done ++ ws) (next' ∙ ap (λ (ws : List (List ℕ)). codes "o" ∷ ws) here.whole)
          ∙ sym (append_assoc (flat_map output_words done) (output_words set) rest)
          ∙ ap (λ (ws : List (List ℕ)). ws ++ rest)
          (ap (λ (ws : List (List ℕ)). flat_map output_words done ++ ws) (sym (append-nil (output_words set))) ∙ sym (flat_map-append output_words done (set ∷ [])));
      past = λ refs k. next_left left behind rest set done refs next' here (h.past refs k);
    }

-- what is left has no set of paths where one should be
pub outputs_bad_paths : (words left behind : List (List ℕ)) (done : List (List (List ℕ))) (word : List ℕ) → IsReadingOutputs words done left
    → left ≡ word ∷ behind → true ≡ pointwise nat_eq word (codes "o") → ((paths rest : List (List ℕ)) → ArePathsFirst behind paths rest → ⊥)
    → (refs : List (List (List ℕ))) → AreOutputs words refs → ⊥
outputs_bad_paths words left behind done word h next is none refs k = bad ((h.past refs k).more) ((h.past refs k).are)
  where
    bad : (more : List (List (List ℕ))) → AreOutputs left more → ⊥
    bad [] are = let nothing : word ∷ behind ≡ [] = sym next ∙ are.whole in cc
    bad (set ∷ more) are = none set (flat_map output_words more) (record {
      set = All-head IsPathSet set more are.sets;
      whole = same_tail (sym next ∙ are.whole);
      end = outputs_end more;
    })

pub outputs_refused_by : (words left behind : List (List ℕ)) (done : List (List (List ℕ))) (word : List ℕ) (f : LineError) → IsReadingOutputs words done left
    → left ≡ word ∷ behind → true ≡ pointwise nat_eq word (codes "o") → Refuses f ((paths rest : List (List ℕ)) → ArePathsFirst behind paths rest → ⊥)
    → Refuses f ((refs : List (List (List ℕ))) → AreOutputs words refs → ⊥)
outputs_refused_by words left behind done word Bad h next is none = outputs_bad_paths words left behind done word h next is none
outputs_refused_by words left behind done word NoMemory h next is none = tt

-- what is left doesn't begin the references of an output
pub outputs_bad_word : (words left behind : List (List ℕ)) (done : List (List (List ℕ))) (word : List ℕ) → IsReadingOutputs words done left
    → left ≡ word ∷ behind → false ≡ pointwise nat_eq word (codes "o") → (refs : List (List (List ℕ))) → AreOutputs words refs → ⊥
outputs_bad_word words left behind done word h next other refs k = bad ((h.past refs k).more) ((h.past refs k).are)
  where
    bad : (more : List (List (List ℕ))) → AreOutputs left more → ⊥
    bad [] are = let nothing : word ∷ behind ≡ [] = sym next ∙ are.whole in cc
    bad (set ∷ more) are = other_text word (codes "o") other (same_head (sym next ∙ are.whole))

pub outputs_read : (words : List (List ℕ)) (done : List (List (List ℕ))) → IsReadingOutputs words done [] → AreOutputs words done
outputs_read words done h = record { sets = h.sets; whole = h.whole ∙ append-nil (flat_map output_words done) }

pub ruleset output_lists = (outputs_begun, outputs_more, outputs_refused_by, outputs_bad_word, outputs_read)
