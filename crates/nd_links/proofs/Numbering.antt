-- Paths that a set has or hasn't, and their numbers.
use Rattle.std.proofs.Common.{◌≡◌, ℕ, ◌+◌, List, length, append_assoc, Option, Some, None, Result, Ok, Err, IfOk, OnOk, [], ◌∷◌, ◌++◌, Contains, Bool, true, false, not, if◌then◌else◌, refl, sym, ap, subst, ◌∙◌, true≢false, arith}
use Rattle.std.specs.Cmp.Lexicographic.{nat_list_eq_equiv}
use Rattle.std.specs.List.{list_any}
use Rattle.std.proofs.lemmas.List.{append-nil}
use Rattle.std.proofs.lemmas.Map.Views.{list_any-from_Contains, Contains-from_any}
use Rattle.nd_path.specs.StorePath.{path_eq}
use Rattle.nd_path.specs.SamePaths.{paths_same}
use Rattle.nd_links.specs.Numbering.{AddsPaths, AreKeys, AreKeysTo, AreNoNumbers, AreNumbersOf, HasNumbers, IsNumberFault, LacksNumbers}
use Rattle.nd_links.specs.Whole.{IsRepeat}
use Rattle.nd_links.specs.declared.fault.GraphError.{GraphError}
use Rattle.nd_links.specs.declared.fault.GraphError.TheVariants as bundle
use Rattle.nd_links.specs.declared.number.Numbers.{Numbers}
use Rattle.nd_graph.specs.Walks.{AreDistinct}
use Rattle.nd_graph.proofs.Distinct.{distinct_push}

-- what an insertion into a set answers
pub was_there : (there added : Bool) → added ≡ not there → added ≡ false → there ≡ true
was_there true added is old = refl
was_there false added is old = absurd (true≢false (sym is ∙ old))

pub was_new : (there added : Bool) → added ≡ not there → added ≡ true → there ≡ false
was_new true added is new = absurd (true≢false (sym new ∙ is))
was_new false added is new = refl

-- a path that a set finds is in its list, and one that it doesn't find isn't
pub is_there : (paths : List (List ℕ)) (path : List ℕ) → list_any (path_eq path) paths ≡ true → Contains paths path
is_there paths path found = Contains-from_any paths_same path paths found

pub not_there : (paths : List (List ℕ)) (path : List ℕ) → list_any (path_eq path) paths ≡ false → Contains paths path → ⊥
not_there paths path none there = true≢false (sym (list_any-from_Contains nat_list_eq_equiv path paths there) ∙ none)

-- a path that was inserted by its key is the last one now
pub grown_by : (old new : List (List ℕ)) (key path : List ℕ) (added : Bool) → key ≡ path → added ≡ not (list_any (path_eq key) old) → new ≡ (if list_any (path_eq key) old then old else old ++ key ∷ []) → added ≡ true
    → (list_any (path_eq path) old ≡ false) × (new ≡ old ++ path ∷ [])
grown_by old new key path added same told pushed is =
    let fresh : list_any (path_eq key) old ≡ false = was_new (list_any (path_eq key) old) added told is in
    let P : List ℕ → Type 0 = λ p. (list_any (path_eq p) old ≡ false) × (new ≡ old ++ p ∷ []) in
    subst P same (fresh, pushed ∙ ap (λ (b : Bool). if b then old else old ++ key ∷ []) fresh)

-- .. and where it wasn't, it stood there already
pub kept_by : (old new : List (List ℕ)) (key path : List ℕ) (added : Bool) → key ≡ path → added ≡ not (list_any (path_eq key) old) → new ≡ (if list_any (path_eq key) old then old else old ++ key ∷ []) → added ≡ false
    → (list_any (path_eq path) old ≡ true) × (new ≡ old)
kept_by old new key path added same told pushed is =
    let found : list_any (path_eq key) old ≡ true = was_there (list_any (path_eq key) old) added told is in
    let P : List ℕ → Type 0 = λ p. (list_any (path_eq p) old ≡ true) × (new ≡ old) in
    subst P same (found, pushed ∙ ap (λ (b : Bool). if b then old else old ++ key ∷ []) found)

-- ---- numbers

distinct_none : AreDistinct {X = List ℕ} []
distinct_none = record { apart = λ j k d lt within same. absurd (omega (arith, within)) }

pub no_numbers : (numbers : Numbers) → numbers.repeat ≡ None → numbers.paths.keys ≡ [] → AreNoNumbers numbers
no_numbers numbers none empty = record {
  none = subst (λ (r : Option ℕ). AreKeysTo [] numbers.paths.keys r) (sym none) (record { same = empty; distinct = distinct_none });
}

-- the keys, where no path stood twice
keys_of : (paths : List (List ℕ)) (numbers : Numbers) → numbers.repeat ≡ None → AreNumbersOf paths numbers → AreKeys paths numbers.paths.keys
keys_of paths numbers none are = subst (λ (r : Option ℕ). AreKeysTo paths numbers.paths.keys r) none are

-- the line of the first path that stood before
repeat_of : (paths : List (List ℕ)) (numbers : Numbers) (line : ℕ) → numbers.repeat ≡ Some line → AreNumbersOf paths numbers → IsRepeat paths line
repeat_of paths numbers line is are = subst (λ (r : Option ℕ). AreKeysTo paths numbers.paths.keys r) is are

-- it stays that whatever is behind
repeat_still : (paths more : List (List ℕ)) (line : ℕ) → IsRepeat paths line → IsRepeat (paths ++ more) line
repeat_still paths more line is = record {
  before = is.before;
  path = is.path;
  behind = is.behind ++ more;
  parts = ap (λ (ps : List (List ℕ)). ps ++ more) is.parts ∙ append_assoc is.before (is.path ∷ is.behind) more;
  distinct = is.distinct;
  again = is.again;
  number = is.number;
}

pub adds_behind : (old : Numbers) (more : List (List ℕ)) (line : ℕ) → old.repeat ≡ Some line → AddsPaths old more old
adds_behind old more line is = record {
  adds = λ paths are. subst (λ (r : Option ℕ). AreKeysTo (paths ++ more) old.paths.keys r) (sym is) (repeat_still paths more line (repeat_of paths old line is are));
}

pub adds_none : (old new : Numbers) → new.repeat ≡ old.repeat → new.paths.keys ≡ old.paths.keys → AddsPaths old [] new
adds_none old new still same = record {
  adds = λ paths are.
      subst (λ (ps : List (List ℕ)). AreNumbersOf ps new) (sym (append-nil paths))
      (subst (λ (r : Option ℕ). AreKeysTo paths new.paths.keys r) (sym still) (subst (λ (ks : List (List ℕ)). AreKeysTo paths ks old.repeat) (sym same) are));
}

-- one path more, which is a new one
pub adds_more : (first old new : Numbers) (seen : List (List ℕ)) (path : List ℕ) → AddsPaths first seen old → old.repeat ≡ None → new.repeat ≡ None → list_any (path_eq path) old.paths.keys ≡ false
    → new.paths.keys ≡ old.paths.keys ++ path ∷ [] → AddsPaths first (seen ++ path ∷ []) new
adds_more first old new seen path so none still fresh grown = record {
  adds = λ paths are.
      let all : List (List ℕ) = paths ++ seen in
      let keys : AreKeys all old.paths.keys = keys_of all old none (so.adds paths are) in
      let now : AreKeys (all ++ path ∷ []) new.paths.keys = record {
        same = grown ∙ ap (λ (ks : List (List ℕ)). ks ++ path ∷ []) keys.same;
        distinct = distinct_push all path keys.distinct (λ there. not_there old.paths.keys path fresh (subst (λ (ks : List (List ℕ)). Contains ks path) (sym keys.same) there));
      } in
      subst (λ (ps : List (List ℕ)). AreNumbersOf ps new) (append_assoc paths seen (path ∷ [])) (subst (λ (r : Option ℕ). AreKeysTo (all ++ path ∷ []) new.paths.keys r) (sym still) now);
}

-- .. or one that stood before
pub adds_twice : (first old new : Numbers) (all seen behind : List (List ℕ)) (path : List ℕ) (line : ℕ) → AddsPaths first seen old → old.repeat ≡ None → all ≡ seen ++ path ∷ behind → list_any (path_eq path) old.paths.keys ≡ true
    → new.repeat ≡ Some line → line ≡ length old.paths.keys + 1 → AddsPaths first all new
adds_twice first old new all seen behind path line so none whole found twice number = record {
  adds = λ paths are.
      let front : List (List ℕ) = paths ++ seen in
      let keys : AreKeys front old.paths.keys = keys_of front old none (so.adds paths are) in
      let is : IsRepeat (paths ++ all) line = record {
        before = front;
        path = path;
        behind = behind;
        parts = ap (λ (ps : List (List ℕ)). paths ++ ps) whole ∙ sym (append_assoc paths seen (path ∷ behind));
        distinct = keys.distinct;
        again = subst (λ (ks : List (List ℕ)). Contains ks path) keys.same (is_there old.paths.keys path found);
        number = number ∙ ap (λ (ks : List (List ℕ)). length ks + 1) keys.same;
      } in
      subst (λ (r : Option ℕ). AreKeysTo (paths ++ all) new.paths.keys r) (sym twice) is;
}

pub has_numbers : (numbers : Numbers) (keys : List (List ℕ)) → numbers.repeat ≡ None → keys ≡ numbers.paths.keys → HasNumbers numbers keys
has_numbers numbers keys none same = record { has = λ paths are. subst (λ (ks : List (List ℕ)). AreKeys paths ks) (sym same) (keys_of paths numbers none are) }

pub lacks_numbers : (numbers : Numbers) (line : ℕ) → numbers.repeat ≡ Some line → LacksNumbers numbers (bundle.Duplicate line)
lacks_numbers numbers line is = record { lacks = λ paths are. repeat_of paths numbers line is are }

-- what an answer gives whatever it is
pub on_ok_if : {A E : Type 0} (P : A → Type 0) (Q : Type 0) (answer : Result A E) → ((a : A) → P a → Q) → IfOk answer P → OnOk answer Q
on_ok_if P Q (Ok a) so is = so a is
on_ok_if P Q (Err e) so is = tt

-- the numbers of all paths
numbers_all : (none numbers : Numbers) (paths : List (List ℕ)) → AreNoNumbers none → AddsPaths none paths numbers → AreNumbersOf paths numbers
numbers_all none numbers paths empty adds = adds.adds [] empty.none

pub all_same : (none numbers : Numbers) (paths keys : List (List ℕ)) → AreNoNumbers none → AddsPaths none paths numbers → HasNumbers numbers keys → keys ≡ paths
all_same none numbers paths keys empty adds has = (has.has paths (numbers_all none numbers paths empty adds)).same

pub all_distinct : (none numbers : Numbers) (paths keys : List (List ℕ)) → AreNoNumbers none → AddsPaths none paths numbers → HasNumbers numbers keys → AreDistinct paths
all_distinct none numbers paths keys empty adds has = (has.has paths (numbers_all none numbers paths empty adds)).distinct

pub all_lack : (none numbers : Numbers) (paths : List (List ℕ)) (fault : GraphError) → AreNoNumbers none → AddsPaths none paths numbers → LacksNumbers numbers fault → IsNumberFault paths fault
all_lack none numbers paths fault empty adds lacks = lacks.lacks paths (numbers_all none numbers paths empty adds)
