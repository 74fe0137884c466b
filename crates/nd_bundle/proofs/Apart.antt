-- The refusals of a bundle over the whole exclude one another: each says that the lines pass all tests before its own and fail
-- that one.
use Rattle.std.proofs.Common.{◌≡◌, ℕ, ◌+◌, ◌<◌, ◌≤◌, List, [], ◌∷◌, ◌++◌, length, get_or, Contains, refl, ap, sym, subst, ◌∙◌, inl, inr, arith, length-append}
use Rattle.std.proofs.lemmas.Bool.{cases_lt}
use Rattle.std.proofs.lemmas.List.{get_or_append_left, get_or_at}
use Rattle.std.specs.List.{AllZip}
use Rattle.nd_graph.specs.Graphs.{needed, node_limit, nodes_of, IsAt}
use Rattle.nd_graph.specs.Walks.{AreDistinct, IsAcyclic}
use Rattle.nd_links.specs.Whole.{AllNumbered, AreInputsThere, AreNumbered, AreOutputsThere, HasInputs, HasOutputs, IsMissingInput, IsMissingOutput, IsNumbered, IsRepeat, IsWholeFault, LacksInput, LacksOutput, Links}
use Rattle.nd_links.specs.declared.fault.GraphError.{GraphError}
use Rattle.nd_links.specs.declared.fault.GraphError.TheVariants.{Duplicate, MissingInput, MissingOutput, Cycle, TooMany, Memory}
use Rattle.nd_graph.specs.declared.graph.Input.{Input}
use Rattle.nd_line.specs.declared.line.NamedInput.{NamedInput}

-- ---- what is there once has one place

pub one_place : (items : List (List ℕ)) → AreDistinct items → (item : List ℕ) (p q : ℕ) → IsAt items item p → IsAt items item q → p ≡ q
one_place items distinct item p q at_p at_q =
    elim (cases_lt p q) [
      | inl lt ↦ absurd (distinct.apart p q [] lt at_q.within (at_p.is ∙ sym at_q.is))
      | inr ge ↦ elim (cases_lt q p) [
        | inl lt ↦ absurd (distinct.apart q p [] lt at_p.within (at_q.is ∙ sym at_p.is))
        | inr le ↦ omega arith
      ]
    ]

row_once : (paths : List (List ℕ)) (names : List (List (List ℕ))) → AreDistinct paths → (wants : List NamedInput) (a b : List Input) → AllZip (IsNumbered paths names) wants a → AllZip (IsNumbered paths names) wants b → nodes_of a ≡ nodes_of b
row_once paths names distinct [] [] [] of_a of_b = refl
row_once paths names distinct [] [] (j ∷ b) of_a of_b = absurd of_b
row_once paths names distinct [] (i ∷ a) b of_a of_b = absurd of_a
row_once paths names distinct (w ∷ wants) [] b of_a of_b = absurd of_a
row_once paths names distinct (w ∷ wants) (i ∷ a) [] of_a of_b = absurd of_b
row_once paths names distinct (w ∷ wants) (i ∷ a) (j ∷ b) of_a of_b =
    let first : i.node ≡ j.node = one_place paths distinct w.path i.node j.node of_a.0.node of_b.0.node in
    let rest : nodes_of a ≡ nodes_of b = row_once paths names distinct wants a b of_a.1 of_b.1 in
    ap (λ (n : ℕ). n ∷ nodes_of a) first ∙ ap (λ (ns : List ℕ). j.node ∷ ns) rest

rows_once : (paths : List (List ℕ)) (names : List (List (List ℕ))) → AreDistinct paths → (wants : List (List NamedInput)) (a b : List (List Input)) → AllZip (AreNumbered paths names) wants a → AllZip (AreNumbered paths names) wants b → needed a ≡ needed b
rows_once paths names distinct [] [] [] of_a of_b = refl
rows_once paths names distinct [] [] (j ∷ b) of_a of_b = absurd of_b
rows_once paths names distinct [] (i ∷ a) b of_a of_b = absurd of_a
rows_once paths names distinct (w ∷ wants) [] b of_a of_b = absurd of_a
rows_once paths names distinct (w ∷ wants) (i ∷ a) [] of_a of_b = absurd of_b
rows_once paths names distinct (w ∷ wants) (i ∷ a) (j ∷ b) of_a of_b =
    let first : nodes_of i ≡ nodes_of j = row_once paths names distinct w i j of_a.0.each of_b.0.each in
    let rest : needed a ≡ needed b = rows_once paths names distinct wants a b of_a.1 of_b.1 in
    ap (λ (ns : List ℕ). ns ∷ needed a) first ∙ ap (λ (rows : List (List ℕ)). nodes_of j ∷ rows) rest

-- ---- a test is not passed and failed at once

not_repeated : (paths : List (List ℕ)) (n : ℕ) → IsRepeat paths n → AreDistinct paths → ⊥
not_repeated paths n is distinct =
    let all : AreDistinct (is.before ++ is.path ∷ is.behind) = subst (λ (ps : List (List ℕ)). AreDistinct ps) is.parts distinct in
    let long : length (is.before ++ is.path ∷ is.behind) ≡ length is.before + length (is.path ∷ is.behind) = length-append is.before (is.path ∷ is.behind) in
    let first : get_or (is.before ++ is.path ∷ is.behind) is.again.0 is.path ≡ is.path = get_or_append_left is.before (is.path ∷ is.behind) is.path is.again.0 is.again.1 ∙ is.again.2 in
    let second : get_or (is.before ++ is.path ∷ is.behind) (length is.before) is.path ≡ is.path = get_or_at is.before is.path is.behind is.path (length is.before) refl in
    all.apart is.again.0 (length is.before) is.path is.again.1 (omega arith) (first ∙ sym second)

inputs_apart : (paths : List (List ℕ)) (wants : List NamedInput) → HasInputs paths wants → LacksInput paths wants → ⊥
inputs_apart paths wants has lacks = lacks.missing (has.there lacks.want lacks.asked)

outputs_apart : (paths : List (List ℕ)) (names : List (List (List ℕ))) (wants : List NamedInput) → AreDistinct paths → HasOutputs paths names wants → LacksOutput paths names wants → ⊥
outputs_apart paths names wants distinct has lacks =
    let lack = lacks.lacks in
    let out = has.there lacks.want lack.name lacks.asked lack.named in
    let same : out.node ≡ lack.node = one_place paths distinct lacks.want.path out.node lack.node (record { within = out.within; is = out.is }) (record { within = lack.within; is = lack.is }) in
    lack.missing (subst (λ (n : ℕ). Contains (get_or names n []) lack.name) same out.has)

-- the inputs by number, of which none is below itself
pub record IsOrderly (links : Links) : Type 0 where
  pub inputs : List (List Input)
  pub numbered : AllNumbered links.paths links.names links.wants inputs
  pub acyclic : IsAcyclic (needed inputs)

-- the lines pass the test of this refusal
abbrev pub Passes : Links → GraphError → Type 0
Passes links (Duplicate n) = AreDistinct links.paths
Passes links (MissingInput n) = AreInputsThere links.paths links.wants
Passes links (MissingOutput n) = AreOutputsThere links.paths links.names links.wants
Passes links Cycle = IsOrderly links
Passes links TooMany = length links.paths ≤ node_limit
Passes links _ = Unit {0}

-- the tests' order
abbrev stage : GraphError → ℕ
stage (Duplicate n) = 0
stage (MissingInput n) = 1
stage (MissingOutput n) = 2
stage Cycle = 3
stage TooMany = 4
stage _ = 5

passes_before : (links : Links) (f g : GraphError) → IsWholeFault links f → (f ≡ Memory → ⊥) → stage g < stage f → Passes links g
passes_before links (Duplicate n) g bad other lt = absurd (omega (arith, lt))
passes_before links (MissingInput n) (Duplicate m) bad other lt = bad.0
passes_before links (MissingInput n) g bad other lt = absurd (omega (arith, lt))
passes_before links (MissingOutput n) (Duplicate m) bad other lt = bad.0
passes_before links (MissingOutput n) (MissingInput m) bad other lt = bad.1
passes_before links (MissingOutput n) g bad other lt = absurd (omega (arith, lt))
passes_before links Cycle (Duplicate m) bad other lt = bad.linked.distinct
passes_before links Cycle (MissingInput m) bad other lt = bad.linked.inputs
passes_before links Cycle (MissingOutput m) bad other lt = bad.linked.outputs
passes_before links Cycle g bad other lt = absurd (omega (arith, lt))
passes_before links TooMany (Duplicate m) bad other lt = bad.linked.distinct
passes_before links TooMany (MissingInput m) bad other lt = bad.linked.inputs
passes_before links TooMany (MissingOutput m) bad other lt = bad.linked.outputs
passes_before links TooMany Cycle bad other lt = record { inputs = bad.inputs; numbered = bad.numbered; acyclic = bad.acyclic }
passes_before links TooMany g bad other lt = absurd (omega (arith, lt))
passes_before links Memory g bad other lt = absurd (other refl)
passes_before links f g bad other lt = absurd bad

pub fails_its_own : (links : Links) (f : GraphError) → IsWholeFault links f → (f ≡ Memory → ⊥) → Passes links f → ⊥
fails_its_own links (Duplicate n) bad other pass = not_repeated links.paths n bad pass
fails_its_own links (MissingInput n) bad other pass = inputs_apart links.paths (get_or links.wants bad.1.place []) (pass.there bad.1.place bad.1.within) bad.1.lacks
fails_its_own links (MissingOutput n) bad other pass = outputs_apart links.paths links.names (get_or links.wants bad.2.place []) bad.0 (pass.there bad.2.place bad.2.within) bad.2.lacks
fails_its_own links Cycle bad other pass =
    let rows : needed bad.inputs ≡ needed pass.inputs = rows_once links.paths links.names bad.linked.distinct links.wants bad.inputs pass.inputs bad.numbered.each pass.numbered.each in
    (subst (λ (rs : List (List ℕ)). IsAcyclic rs) (sym rows) pass.acyclic).apart bad.cyclic.node bad.cyclic.below
fails_its_own links TooMany bad other pass = omega (arith, bad.many, pass)
fails_its_own links Memory bad other pass = other refl
fails_its_own links f bad other pass = absurd bad

-- ---- the first line of a kind

repeats_later : (paths : List (List ℕ)) (n m : ℕ) (a : IsRepeat paths n) (b : IsRepeat paths m) → length a.before < length b.before → ⊥
repeats_later paths n m a b lt =
    let both : b.before ++ b.path ∷ b.behind ≡ a.before ++ a.path ∷ a.behind = sym b.parts ∙ a.parts in
    let at : (k : ℕ) → k < length b.before → get_or b.before k a.path ≡ get_or (a.before ++ a.path ∷ a.behind) k a.path =
    λ k low. sym (get_or_append_left b.before (b.path ∷ b.behind) a.path k low) ∙ ap (λ (ps : List (List ℕ)). get_or ps k a.path) both in
    let again : a.again.0 < length a.before = a.again.1 in
    let first : get_or b.before a.again.0 a.path ≡ a.path = at a.again.0 (omega arith) ∙ get_or_append_left a.before (a.path ∷ a.behind) a.path a.again.0 again ∙ a.again.2 in
    let second : get_or b.before (length a.before) a.path ≡ a.path = at (length a.before) lt ∙ get_or_at a.before a.path a.behind a.path (length a.before) refl in
    b.distinct.apart a.again.0 (length a.before) a.path again lt (first ∙ sym second)

one_repeat : (paths : List (List ℕ)) (n m : ℕ) → IsRepeat paths n → IsRepeat paths m → n ≡ m
one_repeat paths n m a b =
    elim (cases_lt (length a.before) (length b.before)) [
      | inl lt ↦ absurd (repeats_later paths n m a b lt)
      | inr ge ↦ elim (cases_lt (length b.before) (length a.before)) [
        | inl lt ↦ absurd (repeats_later paths m n b a lt)
        | inr le ↦ omega (arith, a.number, b.number)
      ]
    ]

one_missing_input : (paths : List (List ℕ)) (wants : List (List NamedInput)) (n m : ℕ) → IsMissingInput paths wants n → IsMissingInput paths wants m → n ≡ m
one_missing_input paths wants n m a b =
    elim (cases_lt a.place b.place) [
      | inl lt ↦ absurd (inputs_apart paths (get_or wants a.place []) (b.before a.place lt) a.lacks)
      | inr ge ↦ elim (cases_lt b.place a.place) [
        | inl lt ↦ absurd (inputs_apart paths (get_or wants b.place []) (a.before b.place lt) b.lacks)
        | inr le ↦ omega (arith, a.number, b.number)
      ]
    ]

one_missing_output : (paths : List (List ℕ)) (names : List (List (List ℕ))) (wants : List (List NamedInput)) (n m : ℕ) → AreDistinct paths → IsMissingOutput paths names wants n → IsMissingOutput paths names wants m → n ≡ m
one_missing_output paths names wants n m distinct a b =
    elim (cases_lt a.place b.place) [
      | inl lt ↦ absurd (outputs_apart paths names (get_or wants a.place []) distinct (b.before a.place lt) a.lacks)
      | inr ge ↦ elim (cases_lt b.place a.place) [
        | inl lt ↦ absurd (outputs_apart paths names (get_or wants b.place []) distinct (a.before b.place lt) b.lacks)
        | inr le ↦ omega (arith, a.number, b.number)
      ]
    ]

same_test : (links : Links) (f g : GraphError) → IsWholeFault links f → IsWholeFault links g → (f ≡ Memory → ⊥) → (g ≡ Memory → ⊥) → stage f ≡ stage g → f ≡ g
same_test links (Duplicate n) (Duplicate m) bad_f bad_g f_other g_other same = ap Duplicate (one_repeat links.paths n m bad_f bad_g)
same_test links (Duplicate n) g bad_f bad_g f_other g_other same = absurd (omega (arith, same))
same_test links (MissingInput n) (MissingInput m) bad_f bad_g f_other g_other same = ap MissingInput (one_missing_input links.paths links.wants n m bad_f.1 bad_g.1)
same_test links (MissingInput n) g bad_f bad_g f_other g_other same = absurd (omega (arith, same))
same_test links (MissingOutput n) (MissingOutput m) bad_f bad_g f_other g_other same = ap MissingOutput (one_missing_output links.paths links.names links.wants n m bad_f.0 bad_f.2 bad_g.2)
same_test links (MissingOutput n) g bad_f bad_g f_other g_other same = absurd (omega (arith, same))
same_test links Cycle Cycle bad_f bad_g f_other g_other same = refl
same_test links Cycle g bad_f bad_g f_other g_other same = absurd (omega (arith, same))
same_test links TooMany TooMany bad_f bad_g f_other g_other same = refl
same_test links TooMany g bad_f bad_g f_other g_other same = absurd (omega (arith, same))
same_test links Memory g bad_f bad_g f_other g_other same = absurd (f_other refl)
same_test links f g bad_f bad_g f_other g_other same = absurd bad_f

pub same_whole : (links : Links) (f g : GraphError) → IsWholeFault links f → IsWholeFault links g → (f ≡ Memory → ⊥) → (g ≡ Memory → ⊥) → f ≡ g
same_whole links f g bad_f bad_g f_other g_other =
    elim (cases_lt (stage f) (stage g)) [
      | inl lt ↦ absurd (fails_its_own links f bad_f f_other (passes_before links g f bad_g g_other lt))
      | inr ge ↦ elim (cases_lt (stage g) (stage f)) [
        | inl lt ↦ absurd (fails_its_own links g bad_g g_other (passes_before links f g bad_f f_other lt))
        | inr le ↦ same_test links f g bad_f bad_g f_other g_other (omega arith)
      ]
    ]
