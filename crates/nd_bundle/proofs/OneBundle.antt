-- A bundle has one reading: the refusal of a line, a refusal over the whole and a graph exclude one another, and each comes in one
-- way.
use Rattle.std.proofs.Common.{◌≡◌, ℕ, zero, suc, ◌+◌, ◌<◌, ◌≤◌, Bool, List, [], ◌∷◌, ◌++◌, length, drop, get_or, map, Contains, ◌⊎◌, inl, inr, Ok, Err, Result, Less, IfOk, IfErr, MatchResult, refl, ap, sym, subst, ◌∙◌, arith}
use Rattle.std.proofs.lemmas.List.Elements.{Contains-get_or}
use Rattle.std.specs.List.{AllZip}
use Rattle.std.specs.List.Sorted.{IsStrictlySortedBy}
use Rattle.nd_bytes.specs.Compared.{bytes_cmp}
use Rattle.nd_bundle.specs.Bundles.{IsBundle, IsBundleRefused, IsFirstFault, IsLineRefused, IsWholeRefused}
use Rattle.nd_bundle.specs.Needed.{HasNeeds}
use Rattle.nd_links.specs.Placing.{ArePlaced, Placed}
use Rattle.nd_graph.specs.Graphs.{Nodes, node_limit, IsAt}
use Rattle.nd_bundle.specs.Lines.{lines}
use Rattle.nd_links.specs.Numbered.{fault_at}
use Rattle.nd_bundle.specs.OneBundle.{NeverBoth, OneBundle, OneGraph}
use Rattle.nd_line.specs.Reads.{IsLine, IsFaulty}
use Rattle.nd_graph.specs.Walks.{AreDistinct}
use Rattle.nd_links.specs.Whole.{links_of, AllNumbered, AreNumbered, IsNumbered, IsWholeFault}
use Rattle.nd_links.specs.declared.fault.GraphError.{GraphError}
use Rattle.nd_links.specs.declared.fault.GraphError.TheVariants as bundle
use Rattle.nd_graph.specs.declared.graph.Input.{Input}
use Rattle.nd_line.specs.declared.line.LineNode.{LineNode}
use Rattle.nd_line.specs.declared.line.NamedInput.{NamedInput}
use Rattle.nd_line.specs.declared.refusal.LineError.{LineError}
use Rattle.nd_line.specs.declared.refusal.LineError.TheVariants.{BadLine, BadPath, BadDerivation, UnknownOutput, BadAttribute, WrongPath, Memory}
use Rattle.nd_bundle.proofs.Apart.{one_place, Passes, fails_its_own, same_whole}
use Rattle.nd_links.proofs.Linked.{rows_have, rows_reach}
use Rattle.nd_line.proofs.Once.{below, no_node, not_both, same_fault, same_node}
use Rattle.nd_line.proofs.Rising.{names_rise}
use Rattle.nd_links.proofs.Zipped.{zip_once}

-- ---- one text, one graph

same_nodes : (check : Bool) (ls : List (List ℕ)) (a b : List LineNode) → AllZip (IsLine check) ls a → AllZip (IsLine check) ls b → a ≡ b
same_nodes check ls a b of_a of_b = zip_once (IsLine check) (λ l m n. same_node check l m n) ls a b of_a of_b

-- a rising list has no item twice
rising_apart : (xs : List (List ℕ)) → IsStrictlySortedBy bytes_cmp xs → (j k : ℕ) (d : List ℕ) → j < k → k < length xs → get_or xs j d ≡ get_or xs k d → ⊥
unfolding IsStrictlySortedBy
rising_apart [] up j k d lt within same = omega (arith, within)
rising_apart (x ∷ xs) up j zero d lt within same = omega (arith, lt)
rising_apart (x ∷ xs) up zero (suc k) d lt within same =
    let there : Contains xs (get_or xs k d) = Contains-get_or xs k d (omega (arith, within)) in
    let less : bytes_cmp x (get_or xs k d) ≡ Less = below x xs (get_or xs k d) up.0 there in
    let loop : bytes_cmp x x ≡ Less = subst (λ (y : List ℕ). bytes_cmp x y ≡ Less) (sym same) less in
    not_both x x loop loop
rising_apart (x ∷ xs) up (suc j) (suc k) d lt within same = rising_apart xs up.1 j k d (omega (arith, lt)) (omega (arith, within)) same

names_apart : (check : Bool) (ls : List (List ℕ)) (nodes : List LineNode) → AllZip (IsLine check) ls nodes → (d : ℕ) → AreDistinct (get_or (map (λ (n : LineNode). n.output_names) nodes) d [])
names_apart check [] [] zip d = record { apart = λ j k x lt within same. omega (arith, within) }
names_apart check [] (n ∷ nodes) zip d = absurd zip
names_apart check (l ∷ ls) [] zip d = absurd zip
names_apart check (l ∷ ls) (n ∷ nodes) zip zero = record { apart = rising_apart n.output_names (names_rise check l n zip.0) }
names_apart check (l ∷ ls) (n ∷ nodes) zip (suc d) = names_apart check ls nodes zip.1 d

input_once : (paths : List (List ℕ)) (names : List (List (List ℕ))) → AreDistinct paths → ((d : ℕ) → AreDistinct (get_or names d [])) → (w : NamedInput) (i j : Input) → IsNumbered paths names w i → IsNumbered paths names w j → i ≡ j
input_once paths names distinct apart w i j of_i of_j =
    let node : i.node ≡ j.node = one_place paths distinct w.path i.node j.node of_i.node of_j.node in
    let each : AllZip (IsAt (get_or names j.node [])) w.names i.outputs = subst (λ (n : ℕ). AllZip (IsAt (get_or names n [])) w.names i.outputs) node of_i.outputs.each in
    let outputs : i.outputs ≡ j.outputs = zip_once (IsAt (get_or names j.node [])) (one_place (get_or names j.node []) (apart j.node)) w.names i.outputs j.outputs each of_j.outputs.each in
    λ k. record { node = node k; outputs = outputs k }

row_once : (paths : List (List ℕ)) (names : List (List (List ℕ))) → AreDistinct paths → ((d : ℕ) → AreDistinct (get_or names d [])) → (wants : List NamedInput) (a b : List Input) → AreNumbered paths names wants a → AreNumbered paths names wants b → a ≡ b
row_once paths names distinct apart wants a b of_a of_b = zip_once (IsNumbered paths names) (input_once paths names distinct apart) wants a b of_a.each of_b.each

inputs_once : (paths : List (List ℕ)) (names : List (List (List ℕ))) → AreDistinct paths → ((d : ℕ) → AreDistinct (get_or names d [])) → (wants : List (List NamedInput)) (a b : List (List Input)) → AllNumbered paths names wants a → AllNumbered paths names wants b → a ≡ b
inputs_once paths names distinct apart wants a b of_a of_b = zip_once (AreNumbered paths names) (row_once paths names distinct apart) wants a b of_a.each of_b.each

-- the inputs that lines say, by number
abbrev Numbered : List LineNode → List (List Input) → Type 0
Numbered nodes rows = AllNumbered (map (λ n. n.path) nodes) (map (λ n. n.output_names) nodes) (map (λ n. n.inputs) nodes) rows

pub one_graph : OneGraph
one_graph check text a b of_a of_b =
    let nodes : of_a.nodes ≡ of_b.nodes = same_nodes check (lines text) of_a.nodes of_b.nodes of_a.says of_b.says in
    let ns : List LineNode = of_b.nodes in
    let paths : a.paths ≡ b.paths = of_a.of.paths ∙ ap (map (λ (n : LineNode). n.path)) nodes ∙ sym of_b.of.paths in
    let needs : a.needs ≡ b.needs = of_a.of.needs ∙ ap (map (λ (n : LineNode). n.need)) nodes ∙ sym of_b.of.needs in
    let sources : a.sources ≡ b.sources = of_a.of.sources ∙ ap (map (λ (n : LineNode). n.sources)) nodes ∙ sym of_b.of.sources in
    let outputs : a.outputs ≡ b.outputs = of_a.of.outputs ∙ ap (map (λ (n : LineNode). n.outputs)) nodes ∙ sym of_b.of.outputs in
    let distinct : AreDistinct (map (λ (n : LineNode). n.path) ns) = subst (λ (ps : List (List ℕ)). AreDistinct ps) of_b.of.paths of_b.sound.distinct in
    let numbered : Numbered ns a.inputs = subst (λ (ms : List LineNode). Numbered ms a.inputs) nodes of_a.of.inputs in
    let inputs : a.inputs ≡ b.inputs = inputs_once (map (λ n. n.path) ns) (map (λ n. n.output_names) ns) distinct (names_apart check (lines text) ns of_b.says) (map (λ n. n.inputs) ns) a.inputs b.inputs numbered of_b.of.inputs in
    λ i. record { paths = paths i; needs = needs i; inputs = inputs i; sources = sources i; outputs = outputs i }

-- ---- the first line that is refused

tails : (x y : List ℕ) (xs ys : List (List ℕ)) → x ∷ xs ≡ y ∷ ys → xs ≡ ys
tails x y xs ys same = ap (λ (zs : List (List ℕ)). drop 1 zs) same

heads : (x y : List ℕ) (xs ys : List (List ℕ)) → x ∷ xs ≡ y ∷ ys → x ≡ y
heads x y xs ys same = ap (λ (zs : List (List ℕ)). get_or zs 0 []) same

-- where all lines say nodes, none is refused
all_or_one : (check : Bool) (before : List (List ℕ)) (line : List ℕ) (behind : List (List ℕ)) (nodes : List LineNode) (f : LineError) → AllZip (IsLine check) (before ++ line ∷ behind) nodes → IsFaulty check line f → (f ≡ Memory → ⊥) → ⊥
all_or_one check [] line behind [] f zip bad other = absurd zip
all_or_one check [] line behind (n ∷ nodes) f zip bad other = no_node check line n f zip.0 bad other
all_or_one check (l ∷ before) line behind [] f zip bad other = absurd zip
all_or_one check (l ∷ before) line behind (n ∷ nodes) f zip bad other = all_or_one check before line behind nodes f zip.1 bad other

no_line : (check : Bool) (text : List ℕ) (nodes : List LineNode) (f : LineError) (n : ℕ) → AllZip (IsLine check) (lines text) nodes → IsLineRefused check text f n → (f ≡ Memory → ⊥) → ⊥
no_line check text nodes f n says is other = all_or_one check is.before is.line is.behind nodes f (subst (λ (ls : List (List ℕ)). AllZip (IsLine check) ls nodes) is.parts says) is.refused other

-- two first lines are one, with one refusal
first_once : (check : Bool) (xs : List (List ℕ)) (x : List ℕ) (xs_behind ys : List (List ℕ)) (y : List ℕ) (ys_behind : List (List ℕ)) (ms ns : List LineNode) (f g : LineError) → xs ++ x ∷ xs_behind ≡ ys ++ y ∷ ys_behind
    → AllZip (IsLine check) xs ms → AllZip (IsLine check) ys ns → IsFaulty check x f → IsFaulty check y g → (f ≡ Memory → ⊥) → (g ≡ Memory → ⊥) → (f ≡ g) × (length xs ≡ length ys)
first_once check [] x xs_behind [] y ys_behind ms ns f g same say_ms say_ns bad_f bad_g f_other g_other =
    let one : x ≡ y = heads x y xs_behind ys_behind same in
    (same_fault check y f g (subst (λ (l : List ℕ). IsFaulty check l f) one bad_f) bad_g f_other g_other, refl)
first_once check [] x xs_behind (l ∷ ys) y ys_behind ms [] f g same say_ms say_ns bad_f bad_g f_other g_other = absurd say_ns
first_once check [] x xs_behind (l ∷ ys) y ys_behind ms (n ∷ ns) f g same say_ms say_ns bad_f bad_g f_other g_other =
    absurd (no_node check l n f say_ns.0 (subst (λ (m : List ℕ). IsFaulty check m f) (heads x l xs_behind (ys ++ y ∷ ys_behind) same) bad_f) f_other)
first_once check (l ∷ xs) x xs_behind [] y ys_behind [] ns f g same say_ms say_ns bad_f bad_g f_other g_other = absurd say_ms
first_once check (l ∷ xs) x xs_behind [] y ys_behind (m ∷ ms) ns f g same say_ms say_ns bad_f bad_g f_other g_other =
    absurd (no_node check l m g say_ms.0 (subst (λ (m : List ℕ). IsFaulty check m g) (sym (heads l y (xs ++ x ∷ xs_behind) ys_behind same)) bad_g) g_other)
first_once check (l ∷ xs) x xs_behind (k ∷ ys) y ys_behind [] ns f g same say_ms say_ns bad_f bad_g f_other g_other = absurd say_ms
first_once check (l ∷ xs) x xs_behind (k ∷ ys) y ys_behind (m ∷ ms) [] f g same say_ms say_ns bad_f bad_g f_other g_other = absurd say_ns
first_once check (l ∷ xs) x xs_behind (k ∷ ys) y ys_behind (m ∷ ms) (n ∷ ns) f g same say_ms say_ns bad_f bad_g f_other g_other =
    let rest = first_once check xs x xs_behind ys y ys_behind ms ns f g (tails l k (xs ++ x ∷ xs_behind) (ys ++ y ∷ ys_behind) same) say_ms.1 say_ns.1 bad_f bad_g f_other g_other in
    (rest.0, ap (λ (n : ℕ). suc n) rest.1)

same_line : (check : Bool) (text : List ℕ) (f g : LineError) (n m : ℕ) → IsLineRefused check text f n → IsLineRefused check text g m → (f ≡ Memory → ⊥) → (g ≡ Memory → ⊥) → fault_at f n ≡ fault_at g m
same_line check text f g n m a b f_other g_other =
    let one = first_once check a.before a.line a.behind b.before b.line b.behind a.nodes b.nodes f g (sym a.parts ∙ b.parts) a.says b.says a.refused b.refused f_other g_other in
    let number : n ≡ m = a.number_is ∙ ap (λ (k : ℕ). k + 1) one.1 ∙ sym b.number_is in
    ap (λ (h : LineError). fault_at h n) one.0 ∙ ap (fault_at g) number

-- ---- a refusal is of a line or over the whole

data IsCause (check : Bool) (text : List ℕ) (fault : GraphError) : Type 0 where
  of_line : (f : LineError) (n : ℕ) → IsLineRefused check text f n → (f ≡ Memory → ⊥) → fault ≡ fault_at f n → IsCause check text fault
  of_whole : IsWholeRefused check text fault → IsCause check text fault

cause : (check : Bool) (text : List ℕ) (fault : GraphError) → IsFirstFault check text fault → (fault ≡ bundle.Memory → ⊥) → IsCause check text fault
cause check text (bundle.BadLine n) bad other = of_line BadLine n bad (λ same. cc) refl
cause check text (bundle.BadPath n) bad other = of_line BadPath n bad (λ same. cc) refl
cause check text (bundle.BadDerivation n) bad other = of_line BadDerivation n bad (λ same. cc) refl
cause check text (bundle.UnknownOutput n) bad other = of_line UnknownOutput n bad (λ same. cc) refl
cause check text (bundle.BadAttribute n) bad other = of_line BadAttribute n bad (λ same. cc) refl
cause check text (bundle.WrongPath n) bad other = of_line WrongPath n bad (λ same. cc) refl
cause check text (bundle.Duplicate n) bad other = of_whole bad
cause check text (bundle.MissingInput n) bad other = of_whole bad
cause check text (bundle.MissingOutput n) bad other = of_whole bad
cause check text bundle.Cycle bad other = of_whole bad
cause check text bundle.TooMany bad other = of_whole bad
cause check text bundle.Memory bad other = absurd (other refl)

same_cause : (check : Bool) (text : List ℕ) (f g : GraphError) → IsCause check text f → IsCause check text g → (f ≡ bundle.Memory → ⊥) → (g ≡ bundle.Memory → ⊥) → f ≡ g
same_cause check text f g (of_line h n at_n h_other f_is) (of_line k m at_m k_other g_is) f_other g_other = f_is ∙ same_line check text h k n m at_n at_m h_other k_other ∙ sym g_is
same_cause check text f g (of_line h n at_n h_other f_is) (of_whole b) f_other g_other = absurd (no_line check text b.nodes h n b.says at_n h_other)
same_cause check text f g (of_whole a) (of_line k m at_m k_other g_is) f_other g_other = absurd (no_line check text a.nodes k m a.says at_m k_other)
same_cause check text f g (of_whole a) (of_whole b) f_other g_other =
    let nodes : a.nodes ≡ b.nodes = same_nodes check (lines text) a.nodes b.nodes a.says b.says in
    same_whole (links_of b.nodes) f g (subst (λ (ns : List LineNode). IsWholeFault (links_of ns) f) nodes a.refused) b.refused f_other g_other

-- the lines of a bundle pass each test over the whole
graph_passes : (check : Bool) (text : List ℕ) (graph : Nodes) (f : GraphError) (is : IsBundle check text graph) → Passes (links_of is.nodes) f
graph_passes check text graph (bundle.Duplicate n) is = subst (λ (ps : List (List ℕ)). AreDistinct ps) is.of.paths is.sound.distinct
graph_passes check text graph (bundle.MissingInput n) is = rows_reach _ _ _ _ is.of.inputs
graph_passes check text graph (bundle.MissingOutput n) is = rows_have _ _ _ _ is.of.inputs
graph_passes check text graph bundle.Cycle is = record { inputs = graph.inputs; numbered = is.of.inputs; acyclic = is.acyclic }
graph_passes check text graph bundle.TooMany is = subst (λ (ps : List (List ℕ)). length ps ≤ node_limit) is.of.paths is.sound.few
graph_passes check text graph f is = tt

no_cause : (check : Bool) (text : List ℕ) (graph : Nodes) (f : GraphError) → IsBundle check text graph → IsCause check text f → (f ≡ bundle.Memory → ⊥) → ⊥
no_cause check text graph f is (of_line h n at_n h_other f_is) other = no_line check text is.nodes h n is.says at_n h_other
no_cause check text graph f is (of_whole b) other =
    let nodes : b.nodes ≡ is.nodes = same_nodes check (lines text) b.nodes is.nodes b.says is.says in
    fails_its_own (links_of is.nodes) f (subst (λ (ns : List LineNode). IsWholeFault (links_of ns) f) nodes b.refused) other (graph_passes check text graph f is)

-- ---- one reading

memory_or_not : (f : GraphError) → (f ≡ bundle.Memory) ⊎ (f ≡ bundle.Memory → ⊥)
memory_or_not bundle.Memory = inl refl
memory_or_not (bundle.BadLine n) = inr (λ same. cc)
memory_or_not (bundle.BadPath n) = inr (λ same. cc)
memory_or_not (bundle.BadDerivation n) = inr (λ same. cc)
memory_or_not (bundle.UnknownOutput n) = inr (λ same. cc)
memory_or_not (bundle.BadAttribute n) = inr (λ same. cc)
memory_or_not (bundle.WrongPath n) = inr (λ same. cc)
memory_or_not (bundle.Duplicate n) = inr (λ same. cc)
memory_or_not (bundle.MissingInput n) = inr (λ same. cc)
memory_or_not (bundle.MissingOutput n) = inr (λ same. cc)
memory_or_not bundle.Cycle = inr (λ same. cc)
memory_or_not bundle.TooMany = inr (λ same. cc)

-- what is a bundle is refused for want of memory alone
pub refused_alone : (check : Bool) (text : List ℕ) (graph : Nodes) (f : GraphError) → IsBundle check text graph → IsFirstFault check text f → f ≡ bundle.Memory
refused_alone check text graph f is bad =
    elim (memory_or_not f) [
      | inl same ↦ same
      | inr other ↦ absurd (no_cause check text graph f is (cause check text f bad other) other)
    ]

-- a cause is a first fault, and is no want of memory
pub is_first : (check : Bool) (text : List ℕ) (f : GraphError) → IsBundleRefused check text f → IsFirstFault check text f
is_first check text bundle.Memory bad = absurd bad
is_first check text f bad = bad

pub is_cause : (check : Bool) (text : List ℕ) (f : GraphError) → IsBundleRefused check text f → f ≡ bundle.Memory → ⊥
is_cause check text f bad same = subst (λ (g : GraphError). IsBundleRefused check text g) same bad

-- a first fault that is no want of memory is a cause
pub is_refused : (check : Bool) (text : List ℕ) (f : GraphError) → IsFirstFault check text f → (f ≡ bundle.Memory → ⊥) → IsBundleRefused check text f
is_refused check text bundle.Memory bad other = absurd (other refl)
is_refused check text f bad other = bad

pub never_both : NeverBoth
never_both check text graph f is bad = no_cause check text graph f is (cause check text f (is_first check text f bad) (is_cause check text f bad)) (is_cause check text f bad)

pub one_bundle : OneBundle
one_bundle check text (Ok a) (Ok b) of_a of_b = inr (inr (ap Ok (one_graph check text a b of_a of_b)))
one_bundle check text (Ok a) (Err g) of_a bad = inr (inl (ap Err (refused_alone check text a g of_a bad)))
one_bundle check text (Err f) (Ok b) bad of_b = inl (ap Err (refused_alone check text b f of_b bad))
one_bundle check text (Err f) (Err g) bad_f bad_g =
    elim (memory_or_not f) [
      | inl same ↦ inl (ap Err same)
      | inr f_other ↦ elim (memory_or_not g) [
        | inl same ↦ inr (inl (ap Err same))
        | inr g_other ↦ inr (inr (ap Err (same_cause check text f g (cause check text f bad_f f_other) (cause check text g bad_g g_other) f_other g_other)))
      ]
    ]

-- what reads a bundle reads its graph, unless it wants memory
pub read_exactly : (check : Bool) (text : List ℕ) (result : Result Nodes GraphError) → IfOk result (λ g. IsBundle check text g) → IfErr result (λ f. IsFirstFault check text f) → (graph : Nodes) → IsBundle check text graph → MatchResult result (λ g. g ≡ graph) (λ f. f ≡ bundle.Memory)
read_exactly check text (Ok g) is_ok is_err graph is = one_graph check text g graph is_ok is
read_exactly check text (Err f) is_ok is_err graph is = refused_alone check text graph f is is_err

-- .. and the needs of its derivations
pub needs_exactly : (check : Bool) (text : List ℕ) (result : Result Placed GraphError) → IfOk result (λ needs. HasNeeds check text needs) → IfErr result (λ f. IsFirstFault check text f) → (graph : Nodes) → IsBundle check text graph → MatchResult result (λ needs. ArePlaced needs.table needs.places graph.needs) (λ f. f ≡ bundle.Memory)
needs_exactly check text (Ok needs) is_ok is_err graph is = subst (λ (g : Nodes). ArePlaced needs.table needs.places g.needs) (one_graph check text is_ok.graph graph is_ok.bundle is) is_ok.placed
needs_exactly check text (Err f) is_ok is_err graph is = refused_alone check text graph f is is_err
