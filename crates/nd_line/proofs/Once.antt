-- A line has one reading: each refusal says that the line passes all tests before its own and fails that one.
use Rattle.std.proofs.Common.{◌≡◌, ℕ, zero, suc, ◌<◌, Bool, true, true≢false, List, [], ◌∷◌, map, ◌⊎◌, inl, inr, Option, Some, None, Ok, Err, Less, Greater, refl, ap, sym, subst, ◌∙◌, arith}
use Rattle.std.proofs.lemmas.Bool.{cases_lt}
use Rattle.std.proofs.lemmas.Cmp.{nat_list_cmp_total}
use Rattle.std.specs.List.{AllByRecursion, Contains}
use Rattle.std.specs.List.Sorted.{IsStrictlySortedBy}
use Rattle.std.specs.Ordering.{ordering_reverse}
use Rattle.std.specs.Prelude.{codes}
use Rattle.nd_aterm.specs.DerivationsOnce.{Loose-same}
use Rattle.nd_aterm.specs.declared.records.EnvEntry.{EnvEntry}
use Rattle.nd_aterm.specs.declared.records.Output.{Output}
use Rattle.nd_aterm.specs.declared.records.Parts.{Parts}
use Rattle.nd_eligible.specs.declared.need.Need.{Need}
use Rattle.nd_machines.specs.FeatureSets.{set_of}
use Rattle.nd_path.specs.StorePath.{name_of, path_cmp}
use Rattle.nd_path.specs.TextPaths.{text_path_of}
use Rattle.serde_json.specs.Data.{Data}
use Rattle.serde_json.specs.Find.{get}
use Rattle.nd_line.specs.Attributes.{Asks, Needs, structured}
use Rattle.nd_line.specs.Derived.{Derives, IsOwnPath}
use Rattle.nd_line.specs.Kinds.{is_drv, knows_outputs, references}
use Rattle.nd_line.specs.OneReading.{OneReading}
use Rattle.nd_line.specs.Reads.{front, back, named, IsLine, IsFaulty}
use Rattle.nd_line.specs.Structured.{features_in, preference_in}
use Rattle.nd_line.specs.Wishes.{Says}
use Rattle.nd_line.specs.declared.line.LineNode.{LineNode}
use Rattle.nd_line.specs.declared.refusal.LineError.{LineError}
use Rattle.nd_line.specs.declared.refusal.LineError.TheVariants.{BadLine, BadPath, BadDerivation, UnknownOutput, BadAttribute, WrongPath, Memory}
use Rattle.nd_line.specs.declared.structured.Wishes.{Wishes}

-- ---- rising lists with the same members are equal

in_front : (x : List ℕ) (xs : List (List ℕ)) → Contains (x ∷ xs) x
in_front x xs = (0, omega arith, refl)

in_back : (x : List ℕ) (xs : List (List ℕ)) (q : List ℕ) → Contains xs q → Contains (x ∷ xs) q
in_back x xs q (k, within, is) = (suc k, omega arith, is)

front_or_back : (x : List ℕ) (xs : List (List ℕ)) (q : List ℕ) → Contains (x ∷ xs) q → (x ≡ q) ⊎ Contains xs q
front_or_back x xs q (zero, within, is) = inl is
front_or_back x xs q (suc k, within, is) = inr (k, omega arith, is)

in_none : (q : List ℕ) → Contains [] q → ⊥
in_none q (k, within, is) = omega arith

pub below : (x : List ℕ) (xs : List (List ℕ)) (q : List ℕ) → AllByRecursion (λ y. path_cmp x y ≡ Less) xs → Contains xs q → path_cmp x q ≡ Less
below x [] q all here = absurd (in_none q here)
below x (y ∷ ys) q all here = elim (front_or_back y ys q here) [ inl same ↦ subst (λ (p : List ℕ). path_cmp x p ≡ Less) same all.0 | inr later ↦ below x ys q all.1 later ]

pub not_both : (x y : List ℕ) → path_cmp x y ≡ Less → path_cmp y x ≡ Less → ⊥
not_both x y up down =
    let turned : path_cmp x y ≡ Greater = nat_list_cmp_total.antisymm x y ∙ ap ordering_reverse down in
    let wrong : Less ≡ Greater = sym up ∙ turned in
    cc

same_first : (x y : List ℕ) (xs ys : List (List ℕ)) → AllByRecursion (λ z. path_cmp x z ≡ Less) xs → AllByRecursion (λ z. path_cmp y z ≡ Less) ys → Contains (y ∷ ys) x → Contains (x ∷ xs) y → x ≡ y
same_first x y xs ys of_x of_y x_there y_there =
    elim (front_or_back y ys x x_there) [
      | inl same ↦ sym same
      | inr x_later ↦ elim (front_or_back x xs y y_there) [ inl same ↦ same | inr y_later ↦ absurd (not_both x y (below x xs y of_x y_later) (below y ys x of_y x_later)) ]
    ]

behind_first : (x y : List ℕ) (xs ys : List (List ℕ)) (q : List ℕ) → x ≡ y → AllByRecursion (λ z. path_cmp x z ≡ Less) xs → Contains (y ∷ ys) q → Contains xs q → Contains ys q
behind_first x y xs ys q same of_x there here =
    elim (front_or_back y ys q there) [
      | inl first ↦ let loop : path_cmp x x ≡ Less = subst (λ (p : List ℕ). path_cmp x p ≡ Less) (sym (same ∙ first)) (below x xs q of_x here) in absurd (not_both x x loop loop)
      | inr later ↦ later
    ]

same_rising : (xs ys : List (List ℕ)) → IsStrictlySortedBy path_cmp xs → IsStrictlySortedBy path_cmp ys → ((q : List ℕ) → Contains xs q → Contains ys q) → ((q : List ℕ) → Contains ys q → Contains xs q) → xs ≡ ys
unfolding IsStrictlySortedBy
same_rising [] [] xs_rise ys_rise to from = refl
same_rising [] (y ∷ ys) xs_rise ys_rise to from = absurd (in_none y (from y (in_front y ys)))
same_rising (x ∷ xs) [] xs_rise ys_rise to from = absurd (in_none x (to x (in_front x xs)))
same_rising (x ∷ xs) (y ∷ ys) xs_rise ys_rise to from =
    let first : x ≡ y = same_first x y xs ys xs_rise.0 ys_rise.0 (to x (in_front x xs)) (from y (in_front y ys)) in
    let rest : xs ≡ ys =
    same_rising xs ys xs_rise.1 ys_rise.1 (λ q here. behind_first x y xs ys q first xs_rise.0 (to q (in_back x xs q here)) here)
    (λ q here. behind_first y x ys xs q (sym first) ys_rise.0 (from q (in_back y ys q here)) here) in
    ap (λ (p : List ℕ). p ∷ xs) first ∙ ap (λ (ps : List (List ℕ)). y ∷ ps) rest

-- a derivation has one path of its own
pub one_path : (name text : List ℕ) (references : List (List ℕ)) (p q : List ℕ) → IsOwnPath name text references p → IsOwnPath name text references q → p ≡ q
one_path name text references p q is_p is_q =
    let same : is_p.refs ≡ is_q.refs =
    same_rising is_p.refs is_q.refs is_p.rising.rises is_q.rising.rises (λ r here. is_q.members.to r (is_p.members.from r here)) (λ r here. is_p.members.to r (is_q.members.from r here)) in
    is_p.is ∙ ap (λ (refs : List (List ℕ)). text_path_of name refs text) same ∙ sym is_q.is

-- ---- one text, one derivation, one need

some_once : {A : Type 0} (a b : A) (o : Option A) → o ≡ Some a → o ≡ Some b → a ≡ b
some_once a b o is_a is_b = cc

pub same_parts : (text : List ℕ) (p q : Parts) → Derives text p → Derives text q → p ≡ q
same_parts text p q of_p of_q = Loose-same p q text of_p.spells.spelled.0 of_q.spells.spelled.0

one_saying : (json : List ℕ) (v w : Wishes) → Says json v → Says json w → (v.features ≡ w.features) × (v.prefer_local ≡ w.prefer_local)
one_saying json v w say_v say_w =
    let value : say_v.value ≡ say_w.value = some_once say_v.value say_w.value _ say_v.json.reads say_w.json.reads in
    let listed : say_v.listed ≡ say_w.listed =
    some_once say_v.listed say_w.listed _ (ap (λ (d : Data). features_in (get (codes "requiredSystemFeatures") d)) (sym value) ∙ say_v.lists) say_w.lists in
    let prefer : v.prefer_local ≡ w.prefer_local =
    some_once v.prefer_local w.prefer_local _ (ap (λ (d : Data). preference_in (get (codes "preferLocalBuild") d)) (sym value) ∙ say_v.prefer_local) say_w.prefer_local in
    (say_v.features ∙ ap set_of listed ∙ sym say_w.features, prefer)

one_asking : (json : Option (List ℕ)) (env : List EnvEntry) (v w : Wishes) → Asks json env v → Asks json env w → (v.features ≡ w.features) × (v.prefer_local ≡ w.prefer_local)
one_asking None env v w ask_v ask_w = (ask_v.features ∙ sym ask_w.features, ask_v.prefer_local ∙ sym ask_w.prefer_local)
one_asking (Some json) env v w ask_v ask_w = one_saying json v w ask_v ask_w

same_need : (platform builder : List ℕ) (env : List EnvEntry) (a b : Need) → Needs platform builder env a → Needs platform builder env b → a ≡ b
same_need platform builder env a b of_a of_b =
    let asked = one_asking (structured env) env of_a.wishes of_b.wishes of_a.asks of_b.asks in
    let system : a.system ≡ b.system = of_a.system ∙ sym of_b.system in
    let features : a.features ≡ b.features = of_a.features ∙ asked.0 ∙ sym of_b.features in
    let prefer : a.prefer_local ≡ b.prefer_local = of_a.prefer_local ∙ asked.1 ∙ sym of_b.prefer_local in
    let builtin : a.builtin ≡ b.builtin = of_a.builtin ∙ sym of_b.builtin in
    λ i. record { system = system i; features = features i; prefer_local = prefer i; builtin = builtin i }

-- ---- the tests of a line

-- the line's text is a derivation's
pub record HasDerivation (line : List ℕ) : Type 0 where
  pub text : List ℕ
  pub parts : Parts
  pub text_is : back line ≡ Some text
  pub derives : Derives text parts

derived_once : (line : List ℕ) (d e : HasDerivation line) → (d.text ≡ e.text) × (d.parts ≡ e.parts)
derived_once line d e =
    let text : d.text ≡ e.text = some_once d.text e.text (back line) d.text_is e.text_is in
    (text, same_parts e.text d.parts e.parts (subst (λ (t : List ℕ). Derives t d.parts) text d.derives) e.derives)

-- the line passes the test of this refusal
abbrev Passes : Bool → List ℕ → LineError → Type 0
Passes check line BadLine = (text : List ℕ) × (back line ≡ Some text)
Passes check line BadPath = is_drv (front line) ≡ true
Passes check line BadDerivation = HasDerivation line
Passes check line UnknownOutput = (d : HasDerivation line) × (knows_outputs d.parts ≡ true)
Passes check line BadAttribute = (d : HasDerivation line) × ((wishes : Wishes) × Asks (structured d.parts.env) d.parts.env wishes)
Passes check line WrongPath = check ≡ true → (d : HasDerivation line) × IsOwnPath (name_of (front line)) d.text (references d.parts) (front line)
Passes check line Memory = Unit {0}

-- the tests' order
abbrev stage : LineError → ℕ
stage BadLine = 0
stage BadPath = 1
stage BadDerivation = 2
stage UnknownOutput = 3
stage BadAttribute = 4
stage WrongPath = 5
stage Memory = 6

stage_once : (f g : LineError) → stage f ≡ stage g → f ≡ g
stage_once BadLine BadLine same = refl
stage_once BadLine g same = absurd (omega arith)
stage_once BadPath BadPath same = refl
stage_once BadPath g same = absurd (omega arith)
stage_once BadDerivation BadDerivation same = refl
stage_once BadDerivation g same = absurd (omega arith)
stage_once UnknownOutput UnknownOutput same = refl
stage_once UnknownOutput g same = absurd (omega arith)
stage_once BadAttribute BadAttribute same = refl
stage_once BadAttribute g same = absurd (omega arith)
stage_once WrongPath WrongPath same = refl
stage_once WrongPath g same = absurd (omega arith)
stage_once Memory Memory same = refl
stage_once Memory g same = absurd (omega arith)

-- a line with a node passes all tests
node_passes : (check : Bool) (line : List ℕ) (node : LineNode) (f : LineError) → IsLine check line node → Passes check line f
node_passes check line node BadLine is = (is.text, is.splits.text_is)
node_passes check line node BadPath is = is.splits.path_is
node_passes check line node BadDerivation is = record { text = is.text; parts = is.is_node.parts; text_is = is.splits.text_is; derives = is.is_node.tells.derives }
node_passes check line node UnknownOutput is = (record { text = is.text; parts = is.is_node.parts; text_is = is.splits.text_is; derives = is.is_node.tells.derives }, is.is_node.tells.known)
node_passes check line node BadAttribute is =
    (record { text = is.text; parts = is.is_node.parts; text_is = is.splits.text_is; derives = is.is_node.tells.derives }, (is.is_node.tells.has.need.wishes, is.is_node.tells.has.need.asks))
node_passes check line node WrongPath is =
    λ on. (record { text = is.text; parts = is.is_node.parts; text_is = is.splits.text_is; derives = is.is_node.tells.derives }, is.is_node.own on)
node_passes check line node Memory is = tt

-- a refused line passes the tests before that of its refusal
passes_before : (check : Bool) (line : List ℕ) (f g : LineError) → IsFaulty check line f → (f ≡ Memory → ⊥) → stage g < stage f → Passes check line g
passes_before check line BadLine g bad other lt = absurd (omega arith)
passes_before check line BadPath BadLine bad other lt = (bad.0, bad.1)
passes_before check line BadPath g bad other lt = absurd (omega arith)
passes_before check line BadDerivation BadLine bad other lt = (bad.text, bad.splits.text_is)
passes_before check line BadDerivation BadPath bad other lt = bad.splits.path_is
passes_before check line BadDerivation g bad other lt = absurd (omega arith)
passes_before check line UnknownOutput BadLine bad other lt = (bad.text, bad.splits.text_is)
passes_before check line UnknownOutput BadPath bad other lt = bad.splits.path_is
passes_before check line UnknownOutput BadDerivation bad other lt = record { text = bad.text; parts = bad.is_bad.0; text_is = bad.splits.text_is; derives = bad.is_bad.1 }
passes_before check line UnknownOutput g bad other lt = absurd (omega arith)
passes_before check line BadAttribute BadLine bad other lt = (bad.text, bad.splits.text_is)
passes_before check line BadAttribute BadPath bad other lt = bad.splits.path_is
passes_before check line BadAttribute BadDerivation bad other lt = record { text = bad.text; parts = bad.is_bad.0; text_is = bad.splits.text_is; derives = bad.is_bad.1 }
passes_before check line BadAttribute UnknownOutput bad other lt = (record { text = bad.text; parts = bad.is_bad.0; text_is = bad.splits.text_is; derives = bad.is_bad.1 }, bad.is_bad.2)
passes_before check line BadAttribute g bad other lt = absurd (omega arith)
passes_before check line WrongPath BadLine bad other lt = (bad.text, bad.splits.text_is)
passes_before check line WrongPath BadPath bad other lt = bad.splits.path_is
passes_before check line WrongPath BadDerivation bad other lt = record { text = bad.text; parts = bad.is_bad.1.parts; text_is = bad.splits.text_is; derives = bad.is_bad.1.tells.derives }
passes_before check line WrongPath UnknownOutput bad other lt = (record { text = bad.text; parts = bad.is_bad.1.parts; text_is = bad.splits.text_is; derives = bad.is_bad.1.tells.derives }, bad.is_bad.1.tells.known)
passes_before check line WrongPath BadAttribute bad other lt =
    (record { text = bad.text; parts = bad.is_bad.1.parts; text_is = bad.splits.text_is; derives = bad.is_bad.1.tells.derives }, (bad.is_bad.1.tells.has.need.wishes, bad.is_bad.1.tells.has.need.asks))
passes_before check line WrongPath g bad other lt = absurd (omega arith)
passes_before check line Memory g bad other lt = absurd (other refl)

-- a refused line fails the test of its refusal
fails_its_own : (check : Bool) (line : List ℕ) (f : LineError) → IsFaulty check line f → (f ≡ Memory → ⊥) → Passes check line f → ⊥
fails_its_own check line BadLine bad other pass = let wrong : None ≡ Some pass.0 = sym bad ∙ pass.1 in cc
fails_its_own check line BadPath bad other pass = true≢false (sym pass ∙ bad.2)
fails_its_own check line BadDerivation bad other pass =
    let text : pass.text ≡ bad.text = some_once pass.text bad.text (back line) pass.text_is bad.splits.text_is in
    bad.is_bad pass.parts (subst (λ (t : List ℕ). Derives t pass.parts) text pass.derives)
fails_its_own check line UnknownOutput bad other pass =
    let d : HasDerivation line = record { text = bad.text; parts = bad.is_bad.0; text_is = bad.splits.text_is; derives = bad.is_bad.1 } in
    true≢false (sym pass.1 ∙ ap knows_outputs (derived_once line pass.0 d).1 ∙ bad.is_bad.2)
fails_its_own check line BadAttribute bad other pass =
    let d : HasDerivation line = record { text = bad.text; parts = bad.is_bad.0; text_is = bad.splits.text_is; derives = bad.is_bad.1 } in
    let asks : Asks (structured d.parts.env) d.parts.env pass.1.0 = subst (λ (p : Parts). Asks (structured p.env) p.env pass.1.0) (derived_once line pass.0 d).1 pass.1.1 in
    let nothing = bad.is_bad.3 in
    nothing.nothing pass.1.0 (subst (λ (o : Option (List ℕ)). Asks o d.parts.env pass.1.0) nothing.is_structured asks)
fails_its_own check line WrongPath bad other pass =
    let elsewhere = bad.is_bad.1 in
    let here = pass bad.is_bad.0 in
    let d : HasDerivation line = record { text = bad.text; parts = elsewhere.parts; text_is = bad.splits.text_is; derives = elsewhere.tells.derives } in
    let same = derived_once line here.0 d in
    let own : IsOwnPath (name_of (front line)) bad.text (references elsewhere.parts) (front line) =
    subst (λ (p : Parts). IsOwnPath (name_of (front line)) bad.text (references p) (front line)) same.1
    (subst (λ (t : List ℕ). IsOwnPath (name_of (front line)) t (references here.0.parts) (front line)) same.0 here.1) in
    elsewhere.differs (one_path (name_of (front line)) bad.text (references elsewhere.parts) elsewhere.own (front line) elsewhere.is_own own)
fails_its_own check line Memory bad other pass = other refl

-- a line with a node is not refused
pub no_node : (check : Bool) (line : List ℕ) (node : LineNode) (f : LineError) → IsLine check line node → IsFaulty check line f → (f ≡ Memory → ⊥) → ⊥
no_node check line node f is bad other = fails_its_own check line f bad other (node_passes check line node f is)

-- ---- one reading

pub same_node : (check : Bool) (line : List ℕ) (a b : LineNode) → IsLine check line a → IsLine check line b → a ≡ b
unfolding node_passes
same_node check line a b of_a of_b =
    let d : HasDerivation line = node_passes check line a BadDerivation of_a in
    let e : HasDerivation line = node_passes check line b BadDerivation of_b in
    let parts : of_a.is_node.parts ≡ of_b.is_node.parts = (derived_once line d e).1 in
    let has_a = of_a.is_node.tells.has in
    let has_b = of_b.is_node.tells.has in
    let path : a.path ≡ b.path = of_a.is_node.path_is ∙ sym of_b.is_node.path_is in
    let need : a.need ≡ b.need =
    same_need of_b.is_node.parts.platform of_b.is_node.parts.builder of_b.is_node.parts.env a.need b.need (subst (λ (p : Parts). Needs p.platform p.builder p.env a.need) parts has_a.need) has_b.need in
    let inputs : a.inputs ≡ b.inputs = has_a.inputs ∙ ap (λ (p : Parts). map named p.input_drvs) parts ∙ sym has_b.inputs in
    let sources : a.sources ≡ b.sources = has_a.sources ∙ ap (λ (p : Parts). p.input_srcs) parts ∙ sym has_b.sources in
    let names : a.output_names ≡ b.output_names = has_a.output_names ∙ ap (λ (p : Parts). map (λ (o : Output). o.name) p.outputs) parts ∙ sym has_b.output_names in
    let outputs : a.outputs ≡ b.outputs = has_a.outputs ∙ ap (λ (p : Parts). map (λ (o : Output). o.path) p.outputs) parts ∙ sym has_b.outputs in
    λ i. record { path = path i; need = need i; inputs = inputs i; sources = sources i; output_names = names i; outputs = outputs i }

memory_or_not : (f : LineError) → (f ≡ Memory) ⊎ (f ≡ Memory → ⊥)
memory_or_not BadLine = inr (λ same. cc)
memory_or_not BadPath = inr (λ same. cc)
memory_or_not BadDerivation = inr (λ same. cc)
memory_or_not UnknownOutput = inr (λ same. cc)
memory_or_not BadAttribute = inr (λ same. cc)
memory_or_not WrongPath = inr (λ same. cc)
memory_or_not Memory = inl refl

pub same_fault : (check : Bool) (line : List ℕ) (f g : LineError) → IsFaulty check line f → IsFaulty check line g → (f ≡ Memory → ⊥) → (g ≡ Memory → ⊥) → f ≡ g
same_fault check line f g bad_f bad_g f_other g_other =
    elim (cases_lt (stage f) (stage g)) [
      | inl lt ↦ absurd (fails_its_own check line f bad_f f_other (passes_before check line g f bad_g g_other lt))
      | inr ge ↦ elim (cases_lt (stage g) (stage f)) [
        | inl lt ↦ absurd (fails_its_own check line g bad_g g_other (passes_before check line f g bad_f f_other lt))
        | inr le ↦ stage_once f g (omega arith)
      ]
    ]

pub one_reading : OneReading
one_reading check line (Ok a) (Ok b) of_a of_b = inr (inr (ap Ok (same_node check line a b of_a of_b)))
one_reading check line (Ok a) (Err g) of_a bad = elim (memory_or_not g) [ inl same ↦ inr (inl (ap Err same)) | inr other ↦ absurd (fails_its_own check line g bad other (node_passes check line a g of_a)) ]
one_reading check line (Err f) (Ok b) bad of_b = elim (memory_or_not f) [ inl same ↦ inl (ap Err same) | inr other ↦ absurd (fails_its_own check line f bad other (node_passes check line b f of_b)) ]
one_reading check line (Err f) (Err g) bad_f bad_g =
    elim (memory_or_not f) [
      | inl same ↦ inl (ap Err same)
      | inr f_other ↦ elim (memory_or_not g) [ inl same ↦ inr (inl (ap Err same)) | inr g_other ↦ inr (inr (ap Err (same_fault check line f g bad_f bad_g f_other g_other))) ]
    ]
