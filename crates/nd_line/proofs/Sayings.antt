-- From what was read of a line to what the line says.
use Rattle.std.proofs.Common.{◌≡◌, ℕ, Bool, true, false, true≢false, ◌++◌, List, [], ◌∷◌, map, filter, Some, cond, Result, Ok, Err, IfOk, IfErr, refl, ap, sym, subst, ◌∙◌}
use Rattle.std.specs.List.{list_all, starts_with}
use Rattle.std.specs.Prelude.{nat_eq, codes}
use Rattle.nd_aterm.specs.declared.records.EnvEntry.{EnvEntry}
use Rattle.nd_aterm.specs.declared.records.InputDrv.{InputDrv}
use Rattle.nd_aterm.specs.declared.records.Output.{Output}
use Rattle.nd_aterm.specs.declared.records.Parts.{Parts}
use Rattle.nd_path.specs.StorePath.{name_of}
use Rattle.nd_eligible.specs.declared.need.Need.{Need}
use Rattle.nd_line.specs.Attributes.{Asks, AsksNothing, Needs, structured}
use Rattle.nd_line.specs.Derived.{Derives, IsOwnPath, IsPathOfText}
use Rattle.nd_line.specs.Found.{HasContents, path_of, IsOwnPathOf, HasAnother, IsAnother}
use Rattle.nd_line.specs.Kinds.{is_drv, is_known, references}
use Rattle.nd_line.specs.Reads.{front, back, Splits, named, Tells, IsNode, IsLine, IsBad, IsBadText, IsElsewhere, IsFaulty, Reads}
use Rattle.nd_line.specs.Refused.{Attribute}
use Rattle.nd_line.specs.declared.derived.Contents.{Contents}
use Rattle.nd_line.specs.declared.line.NamedInput.{NamedInput}
use Rattle.nd_line.specs.declared.line.LineNode.{LineNode}
use Rattle.nd_line.specs.declared.refusal.LineError.{LineError}
use Rattle.nd_line.specs.declared.refusal.LineError.TheVariants.{BadLine, BadPath, BadDerivation, UnknownOutput, BadAttribute, WrongPath, Memory}
use Rattle.nd_line.proofs.Keeping.{asks_kept, nothing_kept}
use Rattle.nd_line.proofs.Rising.{both}

kept_or : (b : Bool) (x : Output) (xs ys : List Output) → b ≡ true → xs ≡ ys → cond b (x ∷ xs) xs ≡ x ∷ ys
kept_or true x xs ys e same = ap (λ (zs : List Output). x ∷ zs) same
kept_or false x xs ys wrong same = absurd (true≢false (sym wrong))

-- where all outputs are known none is left out
pub all_known : (outputs : List Output) → list_all is_known outputs ≡ true → filter is_known outputs ≡ outputs
all_known [] known = refl
all_known (output ∷ outputs) known =
    let parts : (is_known output ≡ true) × (list_all is_known outputs ≡ true) = both (is_known output) (list_all is_known outputs) known in
    kept_or (is_known output) output (filter is_known outputs) outputs parts.0 (all_known outputs parts.1)

-- the need is that of the parts that were found
same_need : (parts : Parts) (contents : Contents) (builder : List ℕ) (env : List EnvEntry) (need : Need) → HasContents parts contents → builder ≡ contents.builder → env ≡ contents.env → Needs contents.platform builder env need → Needs parts.platform parts.builder parts.env need
same_need parts contents builder env need has builder_is env_is needs = record {
  wishes = needs.wishes;
  asks = asks_kept parts.env needs.wishes (subst (λ (vars : List EnvEntry). Asks (structured vars) vars needs.wishes) (env_is ∙ has.env) needs.asks);
  system = needs.system ∙ has.platform;
  features = needs.features;
  prefer_local = needs.prefer_local;
  builtin = needs.builtin ∙ ap (λ (b : List ℕ). starts_with nat_eq b (codes "builtin:")) (builder_is ∙ has.builder);
}

pub tells : (text : List ℕ) (parts : Parts) (contents : Contents) (path builder : List ℕ) (env : List EnvEntry) (need : Need) → Derives text parts → HasContents parts contents → contents.outputs.known ≡ true → builder ≡ contents.builder → env ≡ contents.env → Needs contents.platform builder env need
    → Tells text parts (record { path = path; need = need; inputs = contents.inputs; sources = contents.sources; output_names = contents.outputs.names; outputs = contents.outputs.paths })
tells text parts contents path builder env need derives has known builder_is env_is needs =
    let all : list_all is_known parts.outputs ≡ true = sym has.outputs.known ∙ known in
    record {
      derives = derives;
      known = all;
      has = record {
        need = same_need parts contents builder env need has builder_is env_is needs;
        inputs = has.inputs;
        sources = has.sources;
        output_names = has.outputs.names;
        outputs = has.outputs.paths ∙ ap (map (λ (output : Output). output.path)) (all_known parts.outputs all);
      };
    }

-- a need that is refused is refused for what the whole environment asks
pub bad_need : (text : List ℕ) (parts : Parts) (contents : Contents) (path : List ℕ) (env : List EnvEntry) (fault : LineError) → Derives text parts → HasContents parts contents → contents.outputs.known ≡ true → env ≡ contents.env → Attribute fault (AsksNothing env)
    → IsBad false path text fault
bad_need text parts contents path env BadLine derives has known env_is bad = bad
bad_need text parts contents path env BadPath derives has known env_is bad = bad
bad_need text parts contents path env BadDerivation derives has known env_is bad = absurd bad
bad_need text parts contents path env UnknownOutput derives has known env_is bad = absurd bad
bad_need text parts contents path env BadAttribute derives has known env_is bad =
    (parts, derives, sym has.outputs.known ∙ known, nothing_kept parts.env (subst AsksNothing (env_is ∙ has.env) bad))
bad_need text parts contents path env WrongPath derives has known env_is bad = absurd bad
bad_need text parts contents path env Memory derives has known env_is bad = tt

-- what is refused without the check is refused with it
pub bad_anyhow : (check : Bool) (path text : List ℕ) (fault : LineError) → IsBad false path text fault → IsBad check path text fault
bad_anyhow check path text BadLine bad = bad
bad_anyhow check path text BadPath bad = bad
bad_anyhow check path text BadDerivation bad = bad
bad_anyhow check path text UnknownOutput bad = bad
bad_anyhow check path text BadAttribute bad = bad
bad_anyhow check path text WrongPath bad = absurd (true≢false (sym bad.0))
bad_anyhow check path text Memory bad = tt

-- the paths of the named inputs are those of the input derivations
same_paths : (drvs : List InputDrv) → map path_of (map named drvs) ≡ map (λ (input : InputDrv). input.path) drvs
same_paths [] = refl
same_paths (drv ∷ drvs) = ap (λ (paths : List (List ℕ)). drv.path ∷ paths) (same_paths drvs)

same_references : (text : List ℕ) (parts : Parts) (node : LineNode) → Tells text parts node → node.sources ++ map path_of node.inputs ≡ references parts
same_references text parts node tell =
    ap (λ (sources : List (List ℕ)). sources ++ map path_of node.inputs) tell.has.sources
    ∙ ap (λ (paths : List (List ℕ)). parts.input_srcs ++ paths) (ap (map path_of) tell.has.inputs ∙ same_paths parts.input_drvs)

-- a path over the node's sources and inputs is one over those of the parts
own_by_parts : (path text : List ℕ) (parts : Parts) (node : LineNode) (own : List ℕ) → node.path ≡ path → Tells text parts node → IsOwnPathOf node text own → IsOwnPath (name_of path) text (references parts) own
own_by_parts path text parts node own path_is tell is_own =
    subst (λ (p : List ℕ). IsOwnPath (name_of p) text (references parts) own) path_is (subst (λ (refs : List (List ℕ)). IsOwnPath (name_of node.path) text refs own) (same_references text parts node tell) is_own)

pub wrong_path : (path text : List ℕ) (node : LineNode) → node.path ≡ path → ((parts : Parts) × Tells text parts node) → HasAnother node text → IsElsewhere path text
wrong_path path text node path_is told another = record {
  parts = told.0;
  node = node;
  tells = told.1;
  own = another.own;
  is_own = own_by_parts path text told.0 node another.own path_is told.1 another.is_own;
  differs = λ same. another.differs (same ∙ sym path_is);
}

-- a path that is refused by the check is refused
pub bad_checked : (check : Bool) (path text : List ℕ) (node : LineNode) (fault : LineError) → check ≡ true → node.path ≡ path → ((parts : Parts) × Tells text parts node) → IsAnother node text fault → IsBad check path text fault
bad_checked check path text node BadLine on path_is told bad = bad
bad_checked check path text node BadPath on path_is told bad = bad
bad_checked check path text node BadDerivation on path_is told bad = absurd bad
bad_checked check path text node UnknownOutput on path_is told bad = absurd bad
bad_checked check path text node BadAttribute on path_is told bad = absurd bad
bad_checked check path text node WrongPath on path_is told bad = (on, wrong_path path text node path_is told bad)
bad_checked check path text node Memory on path_is told bad = tt

pub node_unchecked : (check : Bool) (path text : List ℕ) (node : LineNode) → check ≡ false → node.path ≡ path → ((parts : Parts) × Tells text parts node) → IsNode check path text node
node_unchecked check path text node off path_is told = record { parts = told.0; path_is = path_is; tells = told.1; own = λ on. absurd (true≢false (sym on ∙ off)) }

pub node_checked : (check : Bool) (path text : List ℕ) (node : LineNode) → node.path ≡ path → ((parts : Parts) × Tells text parts node) → IsOwnPathOf node text node.path → IsNode check path text node
node_checked check path text node path_is told own = record {
  parts = told.0;
  path_is = path_is;
  tells = told.1;
  own = λ on. subst (λ (p : List ℕ). IsOwnPath (name_of path) text (references told.0) p) path_is (own_by_parts path text told.0 node node.path path_is told.1 own);
}

pub ruleset checks = (bad_anyhow)

faulty : (check : Bool) (line : List ℕ) (fault : LineError) → IsBadText check line fault → IsFaulty check line fault
faulty check line BadLine bad = absurd bad.is_bad
faulty check line BadPath bad = absurd bad.is_bad
faulty check line BadDerivation bad = bad
faulty check line UnknownOutput bad = bad
faulty check line BadAttribute bad = bad
faulty check line WrongPath bad = bad
faulty check line Memory bad = tt

splits : (line before text : List ℕ) → before ≡ front line → back line ≡ Some text → is_drv before ≡ true → Splits line text
splits line before text before_is text_is drv = record { text_is = text_is; path_is = subst (λ (b : List ℕ). is_drv b ≡ true) before_is drv }

pub bad_line : (check : Bool) (line before text : List ℕ) (fault : LineError) → before ≡ front line → back line ≡ Some text → is_drv before ≡ true → IsBad check before text fault → IsFaulty check line fault
bad_line check line before text fault before_is text_is drv bad = faulty check line fault (record { text = text; splits = splits line before text before_is text_is drv; is_bad = subst (λ (b : List ℕ). IsBad check b text fault) before_is bad })

pub good_line : (check : Bool) (line before text : List ℕ) (node : LineNode) → before ≡ front line → back line ≡ Some text → is_drv before ≡ true → IsNode check before text node → IsLine check line node
good_line check line before text node before_is text_is drv is_node = record { text = text; splits = splits line before text before_is text_is drv; is_node = subst (λ (b : List ℕ). IsNode check b text node) before_is is_node }

pub bad_path : (line before text : List ℕ) → before ≡ front line → back line ≡ Some text → is_drv before ≡ false → (t : List ℕ) × (back line ≡ Some t) × (is_drv (front line) ≡ false)
bad_path line before text before_is text_is no_path = (text, text_is, subst (λ (b : List ℕ). is_drv b ≡ false) before_is no_path)

-- what reading the text behind the path answers is what reading the line answers
pub line_read : (check : Bool) (line before text path : List ℕ) (result : Result LineNode LineError) → before ≡ front line → back line ≡ Some text → is_drv before ≡ true → path ≡ before → IfOk result (IsNode check path text) → IfErr result (IsBad check path text) → Reads check line result
line_read check line before text path (Ok node) before_is text_is drv path_is is_node bad = good_line check line before text node before_is text_is drv (subst (λ (p : List ℕ). IsNode check p text node) path_is is_node)
line_read check line before text path (Err fault) before_is text_is drv path_is is_node bad = bad_line check line before text fault before_is text_is drv (subst (λ (p : List ℕ). IsBad check p text fault) path_is bad)

pub ruleset lines = (line_read)

-- a path over the contents that were found is one over the parts
pub path_found : (name text path : List ℕ) (inputs : List NamedInput) (sources : List (List ℕ)) (contents : Contents) → ((parts : Parts) × Derives text parts × HasContents parts contents) → inputs ≡ contents.inputs → sources ≡ contents.sources
    → IsOwnPath name text (sources ++ map path_of inputs) path → IsPathOfText name text path
path_found name text path inputs sources contents found inputs_are sources_are own =
    let parts = found.0 in
    let has : HasContents parts contents = found.2 in
    let same : sources ++ map path_of inputs ≡ references parts =
    ap (λ (s : List (List ℕ)). s ++ map path_of inputs) (sources_are ∙ has.sources) ∙ ap (λ (p : List (List ℕ)). parts.input_srcs ++ p) (ap (map path_of) (inputs_are ∙ has.inputs) ∙ same_paths parts.input_drvs) in
    record { parts = parts; derives = found.1; own = subst (λ (refs : List (List ℕ)). IsOwnPath name text refs path) same own }
