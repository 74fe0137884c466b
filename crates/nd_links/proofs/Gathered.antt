-- The lines' inputs by number, put together.
use Rattle.std.proofs.Common.{◌≡◌, ℕ, ◌+◌, ◌<◌, ◌≤◌, List, [], ◌∷◌, ◌++◌, true≢false, length, take, get_or, map, Contains, Option, None, Some, Result, Ok, Err, refl, sym, ap, ◌∙◌, subst, inl, inr, arith}
use Rattle.std.specs.Prelude.{is_none}
use Rattle.std.specs.List.{AllZip}
use Rattle.std.specs.Option.{unwrap_or}
use Rattle.std.proofs.lemmas.Bool.{cases_lt}
use Rattle.std.proofs.lemmas.List.{get_or_at, get_or_default, length-map}
use Rattle.nd_graph.specs.Graphs.{IsAt, IsNumber}
use Rattle.nd_graph.specs.Walks.{AreDistinct}
use Rattle.nd_graph.specs.declared.graph.Input.{Input}
use Rattle.nd_links.specs.Linking.{known_of, input_fault, link_fault_at, linked, no_row, of_input, of_line, of_memory, of_output, AreAllLinked, AreLinks, HasPath, HaveInputs, IsFirstUnknown, IsInputFault, IsKnown, IsLink, IsRowFault, IsUngathered, IsUnlinked, Known, LacksOnlyOutput, LacksPath}
use Rattle.nd_links.specs.Settled.{AllNamesRise, IsLinkFault, IsResolved}
use Rattle.nd_links.specs.Numbering.{IsNumberFault}
use Rattle.nd_links.specs.Whole.{AllNumbered, AreInputsThere, AreNumbered, HasInputs, IsWholeFault, LacksOutput, Links}
use Rattle.nd_links.specs.declared.fault.GraphError.{GraphError}
use Rattle.nd_links.specs.declared.fault.GraphError.TheVariants as bundle
use Rattle.nd_line.specs.declared.line.NamedInput.{NamedInput}
use Rattle.nd_links.specs.declared.link_error.LinkError.{LinkError}
use Rattle.nd_links.specs.declared.link_error.LinkError.TheVariants.{NoInput, NoOutput, Memory}
use Rattle.nd_links.proofs.Linked.{is_item, numbered_reach, output_missing, rows_reach}
use Rattle.nd_links.proofs.Zipped.{zip_at, zip_length, zip_push}

-- what inputs are looked up in
pub is_known : (found paths : List (List ℕ)) (names : List (List (List ℕ))) → found ≡ paths → length names ≡ length paths → AllNamesRise names → IsKnown (known_of found names)
is_known found paths names same sized rising = record { sized = sized ∙ ap (λ (ps : List (List ℕ)). length ps) (sym same); rising = rising }

-- why paths can't be numbered is a refusal over the whole
pub whole_numbered : (links : Links) (fault : GraphError) → IsNumberFault links.paths fault → IsWholeFault links fault
whole_numbered links (bundle.BadLine line) is = absurd is
whole_numbered links (bundle.BadPath line) is = absurd is
whole_numbered links (bundle.BadDerivation line) is = absurd is
whole_numbered links (bundle.UnknownOutput line) is = absurd is
whole_numbered links (bundle.BadAttribute line) is = absurd is
whole_numbered links (bundle.WrongPath line) is = absurd is
whole_numbered links (bundle.Duplicate line) is = is
whole_numbered links (bundle.MissingInput line) is = absurd is
whole_numbered links (bundle.MissingOutput line) is = absurd is
whole_numbered links bundle.Cycle is = absurd is
whole_numbered links bundle.TooMany is = absurd is
whole_numbered links bundle.Memory is = tt

-- an input derivation that is looked up
pub path_there : (known : Known) (want : NamedInput) (path : List ℕ) (node : ℕ) → path ≡ want.path → IsAt known.paths path node → HasPath known want
path_there known want path node same at = record {
  there = subst (λ (p : List ℕ). Contains known.paths p) same (node, at.within, get_or_default known.paths node path [] at.within ∙ at.is);
}

pub path_lacks : (known : Known) (want : NamedInput) (path : List ℕ) → path ≡ want.path → IsNumber known.paths path None → LacksPath known want
path_lacks known want path same none = record { missing = λ there. none (subst (λ (p : List ℕ). Contains known.paths p) (sym same) there) }

pub path_at : (known : Known) (want : NamedInput) (path : List ℕ) (node : ℕ) → path ≡ want.path → IsAt known.paths path node → IsAt known.paths want.path node
path_at known want path node same at = subst (λ (p : List ℕ). IsAt known.paths p node) same at

-- a line whose inputs have no numbers
pub row_refused : (known : Known) (wants : List NamedInput) (i : ℕ) (want : NamedInput) (fault : LinkError) → i < length wants → want ≡ get_or wants i want → IsInputFault known want fault → IsRowFault known wants fault
row_refused known wants i want NoInput lt is fault = record { want = want; asked = is_item wants i want lt is; missing = fault.missing }
row_refused known wants i want NoOutput lt is fault = record { want = want; asked = is_item wants i want lt is; lacks = fault }
row_refused known wants i want Memory lt is fault = tt

pub output_alone : (known : Known) (wants : List NamedInput) → HasInputs known.paths wants → LacksOutput known.paths known.names wants → LacksOnlyOutput known wants
output_alone known wants inputs lacks = record { inputs = inputs; lacks = lacks }

-- line by line
pub links_none : (known : Known) → AreLinks known [] []
links_none known = record { each = tt }

pub links_more : (known : Known) (wants : List (List NamedInput)) (rows : List (Result (List Input) LinkError)) (wanted : List NamedInput) (row : Result (List Input) LinkError)
    → AreLinks known wants rows → IsLink known wanted row → AreLinks known (wants ++ wanted ∷ []) (rows ++ row ∷ [])
links_more known wants rows wanted row so here = record { each = zip_push (IsLink known) wants rows wanted row so.each here }

pub links_pushed : (known : Known) (wants : List (List NamedInput)) (rows new : List (Result (List Input) LinkError)) (wanted : List NamedInput) (row : Result (List Input) LinkError) (shown : List NamedInput) → shown ≡ wanted
    → AreLinks known wants rows → new ≡ rows ++ row ∷ [] → IsLink known shown row → AreLinks known (wants ++ wanted ∷ []) new
links_pushed known wants rows new wanted row shown same so grown here =
    subst (λ (rs : List (Result (List Input) LinkError)). AreLinks known (wants ++ wanted ∷ []) rs) (sym grown)
    (links_more known wants rows wanted row so (subst (λ (w : List NamedInput). IsLink known w row) same here))

-- the search for a line without an input
pub known_none : (rows : List (Result (List Input) LinkError)) → HaveInputs rows 0
known_none rows = record { none = λ d lt. absurd (omega (arith, lt)) }

pub known_more : (rows : List (Result (List Input) LinkError)) (place : ℕ) → HaveInputs rows place → input_fault (get_or rows place no_row) ≡ None → HaveInputs rows (place + 1)
known_more rows place so here = record {
  none = λ d lt.
      elim (cases_lt d place) [
        | inl low ↦ so.none d low
        | inr past ↦
            let same : d ≡ place = omega arith in
            subst (λ (n : ℕ). input_fault (get_or rows n no_row) ≡ None) (sym same) here
      ];
}

pub all_known : (rows : List (Result (List Input) LinkError)) (place : ℕ) → HaveInputs rows place → length rows ≤ place → HaveInputs rows (length rows)
all_known rows place so all = record { none = λ d lt. so.none d (omega arith) }

pub unknown_here : (rows : List (Result (List Input) LinkError)) (place : ℕ) (fault : LinkError) (error : GraphError) → place < length rows → HaveInputs rows place → input_fault (get_or rows place no_row) ≡ Some fault
    → error ≡ link_fault_at fault (place + 1) → IsFirstUnknown rows error
unknown_here rows place fault error lt before is error_is = record { place = place; fault = fault; within = lt; before = before; is = is; error_is = error_is }

-- what a row says of its line
not_none : (fault : LinkError) → Some fault ≡ None → ⊥
not_none fault is = true≢false (sym (ap (λ (o : Option LinkError). is_none o) is))

reached : (known : Known) (wants : List NamedInput) (row : Result (List Input) LinkError) → IsLink known wants row → input_fault row ≡ None → HasInputs known.paths wants
reached known wants (Ok row) is none = numbered_reach known.paths known.names wants row is
reached known wants (Err NoInput) is none = absurd (not_none NoInput none)
reached known wants (Err NoOutput) is none = is.inputs
reached known wants (Err Memory) is none = absurd (not_none Memory none)

row_fault : (row : Result (List Input) LinkError) (fault : LinkError) → input_fault row ≡ Some fault → row ≡ Err fault
row_fault (Ok row) fault is = absurd (not_none fault (sym is))
row_fault (Err NoInput) fault is = ap (λ (e : LinkError). Err e) (ap (λ (o : Option LinkError). unwrap_or o NoInput) is)
row_fault (Err NoOutput) fault is = absurd (not_none fault (sym is))
row_fault (Err Memory) fault is = ap (λ (e : LinkError). Err e) (ap (λ (o : Option LinkError). unwrap_or o NoInput) is)

reached_at : (known : Known) (wants : List (List NamedInput)) (rows : List (Result (List Input) LinkError)) (place : ℕ) → AreLinks known wants rows → HaveInputs rows place → (d : ℕ) → d < place → d < length wants → HasInputs known.paths (get_or wants d [])
reached_at known wants rows place links have d low lt = reached known (get_or wants d []) (get_or rows d no_row) (zip_at (IsLink known) wants rows d [] no_row links.each lt) (have.none d low)

-- the first line without an input is refused
unknown_by : (paths : List (List ℕ)) (names : List (List (List ℕ))) (wants : List (List NamedInput)) (rows : List (Result (List Input) LinkError)) (place : ℕ) (fault : LinkError) → AreLinks (known_of paths names) wants rows → place < length rows
    → HaveInputs rows place → input_fault (get_or rows place no_row) ≡ Some fault → IsLinkFault paths names wants (link_fault_at fault (place + 1))
unknown_by paths names wants rows place NoInput links lt before is =
    let long : length wants ≡ length rows = zip_length (IsLink (known_of paths names)) wants rows links.each in
    let within : place < length wants = omega arith in
    let here : IsLink (known_of paths names) (get_or wants place []) (get_or rows place no_row) = zip_at (IsLink (known_of paths names)) wants rows place [] no_row links.each within in
    record {
      place = place;
      within = within;
      before = λ d low. reached_at (known_of paths names) wants rows place links before d low (omega arith);
      lacks = subst (λ (r : Result (List Input) LinkError). IsLink (known_of paths names) (get_or wants place []) r) (row_fault (get_or rows place no_row) NoInput is) here;
      number = refl;
    }
unknown_by paths names wants rows place NoOutput links lt before is =
    absurd (not_none NoOutput (sym is ∙ ap (λ (r : Result (List Input) LinkError). input_fault r) (row_fault (get_or rows place no_row) NoOutput is)))
unknown_by paths names wants rows place Memory links lt before is = tt

-- lines that were linked, before others
zip_linked : (known : Known) (wants : List (List NamedInput)) (inputs : List (List Input)) → AllZip (IsLink known) wants (map linked inputs) → AllZip (AreNumbered known.paths known.names) wants inputs
zip_linked known [] [] zip = tt
zip_linked known [] (x ∷ inputs) zip = absurd zip
zip_linked known (w ∷ wants) [] zip = absurd zip
zip_linked known (w ∷ wants) (x ∷ inputs) zip = (zip.0, zip_linked known wants inputs zip.1)

zip_front : (known : Known) (wants : List (List NamedInput)) (before : List (List Input)) (behind : List (Result (List Input) LinkError)) → AllZip (IsLink known) wants (map linked before ++ behind)
    → AllZip (AreNumbered known.paths known.names) (take (length before) wants) before
zip_front known wants [] behind zip = tt
zip_front known [] (x ∷ before) behind zip = absurd zip
zip_front known (w ∷ wants) (x ∷ before) behind zip = (zip.0, zip_front known wants before behind zip.1)

zip_here : (known : Known) (wants : List (List NamedInput)) (before : List (List Input)) (row : Result (List Input) LinkError) (behind : List (Result (List Input) LinkError)) → AllZip (IsLink known) wants (map linked before ++ row ∷ behind)
    → (length before < length wants) × IsLink known (get_or wants (length before) []) row
zip_here known [] [] row behind zip = absurd zip
zip_here known [] (x ∷ before) row behind zip = absurd zip
zip_here known (w ∷ wants) [] row behind zip = (omega arith, zip.0)
zip_here known (w ∷ wants) (x ∷ before) row behind zip =
    let rest = zip_here known wants before row behind zip.1 in
    (omega (arith, rest.0), rest.1)

-- the first line without an output is refused
unlinked_by : (paths : List (List ℕ)) (names : List (List (List ℕ))) (wants : List (List NamedInput)) (before : List (List Input)) (fault : LinkError) (behind : List (Result (List Input) LinkError)) → AreInputsThere paths wants
    → AllZip (IsLink (known_of paths names)) wants (map linked before ++ Err fault ∷ behind) → input_fault (Err fault) ≡ None → IsLinkFault paths names wants (link_fault_at fault (length before + 1))
unlinked_by paths names wants before NoInput behind there zip none = absurd (not_none NoInput none)
unlinked_by paths names wants before NoOutput behind there zip none =
    let here = zip_here (known_of paths names) wants before (Err NoOutput) behind zip in
    let wanted : List NamedInput = get_or wants (length before) [] in
    let front : AllNumbered paths names (take (length before) wants) before = record { each = zip_front (known_of paths names) wants before (Err NoOutput ∷ behind) zip } in
    (there, output_missing paths names wants before (length before) wanted here.0 (get_or_default wants (length before) [] wanted here.0) front here.1.lacks)
unlinked_by paths names wants before Memory behind there zip none = absurd (not_none Memory none)

unlinked_refused : (paths : List (List ℕ)) (names : List (List (List ℕ))) (wants : List (List NamedInput)) (rows : List (Result (List Input) LinkError)) (error : GraphError) → AreLinks (known_of paths names) wants rows
    → HaveInputs rows (length rows) → IsUnlinked rows error → IsLinkFault paths names wants error
unlinked_refused paths names wants rows error links have (of_memory is) = subst (λ (e : GraphError). IsLinkFault paths names wants e) (sym is) tt
unlinked_refused paths names wants rows error links have (of_line first) =
    let known : Known = known_of paths names in
    let long : length wants ≡ length rows = zip_length (IsLink known) wants rows links.each in
    let there : AreInputsThere paths wants = record { there = λ d lt. reached_at known wants rows (length rows) links have d (omega arith) lt } in
    let zip = subst (λ (rs : List (Result (List Input) LinkError)). AllZip (IsLink known) wants rs) first.parts links.each in
    let at : get_or rows (length first.before) no_row ≡ Err first.fault =
    ap (λ (rs : List (Result (List Input) LinkError)). get_or rs (length first.before) no_row) first.parts ∙ get_or_at (map linked first.before) (Err first.fault) first.behind no_row (length first.before) (length-map first.before linked) in
    let here = zip_here known wants first.before (Err first.fault) first.behind zip in
    let none : input_fault (Err first.fault) ≡ None = sym (ap (λ (r : Result (List Input) LinkError). input_fault r) at) ∙ have.none (length first.before) (omega (arith, here.0)) in
    subst (λ (e : GraphError). IsLinkFault paths names wants e) (sym first.error_is) (unlinked_by paths names wants first.before first.fault first.behind there zip none)

ungathered : (paths : List (List ℕ)) (names : List (List (List ℕ))) (wants : List (List NamedInput)) (rows : List (Result (List Input) LinkError)) (error : GraphError) → AreLinks (known_of paths names) wants rows → IsUngathered rows error → IsLinkFault paths names wants error
ungathered paths names wants rows error links (of_input first) =
    subst (λ (e : GraphError). IsLinkFault paths names wants e) (sym first.error_is) (unknown_by paths names wants rows first.place first.fault links first.within first.before first.is)
ungathered paths names wants rows error links (of_output have unlinked) = unlinked_refused paths names wants rows error links have unlinked

pub resolved_all : (known : Known) (wants : List (List NamedInput)) (rows : List (Result (List Input) LinkError)) (inputs : List (List Input)) → AreLinks known wants rows → AreAllLinked rows inputs → IsResolved known.paths known.names wants inputs
resolved_all known wants rows inputs links linked_all =
    let zip = subst (λ (rs : List (Result (List Input) LinkError)). AllZip (IsLink known) wants rs) linked_all.all links.each in
    let all : AllNumbered known.paths known.names wants inputs = record { each = zip_linked known wants inputs zip } in
    record { there = rows_reach known.paths known.names wants inputs all; numbered = all }

pub not_resolved : (known : Known) (wants : List (List NamedInput)) (rows : List (Result (List Input) LinkError)) (error : GraphError) → AreLinks known wants rows → IsUngathered rows error → IsLinkFault known.paths known.names wants error
not_resolved known wants rows error links why = ungathered known.paths known.names wants rows error links why

-- a line without an output, after lines that were linked
pub line_unlinked : (rows : List (Result (List Input) LinkError)) (inputs : List (List Input)) (fault : LinkError) (behind : List (Result (List Input) LinkError)) (error : GraphError) → rows ≡ map linked inputs ++ Err fault ∷ behind
    → error ≡ link_fault_at fault (length inputs + 1) → IsUnlinked rows error
line_unlinked rows inputs fault behind error parts is = of_line (record { before = inputs; fault = fault; behind = behind; parts = parts; error_is = is })

-- the search for a line without an input failed, or found one
pub input_ungathered : (shown rows : List (Result (List Input) LinkError)) (error : GraphError) → shown ≡ rows → IsFirstUnknown shown error → IsUngathered rows error
input_ungathered shown rows error same first = of_input (subst (λ (rs : List (Result (List Input) LinkError)). IsFirstUnknown rs error) same first)

pub output_ungathered : (shown rows : List (Result (List Input) LinkError)) (error : GraphError) → shown ≡ rows → HaveInputs shown (length shown) → IsUnlinked rows error → IsUngathered rows error
output_ungathered shown rows error same have unlinked = of_output (subst (λ (rs : List (Result (List Input) LinkError)). HaveInputs rs (length rs)) same have) unlinked

-- why lines aren't linked is a refusal over the whole
pub link_whole : (links : Links) (error : GraphError) → AreDistinct links.paths → IsLinkFault links.paths links.names links.wants error → IsWholeFault links error
link_whole links (bundle.BadLine line) distinct is = absurd is
link_whole links (bundle.BadPath line) distinct is = absurd is
link_whole links (bundle.BadDerivation line) distinct is = absurd is
link_whole links (bundle.UnknownOutput line) distinct is = absurd is
link_whole links (bundle.BadAttribute line) distinct is = absurd is
link_whole links (bundle.WrongPath line) distinct is = absurd is
link_whole links (bundle.Duplicate line) distinct is = absurd is
link_whole links (bundle.MissingInput line) distinct is = (distinct, is)
link_whole links (bundle.MissingOutput line) distinct is = (distinct, is.0, is.1)
link_whole links bundle.Cycle distinct is = absurd is
link_whole links bundle.TooMany distinct is = absurd is
link_whole links bundle.Memory distinct is = tt
