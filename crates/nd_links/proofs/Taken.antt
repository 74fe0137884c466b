-- The nodes of lines, put in lists with one item each.
use Rattle.std.proofs.Common.{◌≡◌, ℕ, Bool, true, false, List, [], ◌∷◌, ◌++◌, length, map, sym, ap, subst, ◌∙◌}
use Rattle.std.proofs.lemmas.List.{length-map, map-append}
use Rattle.std.specs.List.{AllZip}
use Rattle.nd_links.specs.Columned.{AreKept, AreNeeds, HasColumns, HasDetails, HasSameNodes, IsAppended}
use Rattle.nd_links.specs.Placing.{AddsNeed, ArePlaced, IsPlaced, JoinsNeeds}
use Rattle.nd_links.specs.declared.shared_needs.SharedNeeds.{SharedNeeds}
use Rattle.nd_eligible.specs.declared.need.Need.{Need}
use Rattle.nd_links.specs.declared.details.Details.{Details}
use Rattle.nd_links.specs.declared.columns.Columns.{Columns}
use Rattle.nd_line.specs.declared.line.LineNode.{LineNode}

-- one more of each part
more_of : {A : Type 0} (part : LineNode → A) (old new : List A) (nodes : List LineNode) (node : LineNode) → new ≡ old ++ part node ∷ [] → old ≡ map part nodes → new ≡ map part (nodes ++ node ∷ [])
more_of part old new nodes node grown so = grown ∙ ap (λ xs. xs ++ part node ∷ []) so ∙ sym (map-append part nodes (node ∷ []))

-- what is kept of paths, where the one list is the other
kept_same : (whole : Bool) (kept same said : List (List (List ℕ))) → same ≡ kept → AreKept whole kept said → AreKept whole same said
kept_same true kept same said is so = is ∙ so
kept_same false kept same said is so = tt

-- .. and all of it
kept_all : (whole : Bool) (kept said : List (List (List ℕ))) → kept ≡ said → AreKept whole kept said
kept_all true kept said is = is
kept_all false kept said is = tt

-- .. or nothing
kept_none : (whole : Bool) (kept said : List (List (List ℕ))) → whole ≡ false → AreKept whole kept said
kept_none whole kept said none = subst (λ (w : Bool). AreKept w kept said) (sym none) tt

-- .. where all is kept
kept_whole : (whole : Bool) (kept said : List (List (List ℕ))) → whole ≡ true → AreKept whole kept said → kept ≡ said
kept_whole whole kept said all so = let P : Bool → Type 0 = λ w. AreKept w kept said in subst P all so

-- the needs of no node
no_needs : (whole : Bool) (details : Details) → details.needs.items ≡ [] → details.shared.table.items ≡ [] → details.shared.places.items ≡ [] → AreNeeds whole details []
no_needs true details needs table places = needs
no_needs false details needs table places = record { each = subst (λ (ps : List ℕ). AllZip (IsPlaced details.shared.table.items) [] ps) (sym places) tt }

-- .. where all is kept
needs_whole : (whole : Bool) (details : Details) (said : List Need) → whole ≡ true → AreNeeds whole details said → details.needs.items ≡ said
needs_whole whole details said all so = let P : Bool → Type 0 = λ w. AreNeeds w details said in subst P all so

are_needs_whole : (whole : Bool) (details : Details) (said : List Need) → whole ≡ true → details.needs.items ≡ said → AreNeeds whole details said
are_needs_whole whole details said all so = let P : Bool → Type 0 = λ w. AreNeeds w details said in subst P (sym all) so

-- .. and where they are shared
needs_shared : (whole : Bool) (details : Details) (said : List Need) → whole ≡ false → AreNeeds whole details said → ArePlaced details.shared.table.items details.shared.places.items said
needs_shared whole details said none so = let P : Bool → Type 0 = λ w. AreNeeds w details said in subst P none so

are_needs_shared : (whole : Bool) (details : Details) (said : List Need) → whole ≡ false → ArePlaced details.shared.table.items details.shared.places.items said → AreNeeds whole details said
are_needs_shared whole details said none so = let P : Bool → Type 0 = λ w. AreNeeds w details said in subst P (sym none) so

-- .. are the same in the same lists
needs_same : (whole : Bool) (old new : Details) (said : List Need) → new.needs.items ≡ old.needs.items → new.shared ≡ old.shared → AreNeeds whole old said → AreNeeds whole new said
needs_same true old new said needs shared so = needs ∙ so
needs_same false old new said needs shared so = subst (λ (s : SharedNeeds). ArePlaced s.table.items s.places.items said) (sym shared) so

-- the details of no node
pub no_details : (whole : Bool) (details : Details) → details.needs.items ≡ [] → details.shared.table.items ≡ [] → details.shared.places.items ≡ [] → details.wants.items ≡ [] → details.sources.items ≡ [] → details.names.items ≡ [] → details.outputs.items ≡ [] → HasDetails whole [] details
no_details whole details needs table places wants sources names outputs = record {
  needs = no_needs whole details needs table places;
  wants = wants;
  sources = kept_all whole details.sources.items [] sources;
  names = names;
  outputs = kept_all whole details.outputs.items [] outputs;
}

pub pushed : (whole : Bool) (old new : Columns) (nodes : List LineNode) (node : LineNode) → whole ≡ true → new.paths.items ≡ old.paths.items ++ node.path ∷ [] → new.details.needs.items ≡ old.details.needs.items ++ node.need ∷ [] → new.details.wants.items ≡ old.details.wants.items ++ node.inputs ∷ []
    → new.details.sources.items ≡ old.details.sources.items ++ node.sources ∷ [] → new.details.names.items ≡ old.details.names.items ++ node.output_names ∷ [] → new.details.outputs.items ≡ old.details.outputs.items ++ node.outputs ∷ []
    → HasColumns whole nodes old → HasColumns whole (nodes ++ node ∷ []) new
pushed whole old new nodes node all paths needs wants sources names outputs has = record {
  paths = more_of (λ (n : LineNode). n.path) old.paths.items new.paths.items nodes node paths has.paths;
  details = record {
    needs =
        are_needs_whole whole new.details (map (λ (n : LineNode). n.need) (nodes ++ node ∷ [])) all
        (more_of (λ (n : LineNode). n.need) old.details.needs.items new.details.needs.items nodes node needs (needs_whole whole old.details (map (λ (n : LineNode). n.need) nodes) all has.details.needs));
    wants = more_of (λ (n : LineNode). n.inputs) old.details.wants.items new.details.wants.items nodes node wants has.details.wants;
    sources =
        kept_all whole new.details.sources.items (map (λ (n : LineNode). n.sources) (nodes ++ node ∷ []))
        (more_of (λ (n : LineNode). n.sources) old.details.sources.items new.details.sources.items nodes node sources (kept_whole whole old.details.sources.items (map (λ (n : LineNode). n.sources) nodes) all has.details.sources));
    names = more_of (λ (n : LineNode). n.output_names) old.details.names.items new.details.names.items nodes node names has.details.names;
    outputs =
        kept_all whole new.details.outputs.items (map (λ (n : LineNode). n.outputs) (nodes ++ node ∷ []))
        (more_of (λ (n : LineNode). n.outputs) old.details.outputs.items new.details.outputs.items nodes node outputs (kept_whole whole old.details.outputs.items (map (λ (n : LineNode). n.outputs) nodes) all has.details.outputs));
  };
}

-- .. but for the paths of sources and outputs
pub pushed_links : (whole : Bool) (old new : Columns) (nodes : List LineNode) (node : LineNode) → whole ≡ false → new.paths.items ≡ old.paths.items ++ node.path ∷ [] → AddsNeed node.need old.details.shared new.details.shared → new.details.wants.items ≡ old.details.wants.items ++ node.inputs ∷ []
    → new.details.names.items ≡ old.details.names.items ++ node.output_names ∷ [] → HasColumns whole nodes old → HasColumns whole (nodes ++ node ∷ []) new
pushed_links whole old new nodes node none paths needs wants names has = record {
  paths = more_of (λ (n : LineNode). n.path) old.paths.items new.paths.items nodes node paths has.paths;
  details = record {
    needs =
        are_needs_shared whole new.details (map (λ (n : LineNode). n.need) (nodes ++ node ∷ [])) none
        (subst (λ (ns : List Need). ArePlaced new.details.shared.table.items new.details.shared.places.items ns) (sym (map-append (λ (n : LineNode). n.need) nodes (node ∷ [])))
        (needs.adds (map (λ (n : LineNode). n.need) nodes) (needs_shared whole old.details (map (λ (n : LineNode). n.need) nodes) none has.details.needs)));
    wants = more_of (λ (n : LineNode). n.inputs) old.details.wants.items new.details.wants.items nodes node wants has.details.wants;
    sources = kept_none whole new.details.sources.items (map (λ (n : LineNode). n.sources) (nodes ++ node ∷ [])) none;
    names = more_of (λ (n : LineNode). n.output_names) old.details.names.items new.details.names.items nodes node names has.details.names;
    outputs = kept_none whole new.details.outputs.items (map (λ (n : LineNode). n.outputs) (nodes ++ node ∷ [])) none;
  };
}

-- room for more nodes
pub reserved : (old new : Details) → new.needs.items ≡ old.needs.items → new.shared ≡ old.shared → new.wants.items ≡ old.wants.items → new.sources.items ≡ old.sources.items → new.names.items ≡ old.names.items → new.outputs.items ≡ old.outputs.items → HasSameNodes old new
reserved old new needs shared wants sources names outputs = record {
  has = λ whole nodes has. record {
    needs = needs_same whole old new (map (λ (n : LineNode). n.need) nodes) needs shared has.needs;
    wants = wants ∙ has.wants;
    sources = kept_same whole old.sources.items new.sources.items (map (λ (n : LineNode). n.sources) nodes) sources has.sources;
    names = names ∙ has.names;
    outputs = kept_same whole old.outputs.items new.outputs.items (map (λ (n : LineNode). n.outputs) nodes) outputs has.outputs;
  };
}

-- those of other nodes behind them
joined_of : {A : Type 0} (part : LineNode → A) (old others new : List A) (some more : List LineNode) → new ≡ old ++ others → old ≡ map part some → others ≡ map part more → new ≡ map part (some ++ more)
joined_of part old others new some more grown so also = grown ∙ ap (λ xs. xs ++ others) so ∙ ap (λ xs. map part some ++ xs) also ∙ sym (map-append part some more)

-- .. where they are kept
kept_joined : (part : LineNode → List (List ℕ)) (whole : Bool) (old others new : List (List (List ℕ))) (some more : List LineNode) → new ≡ old ++ others → AreKept whole old (map part some) → AreKept whole others (map part more) → AreKept whole new (map part (some ++ more))
kept_joined part true old others new some more grown so also = joined_of part old others new some more grown so also
kept_joined part false old others new some more grown so also = tt

needs_joined : (whole : Bool) (old others new : Details) (some more : List LineNode) → new.needs.items ≡ old.needs.items ++ others.needs.items → JoinsNeeds old.shared others.shared new.shared → AreNeeds whole old (map (λ (n : LineNode). n.need) some) → AreNeeds whole others (map (λ (n : LineNode). n.need) more)
    → AreNeeds whole new (map (λ (n : LineNode). n.need) (some ++ more))
needs_joined true old others new some more grown joins so also = joined_of (λ (n : LineNode). n.need) old.needs.items others.needs.items new.needs.items some more grown so also
needs_joined false old others new some more grown joins so also =
    subst (λ (ns : List Need). ArePlaced new.shared.table.items new.shared.places.items ns) (sym (map-append (λ (n : LineNode). n.need) some more))
    (joins.joins (map (λ (n : LineNode). n.need) some) (map (λ (n : LineNode). n.need) more) so also)

pub appended : (old others new : Details) → new.needs.items ≡ old.needs.items ++ others.needs.items → JoinsNeeds old.shared others.shared new.shared → new.wants.items ≡ old.wants.items ++ others.wants.items → new.sources.items ≡ old.sources.items ++ others.sources.items
    → new.names.items ≡ old.names.items ++ others.names.items → new.outputs.items ≡ old.outputs.items ++ others.outputs.items → IsAppended old others new
appended old others new needs shared wants sources names outputs = record {
  has = λ whole some more has also. record {
    needs = needs_joined whole old others new some more needs shared has.needs also.needs;
    wants = joined_of (λ (n : LineNode). n.inputs) old.wants.items others.wants.items new.wants.items some more wants has.wants also.wants;
    sources = kept_joined (λ (n : LineNode). n.sources) whole old.sources.items others.sources.items new.sources.items some more sources has.sources also.sources;
    names = joined_of (λ (n : LineNode). n.output_names) old.names.items others.names.items new.names.items some more names has.names also.names;
    outputs = kept_joined (λ (n : LineNode). n.outputs) whole old.outputs.items others.outputs.items new.outputs.items some more outputs has.outputs also.outputs;
  };
}

-- as many details as nodes
pub many : (whole : Bool) (nodes : List LineNode) (details : Details) → HasDetails whole nodes details → length details.names.items ≡ length nodes
many whole nodes details has = ap (λ (xs : List (List (List ℕ))). length xs) has.names ∙ length-map nodes (λ (n : LineNode). n.output_names)
