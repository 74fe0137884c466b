-- From what was read of each line to the bundle.
use Rattle.std.proofs.Common.{◌≡◌, ℕ, ◌≤◌, Bool, false, List, [], length, map, refl, get_or, Result, Ok, Err, IfOk, sym, ap, ◌∙◌, subst, arith}
use Rattle.std.specs.List.{AllZip}
use Rattle.std.proofs.lemmas.List.{length-map}
use Rattle.nd_aterm.specs.declared.records.Output.{Output}
use Rattle.nd_bundle.specs.Bundles.{IsBundle, IsFirstFault, IsLineRefused}
use Rattle.nd_graph.specs.Graphs.{Nodes, node_limit, nodes_with, rows_of, IsSound}
use Rattle.nd_graph.specs.Walks.{AreDistinct, IsAcyclic}
use Rattle.nd_links.specs.declared.columns.Columns.{Columns}
use Rattle.nd_bundle.specs.Lines.{lines}
use Rattle.nd_bundle.specs.Needed.{HasNeeds}
use Rattle.nd_links.specs.Numbered.{fault_at}
use Rattle.nd_links.specs.Placing.{ArePlaced, Placed}
use Rattle.nd_eligible.specs.declared.need.Need.{Need}
use Rattle.nd_line.specs.Reads.{IsLine}
use Rattle.nd_bundle.specs.Said.{for_graph, for_needs, SayColumns, SayNumbered, SayRows}
use Rattle.nd_links.specs.Numbering.{IsNumberFault}
use Rattle.nd_links.specs.declared.details.Details.{Details}
use Rattle.nd_bundle.specs.declared.found.Numbered.{Numbered}
use Rattle.nd_bundle.specs.declared.manner.Manner.{Manner}
use Rattle.nd_bundle.specs.Reading.{Reading}
use Rattle.nd_bundle.specs.ReadingLines.{ReadingLines}
use Rattle.nd_bundle.specs.Told.{reading_of}
use Rattle.nd_links.specs.Settled.{links_in, AllNamesRise, AreFit, AreLinksSized, AreNeedsOfRows, ArePaired, AreSized, IsFit, IsGraphOfRows}
use Rattle.nd_links.specs.Whole.{links_of, AllNumbered, IsWholeFault, Links}
use Rattle.nd_links.specs.declared.fault.GraphError.{GraphError}
use Rattle.nd_links.specs.declared.fault.GraphError.TheVariants as bundle
use Rattle.nd_line.specs.declared.line.LineNode.{LineNode}
use Rattle.nd_line.specs.declared.refusal.LineError.{LineError}
use Rattle.nd_line.specs.declared.refusal.LineError.TheVariants.{BadLine, BadPath, BadDerivation, UnknownOutput, BadAttribute, WrongPath, Memory}
use Rattle.nd_bundle.proofs.Assembled.{links_sized, nodes_sound, rows_paired, rows_rising, rows_sized}
use Rattle.nd_line.proofs.Rising.{names_rise}
use Rattle.nd_links.proofs.Zipped.{zip_at, zip_length}

-- a line's node has as many output names as output paths, and its output names rise
node_fit : (check : Bool) (line : List ℕ) (node : LineNode) → IsLine check line node → IsFit node
node_fit check line node is =
    let has = is.is_node.tells.has in
    let outputs : List Output = is.is_node.parts.outputs in
    record {
      paired = ap (λ (xs : List (List ℕ)). length xs) has.output_names ∙ length-map outputs (λ (o : Output). o.name)
          ∙ sym (ap (λ (xs : List (List ℕ)). length xs) has.outputs ∙ length-map outputs (λ (o : Output). o.path));
      rising = record { rises = names_rise check line node is };
    }

-- .. of each line
pub nodes_fit : (check : Bool) (ls : List (List ℕ)) (nodes : List LineNode) → AllZip (IsLine check) ls nodes → AreFit nodes
nodes_fit check ls nodes zip = record {
  fit = λ node on.
      let long : length ls ≡ length nodes = zip_length (IsLine check) ls nodes zip in
      let at : IsLine check (get_or ls on.0 []) (get_or nodes on.0 node) = zip_at (IsLine check) ls nodes on.0 [] node zip (omega (arith, on.1)) in
      node_fit check (get_or ls on.0 []) node (subst (λ (n : LineNode). IsLine check (get_or ls on.0 []) n) on.2 at);
}

pub line_error : (check : Bool) (text : List ℕ) (fault : LineError) (n : ℕ) → IsLineRefused check text fault n → IsFirstFault check text (fault_at fault n)
line_error check text BadLine n is = is
line_error check text BadPath n is = is
line_error check text BadDerivation n is = is
line_error check text UnknownOutput n is = is
line_error check text BadAttribute n is = is
line_error check text WrongPath n is = is
line_error check text Memory n is = tt

whole_fault : (check : Bool) (text : List ℕ) (nodes : List LineNode) (error : GraphError) → AllZip (IsLine check) (lines text) nodes → IsWholeFault (links_of nodes) error → IsFirstFault check text error
whole_fault check text nodes (bundle.BadLine n) says is = absurd is
whole_fault check text nodes (bundle.BadPath n) says is = absurd is
whole_fault check text nodes (bundle.BadDerivation n) says is = absurd is
whole_fault check text nodes (bundle.UnknownOutput n) says is = absurd is
whole_fault check text nodes (bundle.BadAttribute n) says is = absurd is
whole_fault check text nodes (bundle.WrongPath n) says is = absurd is
whole_fault check text nodes (bundle.Duplicate n) says is = record { nodes = nodes; says = says; refused = is }
whole_fault check text nodes (bundle.MissingInput n) says is = record { nodes = nodes; says = says; refused = is }
whole_fault check text nodes (bundle.MissingOutput n) says is = record { nodes = nodes; says = says; refused = is }
whole_fault check text nodes bundle.Cycle says is = record { nodes = nodes; says = says; refused = is }
whole_fault check text nodes bundle.TooMany says is = record { nodes = nodes; says = says; refused = is }
whole_fault check text nodes bundle.Memory says is = tt

-- ---- from what lines say to the bundle

rows_links : (manner : Manner) (ls : List (List ℕ)) (paths : List (List ℕ)) (details : Details) (so : SayRows manner ls paths details) → links_in paths details ≡ links_of so.nodes
rows_links manner ls paths details so = λ j. record { paths = so.paths_are j; wants = so.has.wants j; names = so.has.names j }

said_sized : (check : Bool) (ls : List (List ℕ)) (paths : List (List ℕ)) (details : Details) → SayRows (for_graph check) ls paths details → AreSized paths details
said_sized check ls paths details so = rows_sized so.nodes paths details so.paths_are so.has

said_paired : (check : Bool) (ls : List (List ℕ)) (paths : List (List ℕ)) (details : Details) → SayRows (for_graph check) ls paths details → ArePaired details.names.items details.outputs.items
said_paired check ls paths details so = rows_paired so.nodes details so.has (nodes_fit check ls so.nodes so.says)

said_rising : (manner : Manner) (ls : List (List ℕ)) (paths : List (List ℕ)) (details : Details) → SayRows manner ls paths details → AllNamesRise details.names.items
said_rising manner ls paths details so = rows_rising manner.whole so.nodes details so.has (nodes_fit manner.check ls so.nodes so.says)

said_bundle : (check : Bool) (text : List ℕ) (paths : List (List ℕ)) (details : Details) (graph : Nodes) → SayRows (for_graph check) (lines text) paths details → IsGraphOfRows paths details graph → IsSound graph → IsAcyclic (rows_of graph) → IsBundle check text graph
said_bundle check text paths details graph so of sound acyclic = record {
  nodes = so.nodes;
  says = so.says;
  of = record {
    paths = of.paths_are ∙ so.paths_are;
    needs = of.needs ∙ so.has.needs;
    inputs = subst (λ (ls : Links). AllNumbered ls.paths ls.names ls.wants graph.inputs) (rows_links (for_graph check) (lines text) paths details so) of.inputs;
    sources = of.sources ∙ so.has.sources;
    outputs = of.outputs ∙ so.has.outputs;
  };
  sound = sound;
  acyclic = acyclic;
}

said_fault : (manner : Manner) (text : List ℕ) (paths : List (List ℕ)) (details : Details) (error : GraphError) → SayRows manner (lines text) paths details → IsWholeFault (links_in paths details) error → IsFirstFault manner.check text error
said_fault manner text paths details error so is = whole_fault manner.check text so.nodes error so.says (subst (λ (ls : Links). IsWholeFault ls error) (rows_links manner (lines text) paths details so) is)

-- .. of an answer that may be a refusal
said_bundle_of : (check : Bool) (text : List ℕ) (paths : List (List ℕ)) (details : Details) (answer : Result Nodes GraphError) → SayRows (for_graph check) (lines text) paths details → IfOk answer (λ graph. IsGraphOfRows paths details graph) → IfOk answer (λ graph. IsSound graph)
    → IfOk answer (λ graph. IsAcyclic (rows_of graph)) → IfOk answer (λ graph. IsBundle check text graph)
said_bundle_of check text paths details (Ok graph) so of sound acyclic = said_bundle check text paths details graph so of sound acyclic
said_bundle_of check text paths details (Err error) so of sound acyclic = tt

-- ---- of columns

pub say_sized : (check : Bool) (ls : List (List ℕ)) (columns : Columns) → SayColumns (for_graph check) ls columns → AreSized columns.paths.items columns.details
say_sized check ls columns so = said_sized check ls columns.paths.items columns.details so.rows

pub say_paired : (check : Bool) (ls : List (List ℕ)) (columns : Columns) → SayColumns (for_graph check) ls columns → ArePaired columns.details.names.items columns.details.outputs.items
say_paired check ls columns so = said_paired check ls columns.paths.items columns.details so.rows

pub say_rising : (check : Bool) (ls : List (List ℕ)) (columns : Columns) → SayColumns (for_graph check) ls columns → AllNamesRise columns.details.names.items
say_rising check ls columns so = said_rising (for_graph check) ls columns.paths.items columns.details so.rows

pub is_bundle : (check : Bool) (text : List ℕ) (columns : Columns) (graph : Nodes) → SayColumns (for_graph check) (lines text) columns → IsGraphOfRows columns.paths.items columns.details graph → IsSound graph → IsAcyclic (rows_of graph) → IsBundle check text graph
is_bundle check text columns graph so of sound acyclic = said_bundle check text columns.paths.items columns.details graph so.rows of sound acyclic

pub bundle_of : (check : Bool) (text : List ℕ) (columns : Columns) (answer : Result Nodes GraphError) → SayColumns (for_graph check) (lines text) columns → IfOk answer (λ graph. IsGraphOfRows columns.paths.items columns.details graph) → IfOk answer (λ graph. IsSound graph)
    → IfOk answer (λ graph. IsAcyclic (rows_of graph)) → IfOk answer (λ graph. IsBundle check text graph)
bundle_of check text columns answer so of sound acyclic = said_bundle_of check text columns.paths.items columns.details answer so.rows of sound acyclic

pub first_fault : (check : Bool) (text : List ℕ) (columns : Columns) (error : GraphError) → SayColumns (for_graph check) (lines text) columns → IsWholeFault (links_in columns.paths.items columns.details) error → IsFirstFault check text error
first_fault check text columns error so is = said_fault (for_graph check) text columns.paths.items columns.details error so.rows is

-- ---- of nodes whose paths are numbered

pub numbered_distinct : (check : Bool) (ls : List (List ℕ)) (numbered : Numbered) → SayNumbered (for_graph check) ls numbered → AreDistinct numbered.paths.keys
numbered_distinct check ls numbered so = so.distinct

pub numbered_sized : (check : Bool) (ls : List (List ℕ)) (numbered : Numbered) → SayNumbered (for_graph check) ls numbered → AreSized numbered.paths.keys numbered.details
numbered_sized check ls numbered so = said_sized check ls numbered.paths.keys numbered.details so.rows

pub numbered_paired : (check : Bool) (ls : List (List ℕ)) (numbered : Numbered) → SayNumbered (for_graph check) ls numbered → ArePaired numbered.details.names.items numbered.details.outputs.items
numbered_paired check ls numbered so = said_paired check ls numbered.paths.keys numbered.details so.rows

pub numbered_rising : (check : Bool) (ls : List (List ℕ)) (numbered : Numbered) → SayNumbered (for_graph check) ls numbered → AllNamesRise numbered.details.names.items
numbered_rising check ls numbered so = said_rising (for_graph check) ls numbered.paths.keys numbered.details so.rows

pub numbered_bundle : (check : Bool) (text : List ℕ) (numbered : Numbered) (graph : Nodes) → SayNumbered (for_graph check) (lines text) numbered → IsGraphOfRows numbered.paths.keys numbered.details graph → IsSound graph → IsAcyclic (rows_of graph) → IsBundle check text graph
numbered_bundle check text numbered graph so of sound acyclic = said_bundle check text numbered.paths.keys numbered.details graph so.rows of sound acyclic

pub numbered_bundle_of : (check : Bool) (text : List ℕ) (numbered : Numbered) (answer : Result Nodes GraphError) → SayNumbered (for_graph check) (lines text) numbered → IfOk answer (λ graph. IsGraphOfRows numbered.paths.keys numbered.details graph) → IfOk answer (λ graph. IsSound graph)
    → IfOk answer (λ graph. IsAcyclic (rows_of graph)) → IfOk answer (λ graph. IsBundle check text graph)
numbered_bundle_of check text numbered answer so of sound acyclic = said_bundle_of check text numbered.paths.keys numbered.details answer so.rows of sound acyclic

pub numbered_fault : (check : Bool) (text : List ℕ) (numbered : Numbered) (error : GraphError) → SayNumbered (for_graph check) (lines text) numbered → IsWholeFault (links_in numbered.paths.keys numbered.details) error → IsFirstFault check text error
numbered_fault check text numbered error so is = said_fault (for_graph check) text numbered.paths.keys numbered.details error so.rows is

-- ---- .. and of which the needs alone are wanted

pub needs_sized : (check : Bool) (ls : List (List ℕ)) (numbered : Numbered) → SayNumbered (for_needs check) ls numbered → AreLinksSized numbered.paths.keys numbered.details
needs_sized check ls numbered so = links_sized false so.rows.nodes numbered.paths.keys numbered.details so.rows.paths_are so.rows.has

pub needs_rising : (check : Bool) (ls : List (List ℕ)) (numbered : Numbered) → SayNumbered (for_needs check) ls numbered → AllNamesRise numbered.details.names.items
needs_rising check ls numbered so = said_rising (for_needs check) ls numbered.paths.keys numbered.details so.rows

pub needs_distinct : (check : Bool) (ls : List (List ℕ)) (numbered : Numbered) → SayNumbered (for_needs check) ls numbered → AreDistinct numbered.paths.keys
needs_distinct check ls numbered so = so.distinct

pub needs_fault : (check : Bool) (text : List ℕ) (numbered : Numbered) (error : GraphError) → SayNumbered (for_needs check) (lines text) numbered → IsWholeFault (links_in numbered.paths.keys numbered.details) error → IsFirstFault check text error
needs_fault check text numbered error so is = said_fault (for_needs check) text numbered.paths.keys numbered.details error so.rows is

-- the graph of nodes whose needs these are
pub has_needs : (check : Bool) (text : List ℕ) (numbered : Numbered) (needs : Placed) → SayNumbered (for_needs check) (lines text) numbered → AreNeedsOfRows numbered.paths.keys numbered.details needs → HasNeeds check text needs
has_needs check text numbered needs so of =
    let nodes : List LineNode = so.rows.nodes in
    let paths : List (List ℕ) = map (λ (n : LineNode). n.path) nodes in
    let numbers = subst (λ (ls : Links). AllNumbered ls.paths ls.names ls.wants of.inputs) (rows_links (for_needs check) (lines text) numbered.paths.keys numbered.details so.rows) of.numbered in
    record {
      graph = nodes_with paths (map (λ (n : LineNode). n.need) nodes) of.inputs (map (λ (n : LineNode). n.sources) nodes) (map (λ (n : LineNode). n.outputs) nodes);
      bundle = record {
        nodes = nodes;
        says = so.rows.says;
        of = record { paths = refl; needs = refl; inputs = numbers; sources = refl; outputs = refl };
        sound = nodes_sound nodes of.inputs (subst (λ (ps : List (List ℕ)). length ps ≤ node_limit) so.rows.paths_are of.few)
            (subst (λ (ps : List (List ℕ)). AreDistinct ps) so.rows.paths_are so.distinct) numbers (nodes_fit check (lines text) nodes so.rows.says);
        acyclic = of.acyclic;
      };
      placed =
          subst (λ (ps : List ℕ). ArePlaced needs.table ps (map (λ (n : LineNode). n.need) nodes)) (sym of.places)
          (subst (λ (t : List Need). ArePlaced t numbered.details.shared.places.items (map (λ (n : LineNode). n.need) nodes)) (sym of.table) so.rows.has.needs);
    }

pub has_needs_of : (check : Bool) (text : List ℕ) (numbered : Numbered) (answer : Result Placed GraphError) → SayNumbered (for_needs check) (lines text) numbered → IfOk answer (λ needs. AreNeedsOfRows numbered.paths.keys numbered.details needs) → IfOk answer (λ needs. HasNeeds check text needs)
has_needs_of check text numbered (Ok needs) so of = has_needs check text numbered needs so of
has_needs_of check text numbered (Err error) so of = tt

-- ---- what readers of parts show

pub says_as : (reading : Reading) (lines_read : ReadingLines) (numbered : Numbered) (read : Bool → Manner) → reading_of lines_read ≡ reading → lines_read.manner ≡ read lines_read.manner.check → SayNumbered lines_read.manner (lines lines_read.text) numbered
    → SayNumbered (read reading.check) (lines reading.text) numbered
says_as reading lines_read numbered read shown is so =
    subst (λ (r : Reading). SayNumbered (read r.check) (lines r.text) numbered) shown (subst (λ (m : Manner). SayNumbered m (lines lines_read.text) numbered) is so)

pub fault_as : (reading : Reading) (lines_read : ReadingLines) (fault : GraphError) → reading_of lines_read ≡ reading → IsFirstFault lines_read.manner.check lines_read.text fault → IsFirstFault reading.check reading.text fault
fault_as reading lines_read fault shown first = subst (λ (r : Reading). IsFirstFault r.check r.text fault) shown first

-- ---- a path that stands twice

pub twice_fault : (check : Bool) (text : List ℕ) (nodes : List LineNode) (error : GraphError) → AllZip (IsLine check) (lines text) nodes → IsNumberFault (map (λ (n : LineNode). n.path) nodes) error → IsFirstFault check text error
twice_fault check text nodes error says is = whole_fault check text nodes error says (repeated nodes error is)
  where
    repeated : (nodes : List LineNode) (error : GraphError) → IsNumberFault (map (λ (n : LineNode). n.path) nodes) error → IsWholeFault (links_of nodes) error
    repeated nodes (bundle.BadLine n) is = absurd is
    repeated nodes (bundle.BadPath n) is = absurd is
    repeated nodes (bundle.BadDerivation n) is = absurd is
    repeated nodes (bundle.UnknownOutput n) is = absurd is
    repeated nodes (bundle.BadAttribute n) is = absurd is
    repeated nodes (bundle.WrongPath n) is = absurd is
    repeated nodes (bundle.Duplicate n) is = is
    repeated nodes (bundle.MissingInput n) is = absurd is
    repeated nodes (bundle.MissingOutput n) is = absurd is
    repeated nodes bundle.Cycle is = absurd is
    repeated nodes bundle.TooMany is = absurd is
    repeated nodes bundle.Memory is = tt
