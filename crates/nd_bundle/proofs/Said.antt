-- What lines say, as lists with one item for each.
use Rattle.std.proofs.Common.{◌≡◌, List, ℕ, [], ◌∷◌, ◌++◌, length, map, sym, ap, subst, ◌∙◌}
use Rattle.std.proofs.lemmas.List.{map-append}
use Rattle.rayon.proofs.ListFacts.{AllZip-append}
use Rattle.nd_line.specs.Reads.{IsLine}
use Rattle.nd_line.specs.declared.line.LineNode.{LineNode}
use Rattle.nd_links.specs.Columned.{HasColumns, IsAppended}
use Rattle.nd_links.specs.Numbering.{AddsPaths, AreNumbersOf}
use Rattle.nd_links.specs.declared.columns.Columns.{Columns}
use Rattle.nd_links.specs.declared.details.Details.{Details}
use Rattle.nd_links.specs.declared.number.Numbers.{Numbers}
use Rattle.nd_bundle.specs.Said.{SayColumns, SayNumbers}
use Rattle.nd_bundle.specs.declared.manner.Manner.{Manner}
use Rattle.nd_links.proofs.Taken.{many}
use Rattle.nd_links.proofs.Zipped.{zip_length}

-- no line says no node
pub says_none : (manner : Manner) (columns : Columns) → HasColumns manner.whole [] columns → SayColumns manner [] columns
says_none manner columns has = record { rows = record { nodes = []; says = tt; paths_are = has.paths; has = has.details } }

-- .. and one more line
pub says_push : (manner : Manner) (ls : List (List ℕ)) (line : List ℕ) (old new : Columns) (node : LineNode) → SayColumns manner ls old → IsLine manner.check line node → ((nodes : List LineNode) → HasColumns manner.whole nodes old → HasColumns manner.whole (nodes ++ node ∷ []) new) → SayColumns manner (ls ++ line ∷ []) new
says_push manner ls line old new node so is grown =
    let now : HasColumns manner.whole (so.rows.nodes ++ node ∷ []) new = grown so.rows.nodes (record { paths = so.rows.paths_are; details = so.rows.has }) in
    record {
      rows = record {
        nodes = so.rows.nodes ++ node ∷ [];
        says = AllZip-append (IsLine manner.check) ls (line ∷ []) so.rows.nodes (node ∷ []) so.rows.says (is, tt);
        paths_are = now.paths;
        has = now.details;
      };
    }

-- .. and other lines, whose paths are numbered behind those before
pub says_more : (manner : Manner) (ls more : List (List ℕ)) (old_numbers numbers : Numbers) (old details : Details) (columns : Columns) → SayNumbers manner ls old_numbers old → SayColumns manner more columns → AddsPaths old_numbers columns.paths.items numbers → IsAppended old columns.details details
    → SayNumbers manner (ls ++ more) numbers details
says_more manner ls more old_numbers numbers old details columns so also adds joined = record {
  nodes = so.nodes ++ also.rows.nodes;
  says = AllZip-append (IsLine manner.check) ls more so.nodes also.rows.nodes so.says also.rows.says;
  numbers_are =
      subst (λ (ps : List (List ℕ)). AreNumbersOf ps numbers)
      (ap (λ (ps : List (List ℕ)). map (λ (n : LineNode). n.path) so.nodes ++ ps) also.rows.paths_are ∙ sym (map-append (λ (n : LineNode). n.path) so.nodes also.rows.nodes))
      (adds.adds (map (λ (n : LineNode). n.path) so.nodes) so.numbers_are);
  has = joined.has manner.whole so.nodes also.rows.nodes so.has also.rows.has;
}

-- as many details as lines
pub many_lines : (manner : Manner) (ls : List (List ℕ)) (columns : Columns) → SayColumns manner ls columns → length columns.details.names.items ≡ length ls
many_lines manner ls columns so = many manner.whole so.rows.nodes columns.details so.rows.has ∙ sym (zip_length (IsLine manner.check) ls so.rows.nodes so.rows.says)

-- .. whose paths are numbered
pub many_numbered : (manner : Manner) (ls : List (List ℕ)) (numbers : Numbers) (details : Details) → SayNumbers manner ls numbers details → length details.names.items ≡ length ls
many_numbered manner ls numbers details so = many manner.whole so.nodes details so.has ∙ sym (zip_length (IsLine manner.check) ls so.nodes so.says)
