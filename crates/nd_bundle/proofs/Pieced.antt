-- What was read of the pieces of a bundle, put together.
use Rattle.std.proofs.Common.{◌≡◌, ℕ, ◌+◌, ◌<◌, ◌≤◌, List, [], ◌∷◌, ◌++◌, length, get_or, drop, take, take_all, take-append-drop, map, Result, sym, ap, ◌∙◌, subst, append_assoc, Bor}
use Rattle.std.proofs.lemmas.List.{map-append, take_more}
use Rattle.std.specs.List.{AllZip}
use Rattle.std.specs.declared.alloc.AllocError.{AllocError}
use Rattle.nd_line.specs.Reads.{IsFaulty, IsLine}
use Rattle.nd_line.specs.declared.line.LineNode.{LineNode}
use Rattle.nd_line.specs.declared.refusal.LineError.{LineError}
use Rattle.nd_bundle.specs.Bundles.{IsFirstFault}
use Rattle.nd_links.specs.Columned.{HasColumns}
use Rattle.nd_bundle.specs.Said.{SayColumns}
use Rattle.nd_bundle.specs.Lines.{lines}
use Rattle.nd_links.specs.Numbered.{fault_at}
use Rattle.nd_bundle.specs.Pieces.{IsReadText, IsReadUpTo}
use Rattle.nd_links.specs.declared.columns.Columns.{Columns}
use Rattle.nd_links.specs.declared.fault.GraphError.{GraphError}
use Rattle.nd_bundle.specs.declared.manner.Manner.{Manner}
use Rattle.nd_bundle.specs.declared.piece.Piece.{Piece}
use Rattle.nd_bundle.proofs.Newlines.{shown}
use Rattle.nd_bundle.proofs.Said.{many_lines, says_push}
use Rattle.nd_bundle.proofs.Told.{line_error}

-- ---- one piece

-- one line more was read
pub said_here : (manner : Manner) (found : List (Bor (List ℕ))) (at : ℕ) (line : Bor (List ℕ)) (old new : Columns) (node : LineNode) → at < length found → SayColumns manner (shown (take at found)) old → IsLine manner.check (get_or found at line).now node
    → ((nodes : List LineNode) → HasColumns manner.whole nodes old → HasColumns manner.whole (nodes ++ node ∷ []) new) → SayColumns manner (shown (take (at + 1) found)) new
said_here manner found at line old new node lt so is grown =
    let here : Bor (List ℕ) = get_or found at line in
    let cut : shown (take (at + 1) found) ≡ shown (take at found) ++ here.now ∷ [] =
    ap (λ (ls : List (Bor (List ℕ))). shown ls) (take_more found at line lt) ∙ map-append (λ (l : Bor (List ℕ)). l.now) (take at found) (here ∷ []) in
    subst (λ (ls : List (List ℕ)). SayColumns manner ls new) (sym cut) (says_push manner (shown (take at found)) here.now old new node so is grown)

-- all lines were read
pub said_all : (manner : Manner) (text : List ℕ) (found : List (Bor (List ℕ))) (at : ℕ) (columns : Columns) → length found ≤ at → shown found ≡ lines text → SayColumns manner (shown (take at found)) columns → SayColumns manner (lines text) columns
said_all manner text found at columns past are so = subst (λ (ls : List (List ℕ)). SayColumns manner ls columns) (ap (λ (ls : List (Bor (List ℕ))). shown ls) (take_all at found past) ∙ are) so

-- the line at this place is refused
pub refused_here : (manner : Manner) (text : List ℕ) (found : List (Bor (List ℕ))) (at : ℕ) (line : Bor (List ℕ)) (columns : Columns) (fault : LineError) → at < length found → shown found ≡ lines text
    → SayColumns manner (shown (take at found)) columns → IsFaulty manner.check (get_or found at line).now fault → IsReadUpTo manner (lines text) columns fault
refused_here manner text found at line columns fault lt are so refused =
    let front : List (Bor (List ℕ)) = take at found in
    let here : Bor (List ℕ) = get_or found at line in
    let behind : List (Bor (List ℕ)) = drop (at + 1) found in
    let whole : found ≡ front ++ here ∷ behind = sym (take-append-drop (at + 1) found) ∙ ap (λ (ls : List (Bor (List ℕ))). ls ++ behind) (take_more found at line lt) ∙ append_assoc front (here ∷ []) behind in
    record {
      before = shown front;
      line = here.now;
      behind = shown behind;
      parts = sym are ∙ ap (λ (ls : List (Bor (List ℕ))). shown ls) whole ∙ map-append (λ (l : Bor (List ℕ)). l.now) front (here ∷ behind);
      says = so;
      refused = refused;
    }

-- the first refusal of a text, on this line
pub fault_here : (manner : Manner) (text : List ℕ) (ls : List (List ℕ)) (line : List ℕ) (behind : List (List ℕ)) (nodes : List LineNode) (count : ℕ) (fault : LineError) → lines text ≡ ls ++ line ∷ behind → AllZip (IsLine manner.check) ls nodes → count ≡ length ls
    → IsFaulty manner.check line fault → IsFirstFault manner.check text (fault_at fault (count + 1))
fault_here manner text ls line behind nodes count fault parts says long refused = line_error manner.check text fault (count + 1) (record {
  before = ls;
  line = line;
  behind = behind;
  nodes = nodes;
  parts = parts;
  says = says;
  refused = refused;
  number_is = ap (λ (n : ℕ). n + 1) long;
})

-- the first refusal of a text that was read as one piece
pub says_fault : (manner : Manner) (text : List ℕ) (columns : Columns) (fault : LineError) (error : GraphError) → IsReadUpTo manner (lines text) columns fault → error ≡ fault_at fault (length columns.details.names.items + 1) → IsFirstFault manner.check text error
says_fault manner text columns fault error up is =
    subst (λ (e : GraphError). IsFirstFault manner.check text e) (sym is)
    (fault_here manner text up.before up.line up.behind up.says.rows.nodes (length columns.details.names.items) fault up.parts up.says.rows.says (many_lines manner up.before columns up.says) up.refused)

-- ---- texts that references show

abbrev pub IsReadShown : Manner → Bor (List ℕ) → Result Piece AllocError → Type 0
IsReadShown manner text piece = IsReadText manner text.now piece

pub shown_read : (manner : Manner) (found : List (Bor (List ℕ))) (read : List (Result Piece AllocError)) → AllZip (IsReadShown manner) found read → AllZip (IsReadText manner) (map (λ (text : Bor (List ℕ)). text.now) found) read
shown_read manner [] [] all = tt
shown_read manner [] (r ∷ read) all = absurd all
shown_read manner (text ∷ found) [] all = absurd all
shown_read manner (text ∷ found) (r ∷ read) all = (all.0, shown_read manner found read all.1)
