-- What was gathered of a bundle's lines.
use Rattle.std.proofs.Common.{◌≡◌, ℕ, List, [], ◌∷◌, ◌++◌, Option, Some, None, Result, Ok, Err, IfOk, refl, sym, ap, ◌∙◌, subst, append_assoc}
use Rattle.std.proofs.lemmas.List.{append-nil}
use Rattle.std.specs.List.{AllZip}
use Rattle.std.specs.declared.alloc.AllocError.{AllocError}
use Rattle.rayon.proofs.ListFacts.{AllZip-append}
use Rattle.nd_bundle.specs.Lines.{lines, lines_in}
use Rattle.nd_bundle.specs.Parts.{ArePieces, IsFaultOf, IsFoundFault, IsFoundIn, IsFoundNowhere, IsFoundNumbered, IsFoundTo, IsReadFault, IsReadIn, IsReadInParts, IsReadNowhere, IsReadNumbered, IsReadTo, ReadsLines, StaysRead, TakesAll}
use Rattle.nd_bundle.specs.Pieces.{IsReadPiece, IsReadText, IsReadTo as IsPieceTo}
use Rattle.nd_bundle.specs.declared.gathered.Gathered.{Gathered}
use Rattle.nd_links.specs.declared.fault.GraphError.{GraphError}
use Rattle.nd_bundle.specs.declared.found.Found.{Found}
use Rattle.nd_bundle.specs.declared.found.Numbered.{Numbered}
use Rattle.nd_bundle.specs.declared.manner.Manner.{Manner}
use Rattle.nd_bundle.specs.declared.piece.Piece.{Piece}
use Rattle.nd_bundle.proofs.Newlines.{lines_in-append}
use Rattle.nd_bundle.proofs.Parted.{fault_in, fault_still}

-- the lines that were found and those that were read behind them
put_to : (manner : Manner) (ls front texts : List (List ℕ)) (gathered : Gathered) (refused : Option GraphError) → gathered.found.refused ≡ refused → ls ≡ front ++ lines_in texts → IsFoundIn manner front gathered.found → AllZip (IsReadText manner) texts gathered.pieces.items → IsReadTo manner ls gathered refused
put_to manner ls front texts gathered None is parts found read = record { front = front; texts = texts; parts = parts; found = found; read = read }
put_to manner ls front texts gathered (Some fault) is parts found read =
    let of : IsFaultOf manner front fault = subst (λ (r : Option GraphError). IsFoundTo manner front gathered.found.numbers gathered.found.details r) is found in
    subst (λ (xs : List (List ℕ)). IsFaultOf manner xs fault) (sym parts) (fault_still manner front (lines_in texts) fault of)

put : (manner : Manner) (ls front texts : List (List ℕ)) (gathered : Gathered) → ls ≡ front ++ lines_in texts → IsFoundIn manner front gathered.found → AllZip (IsReadText manner) texts gathered.pieces.items → IsReadIn manner ls gathered
put manner ls front texts gathered parts found read = put_to manner ls front texts gathered gathered.found.refused refl parts found read

parts_of : (manner : Manner) (ls : List (List ℕ)) (gathered : Gathered) → gathered.found.refused ≡ None → IsReadIn manner ls gathered → IsReadInParts manner ls gathered
parts_of manner ls gathered none so = subst (λ (r : Option GraphError). IsReadTo manner ls gathered r) none so

refusal_of : (manner : Manner) (ls : List (List ℕ)) (gathered : Gathered) (fault : GraphError) → gathered.found.refused ≡ Some fault → IsReadIn manner ls gathered → IsFaultOf manner ls fault
refusal_of manner ls gathered fault is so = subst (λ (r : Option GraphError). IsReadTo manner ls gathered r) is so

pub read_nowhere : (gathered : Gathered) → IsFoundNowhere gathered.found → gathered.pieces.items ≡ [] → IsReadNowhere gathered
read_nowhere gathered none empty = record {
  nowhere = λ manner. put manner [] [] [] gathered refl (none.nowhere manner) (subst (λ (ps : List (Result Piece AllocError)). AllZip (IsReadText manner) [] ps) (sym empty) tt);
}

-- ---- more lines

pub stays_read : (gathered : Gathered) → StaysRead gathered gathered
stays_read gathered = record { stays = λ manner ls so. so }

pub reads_settled : (manner : Manner) (text : List ℕ) (old mid new : Gathered) → ReadsLines manner text old mid → StaysRead mid new → ReadsLines manner text old new
reads_settled manner text old mid new reads settles = record { on = λ ls so. settles.stays manner (ls ++ lines text) (reads.on ls so) }

pub reads_none : (manner : Manner) (text : List ℕ) (old : Gathered) (fault : GraphError) → old.found.refused ≡ Some fault → ReadsLines manner text old old
reads_none manner text old fault is = record {
  on = λ ls so. subst (λ (r : Option GraphError). IsReadTo manner (ls ++ lines text) old r) (sym is) (fault_still manner ls (lines text) fault (refusal_of manner ls old fault is so));
}

is_read : (manner : Manner) (ls : List (List ℕ)) (read : Result Piece AllocError) → IfOk read (λ piece. IsPieceTo manner ls piece.columns piece.refused) → IsReadPiece manner ls read
is_read manner ls (Ok piece) is = is
is_read manner ls (Err refused) is = tt

pub reads_piece : (manner : Manner) (text : List ℕ) (old new : Gathered) (read : Result Piece AllocError) → old.found.refused ≡ None → new.found ≡ old.found → new.pieces.items ≡ old.pieces.items ++ read ∷ [] → IfOk read (λ piece. IsPieceTo manner (lines text) piece.columns piece.refused)
    → ReadsLines manner text old new
reads_piece manner text old new read none same grown is = record {
  on = λ ls so.
      let at = parts_of manner ls old none so in
      let texts : List (List ℕ) = at.texts ++ text ∷ [] in
      let are : lines_in texts ≡ lines_in at.texts ++ lines text = lines_in-append at.texts (text ∷ []) ∙ ap (λ (xs : List (List ℕ)). lines_in at.texts ++ xs) (append-nil (lines text)) in
      put manner (ls ++ lines text) at.front texts new
      (ap (λ (xs : List (List ℕ)). xs ++ lines text) at.parts ∙ append_assoc at.front (lines_in at.texts) (lines text) ∙ ap (λ (xs : List (List ℕ)). at.front ++ xs) (sym are))
      (subst (λ (f : Found). IsFoundIn manner at.front f) (sym same) at.found)
      (subst (λ (ps : List (Result Piece AllocError)). AllZip (IsReadText manner) texts ps) (sym grown)
      (AllZip-append (IsReadText manner) at.texts (text ∷ []) old.pieces.items (read ∷ []) at.read (is_read manner (lines text) read is, tt)));
}

pub reads_pieces : (manner : Manner) (text : List ℕ) (old new : Gathered) → old.found.refused ≡ None → ArePieces manner text new.pieces.items → TakesAll old.found old.pieces.items new.found → ReadsLines manner text old new
reads_pieces manner text old new none are takes = record {
  on = λ ls so.
      let at = parts_of manner ls old none so in
      put manner (ls ++ lines text) (at.front ++ lines_in at.texts) are.texts new
      (ap (λ (xs : List (List ℕ)). xs ++ lines text) at.parts ∙ ap (λ (xs : List (List ℕ)). (at.front ++ lines_in at.texts) ++ xs) (sym are.are))
      (takes.taken manner at.front at.texts at.found at.read) are.read;
}

pub takes_pieces : (old new : Gathered) → old.found.refused ≡ None → new.pieces.items ≡ [] → TakesAll old.found old.pieces.items new.found → StaysRead old new
takes_pieces old new none empty takes = record {
  stays = λ manner ls so.
      let at = parts_of manner ls old none so in
      put manner ls (at.front ++ lines_in at.texts) [] new (at.parts ∙ sym (append-nil (at.front ++ lines_in at.texts))) (takes.taken manner at.front at.texts at.found at.read)
      (subst (λ (ps : List (Result Piece AllocError)). AllZip (IsReadText manner) [] ps) (sym empty) tt);
}

-- ---- the end

pub refused_before : (gathered : Gathered) (fault : GraphError) → gathered.found.refused ≡ Some fault → IsReadFault gathered fault
refused_before gathered fault is = record { first = λ manner text so. fault_in manner text fault (refusal_of manner (lines text) gathered fault is so) }

-- what was found in all lines
found_in_all : (manner : Manner) (ls : List (List ℕ)) (gathered : Gathered) (found : Found) → gathered.found.refused ≡ None → TakesAll gathered.found gathered.pieces.items found → IsReadIn manner ls gathered → IsFoundIn manner ls found
found_in_all manner ls gathered found none takes so =
    let at = parts_of manner ls gathered none so in
    subst (λ (xs : List (List ℕ)). IsFoundIn manner xs found) (sym at.parts) (takes.taken manner at.front at.texts at.found at.read)

pub read_numbered : (gathered : Gathered) (found : Found) (numbered : Numbered) → gathered.found.refused ≡ None → TakesAll gathered.found gathered.pieces.items found → IsFoundNumbered found numbered → IsReadNumbered gathered numbered
read_numbered gathered found numbered none takes by = record { says = λ manner ls so. by.says manner ls (found_in_all manner ls gathered found none takes so) }

pub read_fault : (gathered : Gathered) (found : Found) (fault : GraphError) → gathered.found.refused ≡ None → TakesAll gathered.found gathered.pieces.items found → IsFoundFault found fault → IsReadFault gathered fault
read_fault gathered found fault none takes by = record { first = λ manner text so. by.first manner text (found_in_all manner (lines text) gathered found none takes so) }
