-- What was found in a bundle's text that comes in blocks. Serves proofs alone.
use Rattle.std.specs.Prelude.{◌≡◌, ℕ, List, [], ◌∷◌, ◌++◌, Option, Some, None, Result}
use Rattle.std.specs.List.{AllZip}
use Rattle.std.specs.declared.alloc.AllocError.{AllocError}
use Rattle.nd_bundle.specs.Bundles.{IsFirstFault}
use Rattle.nd_bundle.specs.Said.{SayNumbered, SayNumbers}
use Rattle.nd_bundle.specs.Lines.{lines, lines_in}
use Rattle.nd_bundle.specs.Pieces.{IsReadPiece, IsReadText}
use Rattle.nd_links.specs.declared.details.Details.{Details}
use Rattle.nd_links.specs.declared.fault.GraphError.{GraphError}
use Rattle.nd_bundle.specs.declared.found.Found.{Found}
use Rattle.nd_bundle.specs.declared.found.Numbered.{Numbered}
use Rattle.nd_bundle.specs.declared.gathered.Gathered.{Gathered}
use Rattle.nd_bundle.specs.declared.manner.Manner.{Manner}
use Rattle.nd_links.specs.declared.number.Numbers.{Numbers}
use Rattle.nd_bundle.specs.declared.piece.Piece.{Piece}
use Rattle.nd_bundle.specs.declared.reached.Reached.{Reached}

-- the first refusal of each text whose lines begin with these
pub record IsFaultOf (manner : Manner) (ls : List (List ℕ)) (fault : GraphError) : Type 0 where
  pub first : (text : List ℕ) (behind : List (List ℕ)) → lines text ≡ ls ++ behind → IsFirstFault manner.check text fault

-- these lines say nodes with these numbers and these details, or have this refusal
abbrev pub IsFoundTo : Manner → List (List ℕ) → Numbers → Details → Option GraphError → Type 0
IsFoundTo manner ls numbers details None = SayNumbers manner ls numbers details
IsFoundTo manner ls numbers details (Some fault) = IsFaultOf manner ls fault

-- what was found in these lines
abbrev pub IsFoundIn : Manner → List (List ℕ) → Found → Type 0
IsFoundIn manner ls found = IsFoundTo manner ls found.numbers found.details found.refused

-- nothing was found in no lines
pub record IsFoundNowhere (found : Found) : Type 0 where
  pub nowhere : (manner : Manner) → IsFoundIn manner [] found

-- what was read of a piece was put behind what was found before
pub record Takes (old : Found) (read : Result Piece AllocError) (new : Found) : Type 0 where
  pub taken : (manner : Manner) (ls more : List (List ℕ)) → IsFoundIn manner ls old → IsReadPiece manner more read → IsFoundIn manner (ls ++ more) new

-- .. of several pieces
pub record TakesAll (old : Found) (pieces : List (Result Piece AllocError)) (new : Found) : Type 0 where
  pub taken : (manner : Manner) (ls texts : List (List ℕ)) → IsFoundIn manner ls old → AllZip (IsReadText manner) texts pieces → IsFoundIn manner (ls ++ lines_in texts) new

-- the pieces of a text were read
pub record ArePieces (manner : Manner) (text : List ℕ) (pieces : List (Result Piece AllocError)) : Type 0 where
  pub texts : List (List ℕ)
  pub are : lines_in texts ≡ lines text
  pub read : AllZip (IsReadText manner) texts pieces

-- whatever lines it was found in, they say this
pub record IsFoundNumbered (found : Found) (numbered : Numbered) : Type 0 where
  pub says : (manner : Manner) (ls : List (List ℕ)) → IsFoundIn manner ls found → SayNumbered manner ls numbered

-- .. or the text that has them has this refusal
pub record IsFoundFault (found : Found) (fault : GraphError) : Type 0 where
  pub first : (manner : Manner) (text : List ℕ) → IsFoundIn manner (lines text) found → IsFirstFault manner.check text fault

-- what was found in the first of these lines, and what was read of the others
pub record IsReadInParts (manner : Manner) (ls : List (List ℕ)) (gathered : Gathered) : Type 0 where
  pub front : List (List ℕ)
  pub texts : List (List ℕ)
  pub parts : ls ≡ front ++ lines_in texts
  pub found : IsFoundIn manner front gathered.found
  pub read : AllZip (IsReadText manner) texts gathered.pieces.items

-- .. or they have this refusal
abbrev pub IsReadTo : Manner → List (List ℕ) → Gathered → Option GraphError → Type 0
IsReadTo manner ls gathered None = IsReadInParts manner ls gathered
IsReadTo manner ls gathered (Some fault) = IsFaultOf manner ls fault

-- what was read of these lines
abbrev pub IsReadIn : Manner → List (List ℕ) → Gathered → Type 0
IsReadIn manner ls gathered = IsReadTo manner ls gathered gathered.found.refused

-- nothing was read of no lines
pub record IsReadNowhere (gathered : Gathered) : Type 0 where
  pub nowhere : (manner : Manner) → IsReadIn manner [] gathered

-- what was read is that still
pub record StaysRead (old new : Gathered) : Type 0 where
  pub stays : (manner : Manner) (ls : List (List ℕ)) → IsReadIn manner ls old → IsReadIn manner ls new

-- the lines of this text were read behind those before
pub record ReadsLines (manner : Manner) (text : List ℕ) (old new : Gathered) : Type 0 where
  pub on : (ls : List (List ℕ)) → IsReadIn manner ls old → IsReadIn manner (ls ++ lines text) new

-- whatever lines were read, they say this
pub record IsReadNumbered (gathered : Gathered) (numbered : Numbered) : Type 0 where
  pub says : (manner : Manner) (ls : List (List ℕ)) → IsReadIn manner ls gathered → SayNumbered manner ls numbered

-- .. or the text that has them has this refusal
pub record IsReadFault (gathered : Gathered) (fault : GraphError) : Type 0 where
  pub first : (manner : Manner) (text : List ℕ) → IsReadIn manner (lines text) gathered → IsFirstFault manner.check text fault

-- the text ends with a newline
pub record IsLineEnd (text : List ℕ) : Type 0 where
  pub front : List ℕ
  pub is : text ≡ front ++ 10 ∷ []

-- whatever stands behind the text, its lines are whole
pub record HasWholeLines (text : List ℕ) : Type 0 where
  pub whole : (behind : List ℕ) → lines (text ++ behind) ≡ lines text ++ lines behind

-- lines of the text were read, and the other lines are those of the rest
pub record IsReadAsFar (manner : Manner) (text : List ℕ) (gathered : Gathered) (rest : List ℕ) : Type 0 where
  pub ls : List (List ℕ)
  pub says : IsReadInParts manner ls gathered
  pub cut : (behind : List ℕ) → lines (text ++ behind) ≡ ls ++ lines (rest ++ behind)

-- whatever stands behind the text, this is the first refusal
pub record IsRefusedAsFar (manner : Manner) (text : List ℕ) (fault : GraphError) : Type 0 where
  pub first : (behind : List ℕ) → IsFirstFault manner.check (text ++ behind) fault

abbrev pub IsReadUntil : Manner → List ℕ → Gathered → List ℕ → Option GraphError → Type 0
IsReadUntil manner text gathered rest None = IsReadAsFar manner text gathered rest
IsReadUntil manner text gathered rest (Some fault) = IsRefusedAsFar manner text fault

-- the text was read as far as its lines are whole, or up to a refusal
abbrev pub IsReading : Manner → List ℕ → Reached → Type 0
IsReading manner text reached = IsReadUntil manner text reached.gathered reached.rest.items reached.gathered.found.refused

-- nothing was read
pub record IsUnread (reached : Reached) : Type 0 where
  pub nothing : (manner : Manner) → IsReading manner [] reached

-- whatever the text is, want of memory is its refusal
pub record IsSpent (reached : Reached) : Type 0 where
  pub whatever : (manner : Manner) (text : List ℕ) → IsReading manner text reached

-- this text was read behind the one before
pub record GoesOn (manner : Manner) (text : List ℕ) (old new : Reached) : Type 0 where
  pub goes : (before : List ℕ) → IsReading manner before old → IsReading manner (before ++ text) new

-- the whole lines of this text were read, and what stands behind them is the rest
pub record IsReadBehind (manner : Manner) (text : List ℕ) (old new : Reached) : Type 0 where
  pub front : List ℕ
  pub parts : text ≡ front ++ new.rest.items
  pub whole : HasWholeLines front
  pub lines_on : ReadsLines manner front old.gathered new.gathered

-- what the lines of the text that was read say
pub record IsToldBy (manner : Manner) (reached : Reached) (numbered : Numbered) : Type 0 where
  pub says : (text : List ℕ) → IsReading manner text reached → SayNumbered manner (lines text) numbered

-- the first refusal of the text that was read
pub record IsFaultBy (manner : Manner) (reached : Reached) (fault : GraphError) : Type 0 where
  pub first : (text : List ℕ) → IsReading manner text reached → IsFirstFault manner.check text fault
