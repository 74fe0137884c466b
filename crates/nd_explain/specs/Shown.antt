-- What is shown of a refused text. The public clause of `Failure::of_text` cites it. This project's own choice.
use Rattle.std.specs.Prelude.{◌≡◌, ℕ, List, Some}
use Rattle.nd_explain.specs.declared.parts.Part.{Part}
use Rattle.nd_explain.specs.Excerpts.{excerpt_of}
use Rattle.nd_explain.specs.Pieces.{piece_at}

-- this is the beginning of what stands in that part of the text
pub record IsShown (text : List ℕ) (part : Part) (shown : List ℕ) : Type 0 where
  pub piece : List ℕ
  pub there : piece_at text part ≡ Some piece
  pub begins : shown ≡ excerpt_of piece
