-- The lines of a text, one after another.
use Rattle.std.proofs.Common.{◌≡◌, ◌==◌, ℕ, ◌<◌, List, [], ◌∷◌, length, Option, Some, None, refl, sym, ap, ◌∙◌, subst, arith}
use Rattle.std.specs.List.{slice_split, join_with_byte}
use Rattle.std.specs.Option.{unwrap_or}
use Rattle.std.proofs.lemmas.List.Splits.{length-slice_split, join_with_byte-slice_split}
use Rattle.nd_bytes.specs.Cut.{pieces}
use Rattle.nd_bytes.specs.Lines.{lines_of, without_empty_end}

-- a text of no bytes has no lines
pub no_lines : lines_of [] ≡ []
unfolding lines_of
no_lines = refl

-- only a piece at the end is left out
before_end : (piece : List ℕ) (others : List (List ℕ)) → 0 < length others → without_empty_end (piece ∷ others) ≡ piece ∷ without_empty_end others
before_end piece [] some = absurd (omega arith)
before_end piece (other ∷ others) some = refl

not_empty : (piece : List ℕ) → 0 < length piece → without_empty_end (piece ∷ []) ≡ piece ∷ []
not_empty [] some = absurd (omega arith)
not_empty (b ∷ piece) some = refl

-- the lines of a text of some bytes: the first, and those of what stands behind the first newline
pub lines_more : (text line : List ℕ) (rest : Option (List ℕ)) → 0 < length text → slice_split (λ b. b == 10) text ≡ line ∷ pieces 10 rest
    → lines_of text ≡ line ∷ lines_of (unwrap_or rest [])
unfolding lines_of
lines_more text line None some cut =
    let same : text ≡ line = sym (join_with_byte-slice_split 10 text) ∙ ap (join_with_byte 10) cut in
    ap without_empty_end cut ∙ not_empty line (subst (λ (t : List ℕ). 0 < length t) same some)
lines_more text line (Some behind) some cut =
    ap without_empty_end cut ∙ before_end line (slice_split (λ b. b == 10) behind) (omega (arith, length-slice_split (λ b. b == 10) behind))
