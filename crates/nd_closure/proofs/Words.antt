-- Reading a line word by word.
use Rattle.std.proofs.Common.{◌≡◌, ℕ, List, [], ◌∷◌, ◌++◌, length, get_or, Option, Some, None, sym, ap, ◌∙◌, arith, subst, length-append, append_assoc}
use Rattle.std.proofs.Math.Seq.{get_or-append_seam}
use Rattle.nd_path.specs.declared.path_error.PathError.{PathError}
use Rattle.nd_path.specs.declared.path_error.PathError.TheVariants.{Prefix, Digest, Name, Memory}
use Rattle.nd_path.specs.Refusals.{IsPath, IsRefused, fault_of}
use Rattle.nd_closure.specs.Info.{IsLine, words_of}
use Rattle.nd_bytes.specs.Cut.{pieces}
use Rattle.nd_closure.specs.Lines.{IsBadFor}

-- a fault is not none
faulty : (bytes : List ℕ) (e : PathError) → fault_of bytes ≡ Some e → IsPath bytes → ⊥
faulty bytes e h none = let both : Some e ≡ None = sym h ∙ none in cc

bad_by : (line word : List ℕ) (e : PathError) → ((entry : List ℕ × List (List ℕ)) → IsLine line entry → IsPath word) → IsRefused word e → IsBadFor line e
bad_by line word Prefix path h = λ entry read. faulty word Prefix h (path entry read)
bad_by line word Digest path h = λ entry read. faulty word Digest h (path entry read)
bad_by line word Name path h = λ entry read. faulty word Name h (path entry read)
bad_by line word Memory path h = tt

-- a refusal of the first word
pub bad_first : (line first : List ℕ) (rest : List (List ℕ)) (e : PathError) → words_of line ≡ first ∷ rest → IsRefused first e → IsBadFor line e
bad_first line first rest e words h = bad_by line first e (λ entry read. let same : entry.0 ≡ first = cc (read.words, words) in subst IsPath same read.path) h

-- a refusal of a later word
pub bad_other : (line first word : List ℕ) (before rest : List (List ℕ)) (e : PathError) → words_of line ≡ first ∷ (before ++ word ∷ rest) → IsRefused word e → IsBadFor line e
bad_other line first word before rest e words h = bad_by line word e
    (λ entry read.
    let same : read.others ≡ before ++ word ∷ rest = cc (read.words, words) in
    subst IsPath (ap (λ (ws : List (List ℕ)). get_or ws (length before) []) same ∙ get_or-append_seam before word rest [])
    (read.paths (length before) [] (omega (arith, ap length same, length-append before (word ∷ rest)))))
    h

-- the first word is that of each entry of the line
pub same_path : (line first : List ℕ) (rest : List (List ℕ)) (entry : List ℕ × List (List ℕ)) → words_of line ≡ first ∷ rest → IsLine line entry → entry.0 ≡ first
same_path line first rest entry words read = cc (read.words, words)

-- one word more
pub words_more : (line first : List ℕ) (done : List (List ℕ)) (left : Option (List ℕ)) (bytes word value : List ℕ) (rest : List (List ℕ))
    → words_of line ≡ first ∷ (done ++ pieces 32 left) → left ≡ Some bytes → pieces 32 (Some bytes) ≡ word ∷ rest → value ≡ word
    → words_of line ≡ first ∷ ((done ++ value ∷ []) ++ rest)
words_more line first done left bytes word value rest words is cut same =
    words ∙ ap (λ (ws : List (List ℕ)). first ∷ (done ++ ws)) (ap (pieces 32) is ∙ cut ∙ ap (λ (w : List ℕ). w ∷ rest) (sym same))
    ∙ ap (λ (ws : List (List ℕ)). first ∷ ws) (sym (append_assoc done (value ∷ []) rest))
