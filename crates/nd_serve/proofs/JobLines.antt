-- What a line asks for.
use Rattle.std.proofs.Common.{◌≡◌, ◌∙◌, ◌==◌, ℕ, List, [], ◌∷◌, Option, sym, ap, subst}
use Rattle.std.specs.Prelude.{codes}
use Rattle.std.specs.Borrow.{Bor}
use Rattle.std.specs.List.{slice_split}
use Rattle.std.specs.Option.{option_copied}
use Rattle.nd_bytes.specs.Cut.{pieces}
use Rattle.nd_script.specs.Words.{Begins, words_left}
use Rattle.nd_script.specs.Faults.{IsNoNumber}
use Rattle.nd_serve.specs.Asked.{IsJobLine, IsNoJobLine}

-- the first word is `job`, and what stands behind it is asked about
pub job_named : (drvs : ℕ) (line first : List ℕ) (rest : Option (Bor (List ℕ))) (drv : ℕ) → slice_split (λ b. b == 32) line ≡ first ∷ pieces 32 (option_copied rest) → first ≡ codes "job"
    → Begins drvs (words_left rest) drv [] → IsJobLine drvs line drv
job_named drvs line first rest drv cut is operand = record {
  others = words_left rest;
  words = cut ∙ ap (λ (w : List ℕ). w ∷ words_left rest) is;
  operand = operand;
}

others_are : (a b : List ℕ) (xs ys : List (List ℕ)) → a ∷ xs ≡ b ∷ ys → (a ≡ b) × (xs ≡ ys)
others_are a b xs ys h = (cc, cc)

-- .. and is no derivation
pub job_unnamed : (drvs : ℕ) (line first : List ℕ) (rest : Option (Bor (List ℕ))) → slice_split (λ b. b == 32) line ≡ first ∷ pieces 32 (option_copied rest)
    → IsNoNumber drvs (words_left rest) → IsNoJobLine drvs line
job_unnamed drvs line first rest cut none = record {
  never = λ drv asks.
      let same = others_are first (codes "job") (words_left rest) asks.others (sym cut ∙ asks.words) in
      none.never drv (subst (λ (words : List (List ℕ)). Begins drvs words drv []) (sym same.1) asks.operand);
}

-- the first word is another
pub no_job : (drvs : ℕ) (line first : List ℕ) (rest : Option (Bor (List ℕ))) → slice_split (λ b. b == 32) line ≡ first ∷ pieces 32 (option_copied rest)
    → (first ≡ codes "job" → ⊥) → IsNoJobLine drvs line
no_job drvs line first rest cut other = record {
  never = λ drv asks. other (others_are first (codes "job") (words_left rest) asks.others (sym cut ∙ asks.words)).0;
}

pub ruleset jobs = (job_named, job_unnamed, no_job)
