-- Words that begin with a number, and what rules such a reading out.
use Rattle.std.proofs.Common.{◌≡◌, ◌==◌, ℕ, List, [], ◌∷◌, length, Option, Some, sym, ap, subst, ◌∙◌, arith, inl, inr}
use Rattle.std.specs.List.{slice_split}
use Rattle.std.specs.Prelude.{Result, Ok, Err, IfOk, IfErr}
use Rattle.std.proofs.lemmas.List.Splits.{length-slice_split}
use Rattle.nd_bytes.specs.Cut.{pieces}
use Rattle.nd_closure.specs.Info.{words_of}
use Rattle.nd_script.specs.declared.command.Command.{Command}
use Rattle.nd_script.specs.declared.line_error.LineError.{LineError}
use Rattle.nd_script.specs.declared.line_error.LineError.TheVariants.{Bad, Memory}
use Rattle.nd_script.specs.Words.{Begins, IsSetOf, IsStatus, AreLists}
use Rattle.nd_script.specs.Faults.{NeverBegins, IsNoNumber, IsNoStatus, RulesOut}
use Rattle.nd_script.specs.Calls.{IsCallWith, IsStatusCall, IsBuiltCall}
use Rattle.nd_script.specs.Lines.{IsLineOf}
use Rattle.nd_script.specs.Script.{IsStartWith}

pub no_words : (bound : ℕ) → NeverBegins bound []
no_words bound = record { never = λ number rest begins. let none = begins.words_are in cc }

pub never_alone : (bound : ℕ) (words : List (List ℕ)) → NeverBegins bound words → IsNoNumber bound words
never_alone bound words none = record { never = λ number begins. none.never number [] begins }

-- the rest behind the number is the same in each reading
pub same_rest : (bound : ℕ) (words : List (List ℕ)) (number other : ℕ) (rest more : List (List ℕ)) → Begins bound words number rest → Begins bound words other more → rest ≡ more
same_rest bound words number other rest more h k = cc (h.words_are, k.words_are)

some_piece : (bytes : List ℕ) → slice_split (λ b. b == 32) bytes ≡ [] → ⊥
some_piece bytes none = let e = ap length none in absurd (omega (arith, length-slice_split (λ b. b == 32) bytes))

-- words stand behind the number
pub more_behind : (bound : ℕ) (words : List (List ℕ)) (number : ℕ) (rest : Option (List ℕ)) (bytes : List ℕ) → Begins bound words number (pieces 32 rest) → rest ≡ Some bytes → IsNoNumber bound words
more_behind bound words number rest bytes begins some = record {
  never = λ other alone. some_piece bytes (ap (pieces 32) (sym some) ∙ same_rest bound words number other (pieces 32 rest) [] begins alone);
}

-- words stand behind the status
pub more_than_status : (words : List (List ℕ)) (word : List ℕ) (rest : Option (List ℕ)) (bytes : List ℕ) → words ≡ word ∷ pieces 32 rest → rest ≡ Some bytes → IsNoStatus words
more_than_status words word rest bytes whole some = record {
  never = λ status is. let none : pieces 32 rest ≡ [] = cc (whole, is.words_are) in some_piece bytes (ap (pieces 32) (sym some) ∙ none);
}

pub no_stop : (words : Option (List ℕ)) (bytes : List ℕ) → words ≡ Some bytes → (command : Command) → (pieces 32 words ≡ []) × (command ≡ Command.Stop) → ⊥
no_stop words bytes some command said = some_piece bytes (ap (pieces 32) (sym some) ∙ said.0)

pub called : {X : Type 0} (bound : ℕ) (call : ℕ → X) (words : List (List ℕ)) (number : ℕ) → Begins bound words number [] → IsCallWith bound call words (call number)
called bound call words number begins = record { number = number; operand = begins; is = λ _. call number }

pub uncalled : {X : Type 0} (bound : ℕ) (call : ℕ → X) (words : List (List ℕ)) → IsNoNumber bound words → (item : X) → IsCallWith bound call words item → ⊥
uncalled bound call words none = λ item said. none.never said.number said.operand

pub never_starts : (drvs : ℕ) (words : List (List ℕ)) → NeverBegins drvs words → (command : Command) → IsStartWith drvs words command → ⊥
never_starts drvs words none = λ command said. none.never said.drv said.others said.operand

pub no_start : (drvs : ℕ) (words : List (List ℕ)) (drv : ℕ) (others : List (List ℕ)) (fault : LineError) → Begins drvs words drv others → RulesOut (IsSetOf others) fault → RulesOut (IsStartWith drvs words) fault
no_start drvs words drv others Bad begins none = λ command said.
    none said.paths (subst (λ (ws : List (List ℕ)). IsSetOf ws said.paths) (same_rest drvs words said.drv drv said.others others said.operand begins) said.set)
no_start drvs words drv others Memory begins none = tt

pub never_ends : {X : Type 0} (bound : ℕ) (bare : ℕ → X) (listed : ℕ → List (List (List ℕ)) → X) (words : List (List ℕ)) → NeverBegins bound words
    → (item : X) → IsBuiltCall bound bare listed words item → ⊥
never_ends bound bare listed words none = λ item said. elim said [
  | inl alone ↦ none.never alone.number [] alone.operand
  | inr lists ↦ none.never lists.number lists.others lists.operand
]

pub no_end : {X : Type 0} (bound : ℕ) (bare : ℕ → X) (listed : ℕ → List (List (List ℕ)) → X) (words : List (List ℕ)) (number : ℕ) (rest : Option (List ℕ)) (bytes : List ℕ) (fault : LineError)
    → Begins bound words number (pieces 32 rest) → rest ≡ Some bytes → RulesOut (AreLists (pieces 32 rest)) fault → RulesOut (IsBuiltCall bound bare listed words) fault
no_end bound bare listed words number rest bytes Bad begins some none = λ item said. elim said [
  | inl alone ↦ some_piece bytes (ap (pieces 32) (sym some) ∙ same_rest bound words number alone.number (pieces 32 rest) [] begins alone.operand)
  | inr lists ↦
      none lists.refs
      (subst (λ (ws : List (List ℕ)). AreLists ws lists.refs) (same_rest bound words lists.number number lists.others (pieces 32 rest) lists.operand begins) lists.lists)
]
no_end bound bare listed words number rest bytes Memory begins some none = tt

pub never_fails : {X : Type 0} (bound : ℕ) (call : ℕ → ℕ → X) (words : List (List ℕ)) → NeverBegins bound words → (item : X) → IsStatusCall bound call words item → ⊥
never_fails bound call words none = λ item said. none.never said.number said.others said.operand

pub no_fail : {X : Type 0} (bound : ℕ) (call : ℕ → ℕ → X) (words : List (List ℕ)) (number : ℕ) (others : List (List ℕ)) → Begins bound words number others → IsNoStatus others
    → (item : X) → IsStatusCall bound call words item → ⊥
no_fail bound call words number others begins none = λ item said.
    none.never said.status
    (subst (λ (ws : List (List ℕ)). IsStatus ws said.status) (same_rest bound words said.number number said.others others said.operand begins) said.reads)

-- a line whose words say nothing
pub bad_line : {V X : Type 0} (verb_of : List ℕ → Option V) (Said : V → List (List ℕ) → X → Type 0) (line first : List ℕ) (others : List (List ℕ)) (verb : V) (fault : LineError)
    → words_of line ≡ first ∷ others → verb_of first ≡ Some verb → RulesOut (Said verb others) fault → RulesOut (IsLineOf verb_of Said line) fault
bad_line {V} {X} verb_of Said line first others verb Bad words names none = λ item is.
    let same : is.first ≡ first = cc (is.words, words) in
    let rest : is.others ≡ others = cc (is.words, words) in
    let verbs : Some is.verb ≡ Some verb = sym is.names ∙ ap verb_of same ∙ names in
    let one : is.verb ≡ verb = cc in
    none item (subst (λ (v : V). Said v others item) one (subst (λ (ws : List (List ℕ)). Said is.verb ws item) rest is.said))
bad_line verb_of Said line first others verb Memory words names none = tt

-- what the words behind the first one say, or don't, the line does too
module _ {V X : Type 0} (verb_of : List ℕ → Option V) (Said : V → List (List ℕ) → X → Type 0) (line first : List ℕ) (others : List (List ℕ)) (verb : V) where
  pub line_said : words_of line ≡ first ∷ others → verb_of first ≡ Some verb → (result : Result X LineError) → IfOk result (Said verb others) → IfOk result (IsLineOf verb_of Said line)
  line_said words names (Ok item) said = record { first = first; others = others; words = words; verb = verb; names = names; said = said }
  line_said words names (Err fault) said = tt

  pub line_refused : words_of line ≡ first ∷ others → verb_of first ≡ Some verb → (result : Result X LineError) → IfErr result (RulesOut (Said verb others))
      → IfErr result (RulesOut (IsLineOf verb_of Said line))
  line_refused words names (Ok item) none = tt
  line_refused words names (Err fault) none = bad_line verb_of Said line first others verb fault words names none
