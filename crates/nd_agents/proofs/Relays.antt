-- The lists of an answer, read as those of a script's line.
use Rattle.std.proofs.Common.{◌≡◌, ◌==◌, ℕ, List, [], ◌∷◌, ◌++◌, length, codes, Option, Some, None, refl, sym, ap, subst, ◌∙◌, arith, inl, inr}
use Rattle.nd_closure.specs.Info.{words_of}
use Rattle.nd_script.specs.declared.command.Command.{Command}
use Rattle.nd_script.specs.declared.line_error.LineError.{LineError}
use Rattle.nd_script.specs.declared.line_error.LineError.TheVariants.{Bad, Memory}
use Rattle.nd_script.specs.declared.verb.Verb.{Verb}
use Rattle.nd_script.specs.declared.verb.Verb.TheVariants.{Built}
use Rattle.nd_script.specs.Words.{Begins, AreLists}
use Rattle.nd_script.specs.Verbs.{verb_of}
use Rattle.nd_script.specs.Calls.{IsBuiltCall}
use Rattle.nd_script.specs.Script.{IsLine, IsSaid}
use Rattle.nd_script.specs.Faults.{RulesOut}
use Rattle.nd_script.proofs.Operands.{same_rest}
use Rattle.nd_script.proofs.Once.{commands_once}
use Rattle.nd_bytes.specs.Cut.{pieces}
use Rattle.std.proofs.lemmas.List.Splits.{length-slice_split}
use Rattle.nd_transports.specs.declared.kinds.Answer.{Answer}
use Rattle.nd_agents.specs.AnswerTexts.{IsBuilt}
use Rattle.nd_agents.specs.Relayed.{refs_in}

-- the number of that line, and the words behind it
zero_begins : (words : List (List ℕ)) → Begins 1 (codes "0" ∷ words) 0 words
zero_begins words = record { word = codes "0"; words_are = refl; reads = refl; below = omega arith }

pub line_of_lists : (bytes : List ℕ) (refs : List (List (List ℕ))) → AreLists (words_of bytes) refs → IsLine 1 1 (codes "built 0 " ++ bytes) (Command.BuiltWith 0 refs)
line_of_lists bytes refs are = record {
  first = codes "built";
  others = codes "0" ∷ words_of bytes;
  words = refl;
  verb = Built;
  names = refl;
  said = inr (record { number = 0; others = words_of bytes; operand = zero_begins (words_of bytes); refs = refs; lists = are; is = λ _. Command.BuiltWith 0 refs });
}

same_some : {X : Type 0} (x y : X) → Some x ≡ Some y → x ≡ y
same_some x y e = cc

refs_same : (c : Command) (refs more : List (List (List ℕ))) → refs_in c ≡ Some refs → (number : ℕ) → c ≡ Command.BuiltWith number more → more ≡ refs
refs_same c refs more told number is = same_some more refs (sym (ap refs_in is) ∙ told)

bare_reports : (c : Command) (refs : List (List (List ℕ))) (number : ℕ) → refs_in c ≡ Some refs → c ≡ Command.Built number → ⊥
bare_reports c refs number told is = let none : None ≡ Some refs = sym (ap refs_in is) ∙ told in cc

built_lists : (bytes : List ℕ) (c : Command) (refs : List (List (List ℕ))) → IsBuiltCall 1 Command.Built Command.BuiltWith (codes "0" ∷ words_of bytes) c → refs_in c ≡ Some refs → AreLists (words_of bytes) refs
built_lists bytes c refs call told = elim call [
  | inl bare ↦ absurd (bare_reports c refs bare.number told bare.is)
  | inr listed ↦
      let rest = same_rest 1 (codes "0" ∷ words_of bytes) listed.number 0 listed.others (words_of bytes) listed.operand (zero_begins (words_of bytes)) in
      subst (λ (ws : List (List ℕ)). AreLists ws refs) rest (subst (λ (rs : List (List (List ℕ))). AreLists listed.others rs) (refs_same c refs listed.refs told listed.number listed.is) listed.lists)
]

pub lists_of_line : (bytes : List ℕ) (c : Command) (refs : List (List (List ℕ))) → IsLine 1 1 (codes "built 0 " ++ bytes) c → refs_in c ≡ Some refs → AreLists (words_of bytes) refs
lists_of_line bytes c refs h told =
    let words : codes "built" ∷ codes "0" ∷ words_of bytes ≡ h.first ∷ h.others = h.words in
    let first : codes "built" ≡ h.first = cc in
    let others : h.others ≡ codes "0" ∷ words_of bytes = cc in
    let names : Some Built ≡ Some h.verb = ap verb_of first ∙ h.names in
    let verb : h.verb ≡ Built = cc in
    built_lists bytes c refs (subst (λ (v : Verb). IsSaid 1 1 v (codes "0" ∷ words_of bytes) c) verb (subst (λ (ws : List (List ℕ)). IsSaid 1 1 h.verb ws c) others h.said)) told

-- a line with lists is the command that reports them
one_command : (bytes : List ℕ) (c d : Command) → IsLine 1 1 (codes "built 0 " ++ bytes) c → IsLine 1 1 (codes "built 0 " ++ bytes) d → c ≡ d
one_command bytes c d h k =
    let line = codes "built 0 " ++ bytes in
    let same : c ∷ [] ≡ d ∷ [] = commands_once 1 1 (line ∷ []) (c ∷ []) (d ∷ []) (record { each = (h, tt) }) (record { each = (k, tt) }) in
    cc

-- ---- what the reader finds, and what it rules out

pub lists_said : (bytes line : List ℕ) (c : Command) (refs : List (List (List ℕ))) → line ≡ codes "built 0 " ++ bytes → IsLine 1 1 line c → Some refs ≡ refs_in c → AreLists (words_of bytes) refs
lists_said bytes line c refs e h told = lists_of_line bytes c refs (subst (λ (l : List ℕ). IsLine 1 1 l c) e h) (sym told)

pub none_said : (bytes line : List ℕ) (c : Command) → line ≡ codes "built 0 " ++ bytes → IsLine 1 1 line c → None ≡ refs_in c → (refs : List (List (List ℕ))) → AreLists (words_of bytes) refs → ⊥
none_said bytes line c e h told refs are =
    let same = one_command bytes c (Command.BuiltWith 0 refs) (subst (λ (l : List ℕ). IsLine 1 1 l c) e h) (line_of_lists bytes refs are) in
    let some : None ≡ Some refs = told ∙ ap refs_in same in
    cc

pub none_listed : (bytes line : List ℕ) (fault : LineError) → line ≡ codes "built 0 " ++ bytes → RulesOut (IsLine 1 1 line) fault → RulesOut (AreLists (words_of bytes)) fault
none_listed bytes line Bad e none = λ refs are. none (Command.BuiltWith 0 refs) (subst (λ (l : List ℕ). IsLine 1 1 l (Command.BuiltWith 0 refs)) (sym e) (line_of_lists bytes refs are))
none_listed bytes line Memory e none = tt

-- ---- words that stand where none may

some_piece : (bytes : List ℕ) → words_of bytes ≡ [] → ⊥
some_piece bytes none = let e = ap length none in absurd (omega (arith, length-slice_split (λ b. b == 32) bytes))

pub no_built : (words : Option (List ℕ)) (bytes : List ℕ) (fault : LineError) → words ≡ Some bytes → RulesOut (AreLists (words_of bytes)) fault → RulesOut (IsBuilt (pieces 32 words)) fault
no_built words bytes Bad some none = λ answer said. elim said [
  | inl bare ↦ some_piece bytes (ap (pieces 32) (sym some) ∙ bare.0)
  | inr listed ↦ none listed.refs (subst (λ (w : Option (List ℕ)). AreLists (pieces 32 w) listed.refs) some listed.lists)
]
no_built words bytes Memory some none = tt

pub no_lost : (words : Option (List ℕ)) (bytes : List ℕ) → words ≡ Some bytes → (answer : Answer) → (pieces 32 words ≡ []) × (answer ≡ Answer.Lost) → ⊥
no_lost words bytes some answer said = some_piece bytes (ap (pieces 32) (sym some) ∙ said.0)
