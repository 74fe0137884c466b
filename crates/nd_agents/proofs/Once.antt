-- An answer's line says one thing at most.
use Rattle.std.proofs.Common.{◌≡◌, ℕ, List, [], ◌∷◌, Some, refl, sym, ap, subst, ◌∙◌, inl, inr}
use Rattle.std.specs.Prelude.{Result, Ok, Err, IfOk, IfErr}
use Rattle.std.specs.List.{AllZip}
use Rattle.nd_path.proofs.Rising.{rising_same}
use Rattle.nd_script.specs.declared.line_error.LineError.{LineError}
use Rattle.nd_script.specs.declared.line_error.LineError.TheVariants.{Bad, Memory}
use Rattle.nd_script.specs.Words.{Begins, IsSetOf, AreLists, number_of, largest}
use Rattle.nd_script.specs.Faults.{RulesOut}
use Rattle.nd_script.proofs.Lists.{nothing_listed}
use Rattle.nd_transports.specs.declared.kinds.Answer.{Answer}
use Rattle.nd_agents.specs.declared.ending.Ending.{Ending}
use Rattle.nd_agents.specs.declared.ending.Ending.TheVariants.{Built, Failed, Lost}
use Rattle.nd_agents.specs.AnswerTexts.{ending_of, IsListed, IsBuilt, IsEnding, IsAnswer, HasLists, IsAnswerFor, OkUnlessMemory}

same_some : {X : Type 0} (x y : X) → Some x ≡ Some y → x ≡ y
same_some x y e = cc

same_number : (bound : ℕ) (words : List (List ℕ)) (n m : ℕ) (rest more : List (List ℕ)) → Begins bound words n rest → Begins bound words m more → n ≡ m
same_number bound words n m rest more h k =
    let word : h.word ≡ k.word = cc (h.words_are, k.words_are) in
    same_some n m (sym h.reads ∙ ap (number_of largest) word ∙ k.reads)

set_once : (words paths others : List (List ℕ)) → IsSetOf words paths → IsSetOf words others → paths ≡ others
set_once words paths others h k = rising_same paths others h.rising k.rising (record {
  to = λ p there. k.members.to p (h.members.from p there);
  from = λ p there. h.members.to p (k.members.from p there);
})

sets_once : (lists sets others : List (List (List ℕ))) → AllZip IsSetOf lists sets → AllZip IsSetOf lists others → sets ≡ others
sets_once [] [] [] h k = refl
sets_once [] [] (z ∷ zs) h k = absurd k
sets_once [] (y ∷ ys) zs h k = absurd h
sets_once (x ∷ xs) [] zs h k = absurd h
sets_once (x ∷ xs) (y ∷ ys) [] h k = absurd k
sets_once (x ∷ xs) (y ∷ ys) (z ∷ zs) h k = let first = set_once x y z h.0 k.0 in let others = sets_once xs ys zs h.1 k.1 in cc

tail_is : {X : Type 0} (x y : X) (xs ys : List X) → x ∷ xs ≡ y ∷ ys → xs ≡ ys
tail_is x y xs ys e = cc

lists_once : (words : List (List ℕ)) (sets others : List (List (List ℕ))) → AreLists words sets → AreLists words others → sets ≡ others
lists_once words sets others h k =
    let same = tail_is [] [] h.lists k.lists (sym h.cut ∙ k.cut) in
    sets_once k.lists sets others (subst (λ (lists : List (List (List ℕ))). AllZip IsSetOf lists sets) same h.each) k.each

bare_or_listed : (words : List (List ℕ)) (a : Answer) → words ≡ [] → IsListed words a → ⊥
bare_or_listed words a none h = nothing_listed h.refs (subst (λ (ws : List (List ℕ)). AreLists ws h.refs) none h.lists)

built_once : (words : List (List ℕ)) (a b : Answer) → IsBuilt words a → IsBuilt words b → a ≡ b
built_once words a b h k = elim h [
  | inl bare ↦ elim k [ inl too ↦ bare.1 ∙ sym too.1 | inr listed ↦ absurd (bare_or_listed words b bare.0 listed) ]
  | inr listed ↦ elim k [
    | inl bare ↦ absurd (bare_or_listed words a bare.0 listed)
    | inr too ↦ listed.is ∙ ap Answer.Built (lists_once words listed.refs too.refs listed.lists too.lists) ∙ sym too.is
  ]
]

ended_once : (ending : Ending) (words : List (List ℕ)) (a b : Answer) → IsEnding ending words a → IsEnding ending words b → a ≡ b
ended_once Built words a b h k = built_once words a b h k
ended_once Failed words a b h k = h.is ∙ ap Answer.Status (same_number 256 words h.number k.number [] [] h.operand k.operand) ∙ sym k.is
ended_once Lost words a b h k = h.1 ∙ sym k.1

pub answer_once : (line : List ℕ) (a b : Answer) → IsAnswer line a → IsAnswer line b → a ≡ b
answer_once line a b h k =
    let first : h.first ≡ k.first = cc (h.words, k.words) in
    let rest : h.others ≡ k.others = cc (h.words, k.words) in
    let ending = same_some h.verb k.verb (sym h.names ∙ ap ending_of first ∙ k.names) in
    ended_once k.verb k.others a b (subst (λ (e : Ending). IsEnding e k.others a) ending (subst (λ (ws : List (List ℕ)). IsEnding h.verb ws a) rest h.said)) k.said

-- .. so it answers a build of so many outputs in one way at most
pub for_once : (outputs : ℕ) (line : List ℕ) (a b : Answer) → IsAnswerFor outputs line a → IsAnswerFor outputs line b → a ≡ b
for_once outputs line a b h k = answer_once line a b h.says k.says

-- what it says has another number of lists, so it is no answer
pub other_lists : (outputs : ℕ) (line : List ℕ) (a : Answer) → IsAnswer line a → (HasLists outputs a → ⊥) → RulesOut (IsAnswerFor outputs line) Bad
other_lists outputs line a says other = λ b is. other (subst (HasLists outputs) (answer_once line b a is.says says) is.lists)

-- it says nothing, so it is no answer
pub none_for : (outputs : ℕ) (line : List ℕ) (fault : LineError) → RulesOut (IsAnswer line) fault → RulesOut (IsAnswerFor outputs line) fault
none_for outputs line Bad none = λ b is. none b is.says
none_for outputs line Memory none = tt

-- what is found and refused rightly is that answer, or want of memory
pub exactly_that : (outputs : ℕ) (line : List ℕ) (result : Result Answer LineError) → IfOk result (IsAnswerFor outputs line)
    → IfErr result (RulesOut (IsAnswerFor outputs line)) → (answer : Answer) → IsAnswerFor outputs line answer → OkUnlessMemory result (λ read. read ≡ answer)
exactly_that outputs line (Ok read) found refused answer is = for_once outputs line read answer found is
exactly_that outputs line (Err Bad) found refused answer is = absurd (refused answer is)
exactly_that outputs line (Err Memory) found refused answer is = refl
