-- A text says one list of items at most, and none where a line is bad; so a script, and a stand text.
use Rattle.std.proofs.Common.{◌≡◌, ℕ, ◌-◌, ◌<◌, List, [], ◌∷◌, length, get_or, zero, suc, Option, Some, refl, sym, ap, subst, ◌∙◌, arith, inl, inr}
use Rattle.std.specs.List.{AllZip}
use Rattle.std.specs.Prelude.{Result, Ok, Err, IfOk, IfErr}
use Rattle.nd_path.proofs.Rising.{rising_same}
use Rattle.nd_bytes.specs.Lines.{lines_of}
use Rattle.nd_script.specs.declared.command.Command.{Command}
use Rattle.nd_script.specs.declared.verb.Verb.{Verb}
use Rattle.nd_script.specs.declared.verb.Verb.TheVariants.{Start, StartWith, Built, Fail, Lose, Down, Stop, Drain, Enable, Ask}
use Rattle.nd_script.specs.declared.script_error.ScriptError.{ScriptError}
use Rattle.nd_script.specs.declared.script_error.ScriptError.TheVariants.{BadLine, Memory}
use Rattle.nd_script.specs.declared.rule.Rule.{Rule}
use Rattle.nd_script.specs.declared.topic.Topic.{Topic}
use Rattle.nd_script.specs.declared.topic.Topic.TheVariants.{NoConnect, NoCopy, Fail as FailTopic, Lose as LoseTopic, Built as BuiltTopic}
use Rattle.nd_script.specs.Words.{Begins, IsSetOf, IsStatus, AreLists, number_of, largest}
use Rattle.nd_script.specs.Verbs.{verb_of}
use Rattle.nd_script.specs.Calls.{IsCallWith, IsStatusCall, IsListsCall, IsBuiltCall}
use Rattle.nd_script.specs.Lines.{IsLineOf, AreItems, IsRefusedBy, OkUnlessMemory}
use Rattle.nd_script.specs.Script.{IsStartWith, IsSaid, IsLine, AreCommands}
use Rattle.nd_script.specs.Stand.{built_bare, topic_of, IsRuled, IsRuleLine, AreRules}
use Rattle.nd_script.proofs.Operands.{same_rest}
use Rattle.nd_script.proofs.Lists.{nothing_listed}

same_some : {X : Type 0} (x y : X) → Some x ≡ Some y → x ≡ y
same_some x y e = cc

same_number : (bound : ℕ) (words : List (List ℕ)) (n m : ℕ) (rest more : List (List ℕ)) → Begins bound words n rest → Begins bound words m more → n ≡ m
same_number bound words n m rest more h k =
    let word : h.word ≡ k.word = cc (h.words_are, k.words_are) in
    same_some n m (sym h.reads ∙ ap (number_of largest) word ∙ k.reads)

same_status : (words : List (List ℕ)) (n m : ℕ) → IsStatus words n → IsStatus words m → n ≡ m
same_status words n m h k =
    let word : h.word ≡ k.word = cc (h.words_are, k.words_are) in
    same_some n m (sym h.reads ∙ ap (number_of 255) word ∙ k.reads)

set_once : (words paths others : List (List ℕ)) → IsSetOf words paths → IsSetOf words others → paths ≡ others
set_once words paths others h k = rising_same paths others h.rising k.rising (record {
  to = λ p there. k.members.to p (h.members.from p there);
  from = λ p there. h.members.to p (k.members.from p there);
})

AllZip-once : {A B : Type 0} (R : A → B → Type 0) → ((x : A) (y z : B) → R x y → R x z → y ≡ z) → (xs : List A) (ys zs : List B) → AllZip R xs ys → AllZip R xs zs → ys ≡ zs
AllZip-once R once [] [] [] h k = refl
AllZip-once R once [] [] (z ∷ zs) h k = absurd k
AllZip-once R once [] (y ∷ ys) zs h k = absurd h
AllZip-once R once (x ∷ xs) [] zs h k = absurd h
AllZip-once R once (x ∷ xs) (y ∷ ys) [] h k = absurd k
AllZip-once R once (x ∷ xs) (y ∷ ys) (z ∷ zs) h k = let first = once x y z h.0 k.0 in let others = AllZip-once R once xs ys zs h.1 k.1 in cc

tail_is : {X : Type 0} (x y : X) (xs ys : List X) → x ∷ xs ≡ y ∷ ys → xs ≡ ys
tail_is x y xs ys e = cc

lists_once : (words : List (List ℕ)) (sets others : List (List (List ℕ))) → AreLists words sets → AreLists words others → sets ≡ others
lists_once words sets others h k =
    let same = tail_is [] [] h.lists k.lists (sym h.cut ∙ k.cut) in
    AllZip-once IsSetOf set_once k.lists sets others (subst (λ (lists : List (List (List ℕ))). AllZip IsSetOf lists sets) same h.each) k.each

call_once : {X : Type 0} (bound : ℕ) (call : ℕ → X) (words : List (List ℕ)) (c d : X) → IsCallWith bound call words c → IsCallWith bound call words d → c ≡ d
call_once bound call words c d h k = h.is ∙ ap call (same_number bound words h.number k.number [] [] h.operand k.operand) ∙ sym k.is

start_once : (drvs : ℕ) (words : List (List ℕ)) (c d : Command) → IsStartWith drvs words c → IsStartWith drvs words d → c ≡ d
start_once drvs words c d h k =
    let rest = same_rest drvs words h.drv k.drv h.others k.others h.operand k.operand in
    let paths = set_once k.others h.paths k.paths (subst (λ (ws : List (List ℕ)). IsSetOf ws h.paths) rest h.set) k.set in
    h.is ∙ ap (λ (n : ℕ). Command.StartWith n h.paths) (same_number drvs words h.drv k.drv h.others k.others h.operand k.operand) ∙ ap (Command.StartWith k.drv) paths ∙ sym k.is

status_once : {X : Type 0} (bound : ℕ) (call : ℕ → ℕ → X) (words : List (List ℕ)) (c d : X) → IsStatusCall bound call words c → IsStatusCall bound call words d → c ≡ d
status_once bound call words c d h k =
    let rest = same_rest bound words h.number k.number h.others k.others h.operand k.operand in
    let status = same_status k.others h.status k.status (subst (λ (ws : List (List ℕ)). IsStatus ws h.status) rest h.reads) k.reads in
    h.is ∙ ap (λ (n : ℕ). call n h.status) (same_number bound words h.number k.number h.others k.others h.operand k.operand) ∙ ap (call k.number) status ∙ sym k.is

listed_once : {X : Type 0} (bound : ℕ) (call : ℕ → List (List (List ℕ)) → X) (words : List (List ℕ)) (c d : X) → IsListsCall bound call words c → IsListsCall bound call words d → c ≡ d
listed_once bound call words c d h k =
    let rest = same_rest bound words h.number k.number h.others k.others h.operand k.operand in
    let refs = lists_once k.others h.refs k.refs (subst (λ (ws : List (List ℕ)). AreLists ws h.refs) rest h.lists) k.lists in
    h.is ∙ ap (λ (n : ℕ). call n h.refs) (same_number bound words h.number k.number h.others k.others h.operand k.operand) ∙ ap (call k.number) refs ∙ sym k.is

-- lists and none at all exclude one another
bare_or_lists : {X : Type 0} (bound : ℕ) (bare : ℕ → X) (listed : ℕ → List (List (List ℕ)) → X) (words : List (List ℕ)) (c d : X) → IsCallWith bound bare words c → IsListsCall bound listed words d → ⊥
bare_or_lists bound bare listed words c d h k =
    nothing_listed k.refs (subst (λ (ws : List (List ℕ)). AreLists ws k.refs) (same_rest bound words k.number h.number k.others [] k.operand h.operand) k.lists)

built_once : {X : Type 0} (bound : ℕ) (bare : ℕ → X) (listed : ℕ → List (List (List ℕ)) → X) (words : List (List ℕ)) (c d : X) → IsBuiltCall bound bare listed words c → IsBuiltCall bound bare listed words d
    → c ≡ d
built_once bound bare listed words c d h k = elim h [
  | inl alone ↦ elim k [ inl too ↦ call_once bound bare words c d alone too | inr lists ↦ absurd (bare_or_lists bound bare listed words c d alone lists) ]
  | inr lists ↦ elim k [ inl alone ↦ absurd (bare_or_lists bound bare listed words d c alone lists) | inr too ↦ listed_once bound listed words c d lists too ]
]

said_once : (drvs machines : ℕ) (verb : Verb) (words : List (List ℕ)) (c d : Command) → IsSaid drvs machines verb words c → IsSaid drvs machines verb words d → c ≡ d
said_once drvs machines Start words c d h k = call_once drvs Command.Start words c d h k
said_once drvs machines StartWith words c d h k = start_once drvs words c d h k
said_once drvs machines Built words c d h k = built_once drvs Command.Built Command.BuiltWith words c d h k
said_once drvs machines Fail words c d h k = status_once drvs Command.Fail words c d h k
said_once drvs machines Lose words c d h k = call_once drvs Command.Lose words c d h k
said_once drvs machines Down words c d h k = call_once drvs Command.Down words c d h k
said_once drvs machines Stop words c d h k = h.1 ∙ sym k.1
said_once drvs machines Drain words c d h k = call_once machines Command.Drain words c d h k
said_once drvs machines Enable words c d h k = call_once machines Command.Enable words c d h k
said_once drvs machines Ask words c d h k = call_once drvs Command.Ask words c d h k

ruled_once : (drvs machines : ℕ) (topic : Topic) (words : List (List ℕ)) (c d : Rule) → IsRuled drvs machines topic words c → IsRuled drvs machines topic words d → c ≡ d
ruled_once drvs machines NoConnect words c d h k = call_once machines Rule.NoConnect words c d h k
ruled_once drvs machines NoCopy words c d h k = call_once machines Rule.NoCopy words c d h k
ruled_once drvs machines FailTopic words c d h k = status_once drvs Rule.Fail words c d h k
ruled_once drvs machines LoseTopic words c d h k = call_once drvs Rule.Lose words c d h k
ruled_once drvs machines BuiltTopic words c d h k = built_once drvs built_bare Rule.Built words c d h k

line_once : {V X : Type 0} (verb_of : List ℕ → Option V) (Said : V → List (List ℕ) → X → Type 0)
    → ((verb : V) (words : List (List ℕ)) (c d : X) → Said verb words c → Said verb words d → c ≡ d) → (line : List ℕ) (c d : X) → IsLineOf verb_of Said line c → IsLineOf verb_of Said line d → c ≡ d
line_once {V} {X} verb_of Said once line c d h k =
    let first : h.first ≡ k.first = cc (h.words, k.words) in
    let rest : h.others ≡ k.others = cc (h.words, k.words) in
    let verb = same_some h.verb k.verb (sym h.names ∙ ap verb_of first ∙ k.names) in
    once k.verb k.others c d (subst (λ (v : V). Said v k.others c) verb (subst (λ (ws : List (List ℕ)). Said h.verb ws c) rest h.said)) k.said

pub commands_once : (drvs machines : ℕ) (lines : List (List ℕ)) (commands others : List Command) → AreCommands drvs machines lines commands → AreCommands drvs machines lines others → commands ≡ others
commands_once drvs machines lines commands others h k =
    AllZip-once (IsLine drvs machines) (line_once verb_of (IsSaid drvs machines) (said_once drvs machines)) lines commands others h.each k.each

pub rules_once : (drvs machines : ℕ) (lines : List (List ℕ)) (rules others : List Rule) → AreRules drvs machines lines rules → AreRules drvs machines lines others → rules ≡ others
rules_once drvs machines lines rules others h k =
    AllZip-once (IsRuleLine drvs machines) (line_once topic_of (IsRuled drvs machines) (ruled_once drvs machines)) lines rules others h.each k.each

AllZip-at : {A B : Type 0} (R : A → B → Type 0) (xs : List A) (ys : List B) (i : ℕ) (d : A) (e : B) → AllZip R xs ys → i < length xs → R (get_or xs i d) (get_or ys i e)
AllZip-at R [] ys i d e each within = absurd (omega arith)
AllZip-at R (x ∷ xs) [] i d e each within = absurd each
AllZip-at R (x ∷ xs) (y ∷ ys) zero d e each within = each.0
AllZip-at R (x ∷ xs) (y ∷ ys) (suc i) d e each within = AllZip-at R xs ys i d e each.1 (omega arith)

-- and it is refused for want of memory alone where it says one; `some` is any item
pub memory_alone : {X : Type 0} (Says : List ℕ → X → Type 0) (some : X) (text : List ℕ) (e : ScriptError) (items : List X) → IsRefusedBy Says text e → AreItems Says (lines_of text) items → e ≡ Memory
memory_alone Says some text (BadLine n) items bad are =
    absurd (bad.bad (get_or items (n - 1) some) (AllZip-at Says (lines_of text) items (n - 1) [] some are.each (omega (arith, bad.counted, bad.within))))
memory_alone Says some text Memory items bad are = refl

-- where a text says one list at most, an answer that is found and refused rightly is that list, or want of memory
pub exactly_these : {X V : Type 0} (Says : List ℕ → X → Type 0) (some : X) → ((lines : List (List ℕ)) (items others : List X) → AreItems Says lines items → AreItems Says lines others → items ≡ others)
    → (text : List ℕ) (result : Result V ScriptError) (items_of : V → List X) → IfOk result (λ v. AreItems Says (lines_of text) (items_of v)) → IfErr result (IsRefusedBy Says text)
    → (items : List X) → AreItems Says (lines_of text) items → OkUnlessMemory result (λ v. items_of v ≡ items)
exactly_these Says some once text (Ok v) items_of found refused items are = once (lines_of text) (items_of v) items found are
exactly_these Says some once text (Err e) items_of found refused items are = memory_alone Says some text e items refused are
