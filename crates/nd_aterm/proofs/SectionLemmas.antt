-- Lemmas on the two sections of a derivation text.
use Rattle.std.proofs.Common.{◌≡◌, ℕ, List, ◌++◌, refl, sym, ap, ◌∙◌, codes}
use Rattle.nd_aterm.specs.declared.records.Parts.{Parts}
use Rattle.nd_aterm.specs.declared.selecting.Paths.{Paths}
use Rattle.nd_aterm.specs.SpellingOnce.{IsOnce, tail_is}
use Rattle.nd_aterm.specs.Derivations.{derivation}
use Rattle.nd_aterm.specs.DerivationsOnce.{strings_once, outputs_once, input_drvs_once}
use Rattle.nd_aterm.specs.Sections.{Command, paths, command, joined}

-- a derivation text is the word and its two sections
pub of_sections : (p : Paths) (c : Command) (rest : List ℕ) → derivation (joined p c) rest ≡ codes "Derive(" ++ paths p (command c rest)
unfolding derivation paths command
of_sections p c rest = refl

pub paths_once : IsOnce paths
unfolding paths
paths_once p q r s e =
    let outputs = outputs_once _ _ _ _ e in
    let input_drvs = input_drvs_once _ _ _ _ (tail_is outputs.1) in
    let input_srcs = strings_once _ _ _ _ (tail_is input_drvs.1) in
    (λ k. record { outputs = outputs.0 k; input_drvs = input_drvs.0 k; input_srcs = input_srcs.0 k }, tail_is input_srcs.1)

-- the paths of these parts
abbrev paths_of : Parts → Paths
paths_of p = record { outputs = p.outputs; input_drvs = p.input_drvs; input_srcs = p.input_srcs }

-- how these parts are built
abbrev command_of : Parts → Command
command_of p = record { platform = p.platform; builder = p.builder; args = p.args; env = p.env }

-- behind the word
word_is : (r s : List ℕ) → codes "Derive(" ++ r ≡ codes "Derive(" ++ s → r ≡ s
word_is r s e = tail_is (tail_is (tail_is (tail_is (tail_is (tail_is (tail_is e))))))

-- the two sections spell a derivation
pub both_found : (bytes behind next rest : List ℕ) (p : Paths) (c : Command)
    → bytes ≡ codes "Derive(" ++ behind → behind ≡ paths p next → next ≡ command c rest
    → bytes ≡ derivation (joined p c) rest
both_found bytes behind next rest p c word first second =
    word ∙ ap (λ (xs : List ℕ). codes "Derive(" ++ xs) (first ∙ ap (paths p) second) ∙ sym (of_sections p c rest)

-- no word, no derivation
pub no_word : (bytes : List ℕ) → ((rest : List ℕ) → bytes ≡ codes "Derive(" ++ rest → ⊥)
    → (p : Parts) (rest : List ℕ) → bytes ≡ derivation p rest → ⊥
no_word bytes none p rest e = none (paths (paths_of p) (command (command_of p) rest)) (e ∙ of_sections (paths_of p) (command_of p) rest)

-- no first section, no derivation
pub no_paths : (bytes behind : List ℕ) → bytes ≡ codes "Derive(" ++ behind
    → ((p : Paths) (rest : List ℕ) → behind ≡ paths p rest → ⊥)
    → (p : Parts) (rest : List ℕ) → bytes ≡ derivation p rest → ⊥
no_paths bytes behind word none p rest e =
    none (paths_of p) (command (command_of p) rest) (word_is _ _ (sym word ∙ e ∙ of_sections (paths_of p) (command_of p) rest))

-- no second section, no derivation
pub no_command : (bytes behind next : List ℕ) (q : Paths) → bytes ≡ codes "Derive(" ++ behind → behind ≡ paths q next
    → ((c : Command) (rest : List ℕ) → next ≡ command c rest → ⊥)
    → (p : Parts) (rest : List ℕ) → bytes ≡ derivation p rest → ⊥
no_command bytes behind next q word first none p rest e =
    none (command_of p) rest (paths_once q (paths_of p) next (command (command_of p) rest)
    (sym first ∙ word_is _ _ (sym word ∙ e ∙ of_sections (paths_of p) (command_of p) rest))).1
