-- Lemmas on the spelling of strings.
use Rattle.std.proofs.Common.{◌≡◌, ◌≢◌, ◌≤◌, ◌<◌, ℕ, zero, suc, List, [], ◌∷◌, ◌++◌, length, take, drop, get_or, get_or-drop, None, ◌+◌, refl, sym, ap, subst, ◌∙◌, append_assoc, arith}
use Rattle.std.proofs.lemmas.List.{length-drop}
use Rattle.std.proofs.Math.Seq.{take-suc}
use Rattle.nd_aterm.specs.PlainBytes.{ArePlainTo}
use Rattle.nd_aterm.specs.Spelling.{quote, letter_of, spelled, character, characters, IsPlain}
use Rattle.nd_aterm.specs.SpellingOnce.{character_once, character_quote}

pub characters-append : (cs ds rest : List ℕ) → characters (cs ++ ds) rest ≡ characters cs (characters ds rest)
characters-append [] ds rest = refl
characters-append (c ∷ cs) ds rest = ap (character c) (characters-append cs ds rest)

-- Where neither a byte of a string nor a quote comes next, what is read so far goes on to no string.
pub characters_end : (cs rest : List ℕ) → ((c : ℕ) (r : List ℕ) → rest ≡ character c r → ⊥) → ((r : List ℕ) → rest ≡ quote ∷ r → ⊥)
    → (ds r : List ℕ) → characters cs rest ≡ characters ds (quote ∷ r) → ⊥
characters_end [] rest no_byte no_quote [] r e = no_quote r e
characters_end [] rest no_byte no_quote (d ∷ ds) r e = no_byte d _ e
characters_end (c ∷ cs) rest no_byte no_quote [] r e = character_quote c _ r e
characters_end (c ∷ cs) rest no_byte no_quote (d ∷ ds) r e = characters_end cs rest no_byte no_quote ds r (character_once c d _ _ e).1

pub character-plain : (c : ℕ) (rest : List ℕ) → letter_of c ≡ None → character c rest ≡ c ∷ rest
unfolding character
character-plain c rest none = ap (λ letter. spelled letter c rest) none

-- one more byte that is spelled as it is
pub IsPlain-push : (cs : List ℕ) (c : ℕ) → IsPlain cs → letter_of c ≡ None → IsPlain (cs ++ c ∷ [])
IsPlain-push cs c plain none rest =
    characters-append cs (c ∷ []) rest ∙ ap (characters cs) (character-plain c rest none) ∙ plain (c ∷ rest) ∙ sym (append_assoc cs (c ∷ []) rest)

-- bytes that are spelled as they are, behind others
pub characters-plain : (cs plain rest : List ℕ) → IsPlain plain → characters (cs ++ plain) rest ≡ characters cs (plain ++ rest)
characters-plain cs plain rest as_is = characters-append cs plain rest ∙ ap (characters cs) (as_is rest)

-- one more byte, and bytes behind it that are spelled as they are
pub characters-step : (cs : List ℕ) (c : ℕ) (plain rest : List ℕ) → IsPlain plain → characters ((cs ++ c ∷ []) ++ plain) rest ≡ characters cs (character c (plain ++ rest))
characters-step cs c plain rest as_is = characters-plain (cs ++ c ∷ []) plain rest as_is ∙ characters-append cs (c ∷ []) (plain ++ rest)

-- a text with bytes behind it that are spelled as they are
pub written_plain : (out new bytes plain after : List ℕ) → new ≡ out ++ plain → bytes ≡ plain ++ after → IsPlain plain
    → (rest : List ℕ) → new ++ characters after rest ≡ out ++ characters bytes rest
written_plain out new bytes plain after is split as_is rest =
    ap (λ t. t ++ characters after rest) is ∙ append_assoc out plain (characters after rest)
    ∙ ap (λ t. out ++ t) (sym (characters-append plain after rest ∙ as_is (characters after rest)))
    ∙ ap (λ t. out ++ characters t rest) (sym split)

-- bytes in front that have no escape are spelled as they are
pub plain_to : (bytes : List ℕ) (n : ℕ) → n ≤ length bytes → ArePlainTo bytes n → IsPlain (take n bytes)
plain_to bytes zero within plain = λ rest. refl
plain_to bytes (suc n) within plain =
    rw (take-suc bytes n 0 (omega arith))
    (IsPlain-push (take n bytes) (get_or bytes n 0) (plain_to bytes n (omega arith) (record { each = λ k low. plain.each k (omega arith) })) (plain.each n (omega arith)))

-- what stands behind the first n bytes begins with the byte there
pub begins : (bytes : List ℕ) (n : ℕ) → (n < length bytes → letter_of (get_or bytes n 0) ≢ None)
    → 0 < length (drop n bytes) → letter_of (get_or (drop n bytes) 0 0) ≢ None
begins bytes n ends some =
    let same : n + 0 ≡ n = omega arith in
    subst (λ x. letter_of x ≢ None) (sym (get_or-drop n bytes 0 0 ∙ ap (λ j. get_or bytes j 0) same)) (ends (omega (arith, length-drop n bytes)))
