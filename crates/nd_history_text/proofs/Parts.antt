-- What single words of a line are read as.
use Rattle.std.proofs.Common.{◌≡◌, ◌∙◌, ◌==◌, ℕ, ◌<◌, ◌≤◌, Bool, true, false, List, [], ◌∷◌, ◌++◌, length, get_or, take, drop, take-append-drop, refl, sym, ap, subst, arith, true≢false, Option, Some, None, MatchOption, nat_eq, inl, inr, ◌⊎◌}
use Rattle.std.specs.Prelude.{codes, IfSome, if◌then◌else◌}
use Rattle.std.specs.Cmp.Lexicographic.{pointwise, same_text, other_text}
use Rattle.std.specs.Fmt.{decimal}
use Rattle.std.proofs.lemmas.Bool.{eqb-true}
use Rattle.std.proofs.Common.{eq-eqb}
use Rattle.std.proofs.lemmas.Fmt.{decimal_injective}
use Rattle.nd_bytes.specs.Compared.{bytes_same}
use Rattle.nd_bytes.specs.Cut.{pieces}
use Rattle.nd_bytes.specs.Decimal.{decimal_of, has_needless_zero}
use Rattle.nd_history.specs.declared.entry.Why.{Why}
use Rattle.nd_history.specs.declared.entry.Why.TheVariants.{Status, Lost, BadReferences, NoWorker, Memory}
use Rattle.nd_history_text.specs.HistoryTexts.{cause_words}
use Rattle.std.proofs.Math.Seq.{take-append_seam}
use Rattle.nd_history_text.specs.HistoryTexts.{first_line}
use Rattle.nd_history_text.specs.declared.kinds.Version.{Version}
use Rattle.nd_history_text.specs.declared.kinds.Version.TheVariants.{First, Second}
use Rattle.nd_history_text.specs.Sound.{greatest, IsSoundCause, HasNoVersion}
use Rattle.nd_history_text.specs.Reading.{IsNumberFirst, is_end, cause_at, kind_at, IsCause}
use Rattle.nd_history_text.specs.Lines.{word_of}
use Rattle.nd_history_text.specs.declared.kinds.Kind.{Kind}
use Rattle.nd_history_text.specs.declared.kinds.Kind.TheVariants.{Choice, NoChoice, Start, Return, Finish, Failure, Halt, Drained, Enabled}
use Rattle.nd_history_text.proofs.Decimals.{read_back, no_zero, write_back}
use Rattle.nd_history_text.proofs.Once.{same_head, same_tail, kind_again}
use Rattle.nd_history_text.proofs.LineKinds.{some_left}

-- ---- numbers

pub zero_none : (word : List ℕ) → has_needless_zero word ≡ true → (n : ℕ) → n ≤ greatest → word ≡ decimal n → ⊥
zero_none [] h n small same = true≢false (sym h)
zero_none (b ∷ []) h n small same = true≢false (sym h)
zero_none (b ∷ (next ∷ bytes)) h n small same = no_zero n next bytes small (sym same ∙ ap (λ (c : ℕ). c ∷ next ∷ bytes) (eqb-true b 48 h))

plain_first : (word : List ℕ) → has_needless_zero word ≡ false → get_or word 0 0 ≡ 48 → length word ≡ 1
plain_first [] h zero = absurd (omega arith)
plain_first (b ∷ []) h zero = refl
plain_first (b ∷ (next ∷ bytes)) h zero = absurd (true≢false (ap (λ (c : ℕ). c == 48) (sym zero) ∙ h))

pub number_told : (word : List ℕ) (r : Option ℕ) → has_needless_zero word ≡ false → r ≡ decimal_of greatest word
    → MatchOption r ((n : ℕ) → n ≤ greatest → word ≡ decimal n → ⊥) (λ n. word ≡ decimal n)
number_told word None plain h = λ n small same. (let both : None ≡ Some n = h ∙ ap (decimal_of greatest) same ∙ read_back n small in cc)
number_told word (Some n) plain h = (write_back word n (sym h) (plain_first word plain)).0

pub number_small : (word : List ℕ) (r : Option ℕ) → has_needless_zero word ≡ false → r ≡ decimal_of greatest word → IfSome r (λ n. n ≤ greatest)
number_small word None plain h = tt
number_small word (Some n) plain h = (write_back word n (sym h) (plain_first word plain)).1

pub ruleset numbers = (zero_none, number_told, number_small)

pub none_left : (n : ℕ) (rest : List (List ℕ)) → IsNumberFirst [] n rest → ⊥
none_left n rest h = let none = h.whole in cc

pub not_number : (words left : List (List ℕ)) (word : List ℕ) → words ≡ word ∷ left → ((n : ℕ) → n ≤ greatest → word ≡ decimal n → ⊥) → (n : ℕ) (rest : List (List ℕ))
    → IsNumberFirst words n rest → ⊥
not_number words left word cut none n rest h = none n h.small (same_head (sym cut ∙ h.whole))

pub is_number : (words left : List (List ℕ)) (word : List ℕ) (n : ℕ) → words ≡ word ∷ left → n ≤ greatest → word ≡ decimal n → IsNumberFirst words n left
is_number words left word n cut small same = record { small = small; whole = cut ∙ ap (λ (w : List ℕ). w ∷ left) same }

pub ruleset first_numbers = (none_left, not_number, is_number)

pub lone_more : (words : List (List ℕ)) (bytes : List ℕ) (n : ℕ) → IsNumberFirst words n (pieces 32 (Some bytes)) → (m : ℕ) → IsNumberFirst words m [] → ⊥
lone_more words bytes n h m k = some_left bytes (same_tail (sym h.whole ∙ k.whole))

pub ruleset lone_numbers = (lone_more)

-- ---- causes

pub cause_none : (why : Why) → IsCause [] why → ⊥
cause_none (Status c) h = let none = h.whole in cc
cause_none Lost h = let none = h.whole in cc
cause_none BadReferences h = let none = h.whole in cc
cause_none NoWorker h = let none = h.whole in cc
cause_none Memory h = let none = h.whole in cc

-- the first of two tests of a word decides
first_if : {A : Type 0} (word other : List ℕ) (x y : A) (rest : Option A) → (if pointwise nat_eq word other then Some x else rest) ≡ Some y
    → ((word ≡ other) × (x ≡ y)) ⊎ (rest ≡ Some y)
first_if {A} word other x y rest h = told (pointwise nat_eq word other) refl
  where
    told : (t : Bool) → pointwise nat_eq word other ≡ t → ((word ≡ other) × (x ≡ y)) ⊎ (rest ≡ Some y)
    told true e = let both : Some x ≡ Some y = rw e at h in inl (bytes_same word other e, cc)
    told false e = inr (rw e at h)

lone_word : (words : List (List ℕ)) (word other : List ℕ) (x why : Why) → words ≡ word ∷ [] → (word ≡ other) × (x ≡ why) → IsSoundCause x → cause_words x ≡ other ∷ []
    → IsCause words why
lone_word words word other x why cut h sound spelled = subst (IsCause words) h.1 (record {
  sound = sound;
  whole = cut ∙ ap (λ (w : List ℕ). w ∷ []) h.0 ∙ sym spelled;
})

cause_found : (words : List (List ℕ)) (word : List ℕ) (why : Why) → words ≡ word ∷ [] → cause_at word ≡ Some why → IsCause words why
unfolding cause_at
cause_found words word why cut h = elim (first_if word (codes "lost") Lost why _ h) [
  | inl is ↦ lone_word words word (codes "lost") Lost why cut is tt refl
  | inr h2 ↦ (elim (first_if word (codes "references") BadReferences why _ h2) [
    | inl is ↦ lone_word words word (codes "references") BadReferences why cut is tt refl
    | inr h3 ↦ (elim (first_if word (codes "noworker") NoWorker why _ h3) [
      | inl is ↦ lone_word words word (codes "noworker") NoWorker why cut is tt refl
      | inr h4 ↦ (elim (first_if word (codes "memory") Memory why None h4) [
        | inl is ↦ lone_word words word (codes "memory") Memory why cut is tt refl
        | inr none ↦ absurd (nothing none)
      ])
    ])
  ])
]
  where
    nothing : None ≡ Some why → ⊥
    nothing e = cc

cause_missed : (words : List (List ℕ)) (word : List ℕ) → words ≡ word ∷ [] → None ≡ cause_at word → (why : Why) → IsCause words why → ⊥
unfolding cause_at
cause_missed words word cut none (Status c) h = let more = same_tail (sym cut ∙ h.whole) in cc
cause_missed words word cut none Lost h = let both : None ≡ Some Lost = none ∙ ap cause_at (same_head (sym cut ∙ h.whole)) in cc
cause_missed words word cut none BadReferences h = let both : None ≡ Some BadReferences = none ∙ ap cause_at (same_head (sym cut ∙ h.whole)) in cc
cause_missed words word cut none NoWorker h = let both : None ≡ Some NoWorker = none ∙ ap cause_at (same_head (sym cut ∙ h.whole)) in cc
cause_missed words word cut none Memory h = let both : None ≡ Some Memory = none ∙ ap cause_at (same_head (sym cut ∙ h.whole)) in cc

pub lone_cause : (words : List (List ℕ)) (word : List ℕ) (r : Option Why) → words ≡ word ∷ [] → r ≡ cause_at word
    → MatchOption r ((why : Why) → IsCause words why → ⊥) (IsCause words)
lone_cause words word None cut h = cause_missed words word cut h
lone_cause words word (Some why) cut h = cause_found words word why cut (sym h)

pub cause_moved : (words others : List (List ℕ)) (r : Option Why) → words ≡ others → MatchOption r ((why : Why) → IsCause others why → ⊥) (IsCause others)
    → MatchOption r ((why : Why) → IsCause words why → ⊥) (IsCause words)
cause_moved words others r e h = subst (λ (ws : List (List ℕ)). MatchOption r ((why : Why) → IsCause ws why → ⊥) (IsCause ws)) (sym e) h

pub ruleset causes = (cause_none, lone_cause, cause_moved)

two_words : (word bytes : List ℕ) (other : List ℕ) → word ∷ pieces 32 (Some bytes) ≡ other ∷ [] → ⊥
two_words word bytes other h = some_left bytes (same_tail h)

status_by : (word bytes : List ℕ) → ((c : ℕ) → c ≤ 255 → word ∷ pieces 32 (Some bytes) ≡ cause_words (Status c) → ⊥) → (why : Why)
    → IsCause (word ∷ pieces 32 (Some bytes)) why → ⊥
status_by word bytes none (Status c) h = none c h.sound h.whole
status_by word bytes none Lost h = two_words word bytes _ h.whole
status_by word bytes none BadReferences h = two_words word bytes _ h.whole
status_by word bytes none NoWorker h = two_words word bytes _ h.whole
status_by word bytes none Memory h = two_words word bytes _ h.whole

pub status_other : (word bytes : List ℕ) → false ≡ pointwise nat_eq word (codes "status") → (why : Why) → IsCause (word ∷ pieces 32 (Some bytes)) why → ⊥
status_other word bytes other = status_by word bytes (λ c small h. other_text word (codes "status") other (same_head h))

pub status_none : (word bytes : List ℕ) → ((n : ℕ) → IsNumberFirst (pieces 32 (Some bytes)) n [] → ⊥) → (why : Why) → IsCause (word ∷ pieces 32 (Some bytes)) why → ⊥
status_none word bytes none = status_by word bytes (λ c small h. none c (record { small = omega arith; whole = same_tail h }))

pub status_large : (word bytes : List ℕ) (n : ℕ) → IsNumberFirst (pieces 32 (Some bytes)) n [] → 255 < n → (why : Why) → IsCause (word ∷ pieces 32 (Some bytes)) why → ⊥
status_large word bytes n k large = status_by word bytes
    (λ c small h.
    let same : c ≡ n = decimal_injective c n (omega arith) (omega (arith, k.small)) (same_head (sym (same_tail h) ∙ k.whole)) in omega arith)

pub status_read : (word bytes : List ℕ) (n : ℕ) → true ≡ pointwise nat_eq word (codes "status") → IsNumberFirst (pieces 32 (Some bytes)) n [] → n ≤ 255
    → IsCause (word ∷ pieces 32 (Some bytes)) (Status n)
status_read word bytes n is k small = record {
  sound = small;
  whole = ap (λ (w : List ℕ). w ∷ pieces 32 (Some bytes)) (same_text word (codes "status") is) ∙ ap (λ (ws : List (List ℕ)). codes "status" ∷ ws) k.whole;
}

pub ruleset statuses = (status_other, status_none, status_large, status_read)

-- ---- ends

pub end_by_word : (words left : List (List ℕ)) (word : List ℕ) → words ≡ word ∷ left → true ≡ pointwise nat_eq word (codes "o") → is_end words ≡ true
end_by_word words left word cut is = ap is_end cut ∙ sym is

pub no_end_by_word : (words left : List (List ℕ)) (word : List ℕ) → words ≡ word ∷ left → false ≡ pointwise nat_eq word (codes "o") → is_end words ≡ false
no_end_by_word words left word cut other = ap is_end cut ∙ sym other

pub ruleset ends = (end_by_word, no_end_by_word)

-- ---- kinds

kind_found : (word : List ℕ) (kind : Kind) → kind_at word ≡ Some kind → word ≡ word_of kind
unfolding kind_at word_of
kind_found word kind h = elim (first_if word (codes "chosen") Choice kind _ h) [
  | inl is ↦ is.0 ∙ ap word_of is.1
  | inr h2 ↦ (elim (first_if word (codes "nobuilder") NoChoice kind _ h2) [
    | inl is ↦ is.0 ∙ ap word_of is.1
    | inr h3 ↦ (elim (first_if word (codes "started") Start kind _ h3) [
      | inl is ↦ is.0 ∙ ap word_of is.1
      | inr h4 ↦ (elim (first_if word (codes "down") Return kind _ h4) [
        | inl is ↦ is.0 ∙ ap word_of is.1
        | inr h5 ↦ (elim (first_if word (codes "built") Finish kind _ h5) [
          | inl is ↦ is.0 ∙ ap word_of is.1
          | inr h6 ↦ (elim (first_if word (codes "failed") Failure kind _ h6) [
            | inl is ↦ is.0 ∙ ap word_of is.1
            | inr h7 ↦ (elim (first_if word (codes "stop") Halt kind _ h7) [
              | inl is ↦ is.0 ∙ ap word_of is.1
              | inr h8 ↦ (elim (first_if word (codes "drain") Drained kind _ h8) [
                | inl is ↦ is.0 ∙ ap word_of is.1
                | inr h9 ↦ (elim (first_if word (codes "enable") Enabled kind None h9) [
                  | inl is ↦ is.0 ∙ ap word_of is.1
                  | inr none ↦ absurd (nothing none)
                ])
              ])
            ])
          ])
        ])
      ])
    ])
  ])
]
  where
    nothing : None ≡ Some kind → ⊥
    nothing e = cc

kind_missed : (word : List ℕ) → None ≡ kind_at word → (kind : Kind) → word ≡ word_of kind → ⊥
kind_missed word none kind same = let both : None ≡ Some kind = none ∙ ap kind_at same ∙ kind_again kind in cc

pub kind_told : (word : List ℕ) (r : Option Kind) → r ≡ kind_at word → MatchOption r ((kind : Kind) → word ≡ word_of kind → ⊥) (λ kind. word ≡ word_of kind)
kind_told word None h = kind_missed word h
kind_told word (Some kind) h = kind_found word kind (sym h)

-- ---- first lines

itself : (text : List ℕ) → pointwise nat_eq text text ≡ true
itself [] = refl
itself (b ∷ text) = rw (eq-eqb b b refl) (itself text)

pub prefix_none : (text first : List ℕ) → pointwise nat_eq (take (length first) text) first ≡ false → (rest : List ℕ) → text ≡ first ++ rest → ⊥
prefix_none text first differ rest same =
    let front : take (length first) text ≡ first = ap (take (length first)) same ∙ take-append_seam first rest in
    true≢false (sym (itself first) ∙ ap (λ (t : List ℕ). pointwise nat_eq t first) (sym front) ∙ differ)

pub prefix_some : (text first rest : List ℕ) → pointwise nat_eq (take (length first) text) first ≡ true → rest ≡ drop (length first) text → text ≡ first ++ rest
prefix_some text first rest same behind =
    sym (take-append-drop (length first) text) ∙ ap (λ (t : List ℕ). t ++ drop (length first) text) (bytes_same (take (length first) text) first same)
    ∙ ap (λ (t : List ℕ). first ++ t) (sym behind)

pub ruleset fronts = (prefix_none, prefix_some)

pub no_version_first : (text first second : List ℕ) → first ≡ first_line First → second ≡ first_line Second → ((rest : List ℕ) → text ≡ first ++ rest → ⊥)
    → ((rest : List ℕ) → text ≡ second ++ rest → ⊥) → HasNoVersion text
no_version_first text first second is_first is_second none neither First rest h = none rest (h ∙ ap (λ (l : List ℕ). l ++ rest) (sym is_first))
no_version_first text first second is_first is_second none neither Second rest h = neither rest (h ∙ ap (λ (l : List ℕ). l ++ rest) (sym is_second))

pub version_is : (text first rest : List ℕ) (version : Version) → first ≡ first_line version → text ≡ first ++ rest → text ≡ first_line version ++ rest
version_is text first rest version is h = h ∙ ap (λ (l : List ℕ). l ++ rest) is

pub ruleset versions = (no_version_first, version_is)
