-- What a reader had left, by what was read of it.
use Rattle.std.proofs.Common.{◌≡◌, ℕ, suc, ◌+◌, ◌<◌, List, [], ◌∷◌, ◌++◌, Option, Some, None, sym, ap, subst, ◌∙◌, arith, take, drop, length, get_or, ◌≤◌, ◌≢◌, append_assoc, append-nil, length-append}
use Rattle.std.proofs.KnownBytes.{Consumes-trans}
use Rattle.std.proofs.Math.Seq.{drop-cons}
use Rattle.std.proofs.lemmas.List.{take_more}
use Rattle.std.specs.Io.KnownBytes.{Consumes, IsAtEnd}
use Rattle.std.proofs.lemmas.List.Elements.{All-head, All-tail, All-push}
use Rattle.nd_devices.specs.Watched.{Watched}
use Rattle.nd_agents.specs.CallTexts.{line_with}
use Rattle.nd_agents.specs.Heard.{NeverBegins, IsPlain, longest, HasNoLine, IsShort}

pub some_is : (x y : List ℕ) → Some x ≡ Some y → x ≡ y
some_is x y e = cc

-- nothing begins what is at its end
pub at_end : (known : Option (List ℕ)) (b : ℕ) (text : List ℕ) → IsAtEnd known → NeverBegins known (b ∷ text)
at_end None b text end = record { never = λ more e. cc }
at_end (Some xs) b text end = record { never = λ more e. let none : [] ≡ b ∷ (text ++ more) = sym end ∙ some_is xs (b ∷ (text ++ more)) e in cc }

-- another byte came first
pub differs : (known next : Option (List ℕ)) (b c : ℕ) (text : List ℕ) → Consumes known next (b ∷ []) → (b ≡ c → ⊥) → NeverBegins known (c ∷ text)
differs None next b c text read other = record { never = λ more e. cc }
differs (Some xs) None b c text read other = absurd read
differs (Some xs) (Some ys) b c text read other = record {
  never = λ more e. let heads : b ∷ ys ≡ c ∷ (text ++ more) = sym read ∙ some_is xs (c ∷ (text ++ more)) e in let same : b ≡ c = cc in other same;
}

-- the first byte came, and the others don't follow
pub behind : (known next : Option (List ℕ)) (b : ℕ) (text : List ℕ) → Consumes known next (b ∷ []) → NeverBegins next text → NeverBegins known (b ∷ text)
behind None next b text read none = record { never = λ more e. cc }
behind (Some xs) None b text read none = absurd read
behind (Some xs) (Some ys) b text read none = record {
  never = λ more e.
      let heads : b ∷ ys ≡ b ∷ (text ++ more) = sym read ∙ some_is xs (b ∷ (text ++ more)) e in
      let rest : ys ≡ text ++ more = cc in
      none.never more (ap Some rest);
}

-- ---- bytes that are compared one by one

pub ended_there : (known : Option (List ℕ)) (bytes : List ℕ) (i : ℕ) → i < length bytes → IsAtEnd known → NeverBegins known (drop i bytes)
ended_there known bytes i within end = subst (λ (text : List ℕ). NeverBegins known text) (sym (drop-cons bytes i 0 within)) (at_end known (get_or bytes i 0) (drop (suc i) bytes) end)

pub taken_more : (old mid new : Option (List ℕ)) (bytes : List ℕ) (i b : ℕ) → i < length bytes → b ≡ get_or bytes i 0 → Consumes old mid (take i bytes) → Consumes mid new (b ∷ [])
    → Consumes old new (take (i + 1) bytes)
taken_more old mid new bytes i b within same first then =
    subst (λ (text : List ℕ). Consumes old new text) (sym (take_more bytes i 0 within ∙ ap (λ (x : ℕ). take i bytes ++ x ∷ []) (sym same))) (Consumes-trans old mid new (take i bytes) (b ∷ []) first then)

pub onward_more : (mid new : Option (List ℕ)) (bytes : List ℕ) (i b : ℕ) → i < length bytes → b ≡ get_or bytes i 0 → Consumes mid new (b ∷ [])
    → NeverBegins new (drop (i + 1) bytes) → NeverBegins mid (drop i bytes)
onward_more mid new bytes i b within same read none =
    let next : i + 1 ≡ suc i = omega arith in
    let whole : drop i bytes ≡ b ∷ drop (suc i) bytes = drop-cons bytes i 0 within ∙ ap (λ (x : ℕ). x ∷ drop (suc i) bytes) (sym same) in
    subst (λ (text : List ℕ). NeverBegins mid text) (sym whole) (behind mid new b (drop (suc i) bytes) read (subst (λ (n : ℕ). NeverBegins new (drop n bytes)) next none))

-- ---- a line that never ends

pub tail_same : (b c : ℕ) (xs ys : List ℕ) → b ∷ xs ≡ c ∷ ys → xs ≡ ys
tail_same b c xs ys e = cc

pub head_same : (b c : ℕ) (xs ys : List ℕ) → b ∷ xs ≡ c ∷ ys → b ≡ c
head_same b c xs ys e = cc

below : (a b c : ℕ) → a ≤ b → b < c → a < c
below a b c h k = omega arith

-- plain bytes have no newline among them
newline_within : (plain rest line more : List ℕ) → IsPlain plain → length line < length plain → plain ++ rest ≡ line ++ 10 ∷ more → ⊥
newline_within [] rest line more is short e = absurd (omega arith)
newline_within (b ∷ plain) rest [] more is short e = All-head (λ b. b ≢ 10) b plain is (head_same b 10 (plain ++ rest) more e)
newline_within (b ∷ plain) rest (c ∷ line) more is short e =
    newline_within plain rest line more (All-tail (λ b. b ≢ 10) b plain is) (omega arith) (tail_same b c (plain ++ rest) (line ++ 10 ∷ more) e)

newline_in : (plain line more : List ℕ) → IsPlain plain → plain ≡ line ++ 10 ∷ more → ⊥
newline_in plain line more is e =
    newline_within plain [] line more is (omega (arith, ap length e, length-append line (10 ∷ more))) (append-nil plain ∙ e)

pub split_line : (line more : List ℕ) → line_with line ++ more ≡ line ++ 10 ∷ more
split_line line more = append_assoc line (10 ∷ []) more

pub ended_unended : (old new : Option (List ℕ)) (read : List ℕ) → Consumes old new read → IsPlain read → IsAtEnd new → HasNoLine old
ended_unended None new read took plain end = record { never = λ line more is within e. cc }
ended_unended (Some xs) None read took plain end = absurd took
ended_unended (Some xs) (Some ys) read took plain end = record {
  never = λ line more is within e.
      let all : xs ≡ read = took ∙ ap (λ (l : List ℕ). read ++ l) end ∙ append-nil read in
      newline_in read line more plain (sym all ∙ some_is xs (line_with line ++ more) e ∙ split_line line more);
}

pub long_unended : (old new : Option (List ℕ)) (read : List ℕ) → Consumes old new read → IsPlain read → longest < length read → HasNoLine old
long_unended None new read took plain long = record { never = λ line more is within e. cc }
long_unended (Some xs) None read took plain long = absurd took
long_unended (Some xs) (Some ys) read took plain long = record {
  never = λ line more is within e.
      newline_within read ys line more plain (below (length line) longest (length read) within long) (sym took ∙ some_is xs (line_with line ++ more) e ∙ split_line line more);
}

pub opening_more : {R : Type 0} (remaining : R → Option (List ℕ)) (old new : Watched R) (mid : Option (List ℕ)) (read : List ℕ) (b : ℕ) → Consumes (remaining old.device) mid read → IsPlain read
    → Consumes mid (remaining new.device) (b ∷ []) → (b ≡ 10 → ⊥) → new.is_marked ≡ old.is_marked → IsShort remaining old new
opening_more remaining old new mid read b took plain more other unmarked = record {
  opening = record {
    opening = read ++ b ∷ [];
    begun = omega (arith, length-append read (b ∷ []));
    consumed = Consumes-trans (remaining old.device) mid (remaining new.device) read (b ∷ []) took more;
    plain = All-push (λ b. b ≢ 10) read b plain other;
  };
  unmarked = unmarked;
}

pub ruleset unended = (ended_unended, long_unended, opening_more)
