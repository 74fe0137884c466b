-- What threads made of the pieces of a list, one piece behind another.
use Rattle.std.proofs.Common.{◌≡◌, ℕ, ◌+◌, ◌*◌, ◌/◌, ◌%◌, ◌<◌, ◌≤◌, min, List, [], ◌∷◌, ◌++◌, length, get_or, take, Ok, IfOk, refl, sym, ap, subst, ◌∙◌, inl, inr, arith}
use Rattle.std.specs.Prelude.{Vec}
use Rattle.std.specs.Borrow.{Bor}
use Rattle.std.specs.Fork.{slice_chunk}
use Rattle.std.specs.List.{AllZip}
use Rattle.std.proofs.lemmas.Bool.{cases_lt}
use Rattle.std.proofs.lemmas.List.{get_or_at, length-append, length_push, take_all}
use Rattle.std.proofs.lemmas.Nat.{div-add-mod', mod_below}
use lib.Seq.{take-add}
use native.Mathlib.Nat.{add-mul, one-mul}
use Rattle.nd_machines.specs.Builders.{Builder}
use Rattle.nd_eligible.specs.Settings.{Settings}
use Rattle.nd_eligible.specs.declared.need.Need.{Need}
use Rattle.nd_hook.specs.declared.kinds.Reply.{Reply}
use Rattle.nd_cli.specs.ClassReplies.{IsClassReply}
use Rattle.nd_cli.specs.Shares.{AreShares, Share}

AllZip-append : {A B : Type 0} (R : A → B → Type 0) (xs : List A) (ys : List B) (vs : List A) (ws : List B) → AllZip R xs ys → AllZip R vs ws → AllZip R (xs ++ vs) (ys ++ ws)
AllZip-append R [] [] vs ws front back = back
AllZip-append R [] (y ∷ ys) vs ws front back = absurd front
AllZip-append R (x ∷ xs) [] vs ws front back = absurd front
AllZip-append R (x ∷ xs) (y ∷ ys) vs ws front back = (front.0, AllZip-append R xs ys vs ws front.1 back)

-- the piece that is next
pub next_piece : {X : Type 0} (all front rest : List X) (next : X) → all ≡ front ++ next ∷ rest → (length front < length all) × (get_or all (length front) next ≡ next)
next_piece {X} all front rest next parts =
    (omega (arith, ap (λ (xs : List X). length xs) parts, length-append front (next ∷ rest)), ap (λ (xs : List X). get_or xs (length front) next) parts ∙ get_or_at front next rest next (length front) refl)

-- one piece more
pub piece_more : {A B : Type 0} (R : A → B → Type 0) (size n : ℕ) (xs : List A) (ys zs new : List B) → AllZip R (take (n * size) xs) ys → AllZip R (slice_chunk xs size n) zs → new ≡ ys ++ zs → AllZip R (take ((n + 1) * size) xs) new
piece_more {A} {B} R size n xs ys zs new front back grown =
    let longer : (n + 1) * size ≡ n * size + size = add-mul n 1 size ∙ ap (λ (k : ℕ). n * size + k) (one-mul size) in
    subst (λ (k : ℕ). AllZip R (take k xs) new) (sym longer)
    (subst (λ (bs : List B). AllZip R (take (n * size + size) xs) bs) (sym grown)
    (subst (λ (vs : List A). AllZip R vs (ys ++ zs)) (sym (take-add (n * size) size xs)) (AllZip-append R (take (n * size) xs) ys (slice_chunk xs size n) zs front back)))

-- so many pieces hold all
pub spans : (count len size : ℕ) → 0 < size → count ≡ len / size + min 1 (len % size) → len ≤ count * size
spans count len size some is =
    let q = len / size in
    let r = len % size in
    let parts : q * size + r ≡ len = div-add-mod' len size in
    let small : r < size = mod_below len size some in
    elim (cases_lt 0 r) [
      | inl more ↦
          let one : count ≡ q + 1 = omega arith in
          let wide = ap (λ (n : ℕ). n * size) one ∙ add-mul q 1 size in
          let last = one-mul size in omega arith
      | inr none ↦
          let same : count ≡ q = omega arith in
          let wide = ap (λ (n : ℕ). n * size) same in omega arith
    ]

-- ---- the replies about some classes

-- the replies of the first shares
abbrev pub AreFirst : List Builder → Settings → ℕ → List (Bor Need) → ℕ → List Reply → Type 0
AreFirst machines local size firsts count replies = AllZip (IsClassReply machines local) (take (count * size) firsts) replies

-- one share more
module _ {A : Type 0} (machines : List Builder) (local : Settings) (size : ℕ) (firsts : List (Bor Need)) where
  pub first_more : (shares front rest : List (Share A)) (made : Share A) (share : Vec Reply A) (replies new : List Reply) → AreShares machines local size firsts shares → shares ≡ front ++ made ∷ rest → made ≡ Ok share → new ≡ replies ++ share.items
      → AreFirst machines local size firsts (length front) replies → AreFirst machines local size firsts (length (front ++ made ∷ [])) new
  first_more shares front rest made share replies new are parts is grown so =
      let R : Bor Need → Reply → Type 0 = IsClassReply machines local in
      let n : ℕ = length front in
      let next = next_piece shares front rest made parts in
      let chunk = subst (λ (s : Share A). IfOk s (λ some. AllZip R (slice_chunk firsts size n) some.items)) (next.1 ∙ is) (are.each n made next.0) in
      subst (λ (k : ℕ). AllZip R (take (k * size) firsts) new) (sym (length_push front made)) (piece_more R size n firsts replies share.items new so chunk grown)

-- all shares
pub all_first : {A : Type 0} (machines : List Builder) (local : Settings) (size : ℕ) (firsts : List (Bor Need)) (shares : List (Share A)) (replies : List Reply) → AreShares machines local size firsts shares → AreFirst machines local size firsts (length shares) replies
    → AllZip (IsClassReply machines local) firsts replies
all_first machines local size firsts shares replies are so =
    subst (λ (fs : List (Bor Need)). AllZip (IsClassReply machines local) fs replies) (take_all (length shares * size) firsts (spans (length shares) (length firsts) size are.some are.count)) so
