-- What a cut finds: over a front in which nothing passes, and what follows it.
use Rattle.std.proofs.Common.{◌≡◌, ◌==◌, ◌<◌, ◌≤◌, ◌+◌, ℕ, Bool, true, false, List, [], ◌∷◌, ◌++◌, length, take, drop, get_or, None, Some, refl, ap, sym, subst, ◌∙◌, add-one, arith}
use Rattle.std.specs.List.{slice_split}
use Rattle.std.proofs.Math.Seq.{split_at}
use Rattle.std.proofs.lemmas.List.{take_all, get_or_default, get_or-take, length-take-le}
use Rattle.std.proofs.lemmas.List.Splits.{slice_split_at, slice_split_none}
use Rattle.std.specs.List.{All}
use Rattle.std.proofs.lemmas.List.Elements.{All-head, All-tail}
use Rattle.memchr.specs.Find.{Nowhere, Passes, is_byte}
use Rattle.nd_bytes.specs.Cut.{until, behind}

pub until-append : (p : ℕ → Bool) (xs : List ℕ) (y : ℕ) (ys : List ℕ) → All (λ x. p x ≡ false) xs → p y ≡ true → until p (xs ++ y ∷ ys) ≡ xs
until-append p [] y ys none here = rw here refl
until-append p (x ∷ xs) y ys none here =
    let first = All-head (λ (x : ℕ). p x ≡ false) x xs none in
    rw first (ap (λ (zs : List ℕ). x ∷ zs) (until-append p xs y ys (All-tail (λ (x : ℕ). p x ≡ false) x xs none) here))

pub behind-append : (p : ℕ → Bool) (xs : List ℕ) (y : ℕ) (ys : List ℕ) → All (λ x. p x ≡ false) xs → p y ≡ true → behind p (xs ++ y ∷ ys) ≡ Some ys
behind-append p [] y ys none here = rw here refl
behind-append p (x ∷ xs) y ys none here =
    let first = All-head (λ (x : ℕ). p x ≡ false) x xs none in
    rw first (behind-append p xs y ys (All-tail (λ (x : ℕ). p x ≡ false) x xs none) here)

pub until_all : (p : ℕ → Bool) (xs : List ℕ) → All (λ x. p x ≡ false) xs → until p xs ≡ xs
until_all p [] none = refl
until_all p (x ∷ xs) none =
    let first = All-head (λ (x : ℕ). p x ≡ false) x xs none in
    rw first (ap (λ (zs : List ℕ). x ∷ zs) (until_all p xs (All-tail (λ (x : ℕ). p x ≡ false) x xs none)))

pub behind_all : (p : ℕ → Bool) (xs : List ℕ) → All (λ x. p x ≡ false) xs → behind p xs ≡ None
behind_all p [] none = refl
behind_all p (x ∷ xs) none =
    let first = All-head (λ (x : ℕ). p x ≡ false) x xs none in
    rw first (behind_all p xs (All-tail (λ (x : ℕ). p x ≡ false) x xs none))

-- a list, cut at a place
cut_at : (xs : List ℕ) (i : ℕ) → i < length xs → xs ≡ take i xs ++ get_or xs i 0 ∷ drop (i + 1) xs
cut_at xs i within = split_at xs i 0 within ∙ ap (λ (n : ℕ). take i xs ++ get_or xs i 0 ∷ drop n xs) (sym (add-one i))

-- what a cut at a place gives, where that place is the first that passes
pub whole_at : (p : ℕ → Bool) (xs : List ℕ) (i : ℕ) → i < length xs → All (λ x. p x ≡ false) (take i xs) → p (get_or xs i 0) ≡ true → slice_split p xs ≡ take i xs ∷ slice_split p (drop (i + 1) xs)
whole_at p xs i within none here = ap (slice_split p) (cut_at xs i within) ∙ slice_split_at p (take i xs) (get_or xs i 0) (drop (i + 1) xs) none here

until_at : (p : ℕ → Bool) (xs : List ℕ) (i : ℕ) → i < length xs → All (λ x. p x ≡ false) (take i xs) → p (get_or xs i 0) ≡ true → until p xs ≡ take i xs
until_at p xs i within none here = ap (until p) (cut_at xs i within) ∙ until-append p (take i xs) (get_or xs i 0) (drop (i + 1) xs) none here

behind_at : (p : ℕ → Bool) (xs : List ℕ) (i : ℕ) → i < length xs → All (λ x. p x ≡ false) (take i xs) → p (get_or xs i 0) ≡ true → behind p xs ≡ Some (drop (i + 1) xs)
behind_at p xs i within none here = ap (behind p) (cut_at xs i within) ∙ behind-append p (take i xs) (get_or xs i 0) (drop (i + 1) xs) none here

-- what it gives where no place passes, once the whole list has been seen
pub whole_none : (p : ℕ → Bool) (xs : List ℕ) (i : ℕ) → length xs ≤ i → All (λ x. p x ≡ false) (take i xs) → slice_split p xs ≡ xs ∷ []
whole_none p xs i seen none = slice_split_none p xs (subst (λ (ys : List ℕ). All (λ (x : ℕ). p x ≡ false) ys) (take_all i xs seen) none)

-- ---- what a search for the first byte finds

-- where none of the first i bytes passes, all of them don't
all_before : (p : ℕ → Bool) (xs : List ℕ) (i : ℕ) → i ≤ length xs → ((j : ℕ) → j < i → p (get_or xs j 0) ≡ false) → All (λ x. p x ≡ false) (take i xs)
all_before p xs i within none = λ k d lt.
    let low : k < i = omega (arith, lt, length-take-le i xs within) in
    let same : get_or (take i xs) k d ≡ get_or xs k 0 = get_or-take i xs k d low ∙ get_or_default xs k d 0 (omega (arith, low, within)) in
    ap p same ∙ none k low

fails : (b : Bool) → ((b ≡ true) → ⊥) → b ≡ false
fails true not = absurd (not refl)
fails false not = refl

-- the byte is nowhere before place i
before : (byte : ℕ) (xs : List ℕ) (i : ℕ) → i ≤ length xs → Nowhere (Passes (is_byte byte) xs) 0 i → All (λ x. (x == byte) ≡ false) (take i xs)
before byte xs i within none = all_before (λ b. b == byte) xs i within (λ j lt. fails (get_or xs j 0 == byte) (none j (omega arith) lt))

nowhere : (byte : ℕ) (xs : List ℕ) → Nowhere (Passes (is_byte byte) xs) 0 (length xs) → All (λ x. (x == byte) ≡ false) xs
nowhere byte xs none = subst (λ (ys : List ℕ). All (λ (x : ℕ). (x == byte) ≡ false) ys) (take_all (length xs) xs (omega arith)) (before byte xs (length xs) (omega arith) none)

pub whole_found : (byte : ℕ) (xs : List ℕ) (i : ℕ) → i < length xs → Nowhere (Passes (is_byte byte) xs) 0 i → Passes (is_byte byte) xs i → slice_split (λ b. b == byte) xs ≡ take i xs ∷ slice_split (λ b. b == byte) (drop (i + 1) xs)
whole_found byte xs i within none here = whole_at (λ b. b == byte) xs i within (before byte xs i (omega arith) none) here

pub until_found : (byte : ℕ) (xs : List ℕ) (i : ℕ) → i < length xs → Nowhere (Passes (is_byte byte) xs) 0 i → Passes (is_byte byte) xs i → take i xs ≡ until (λ b. b == byte) xs
until_found byte xs i within none here = sym (until_at (λ b. b == byte) xs i within (before byte xs i (omega arith) none) here)

pub behind_found : (byte : ℕ) (xs : List ℕ) (i : ℕ) → i < length xs → Nowhere (Passes (is_byte byte) xs) 0 i → Passes (is_byte byte) xs i → Some (drop (i + 1) xs) ≡ behind (λ b. b == byte) xs
behind_found byte xs i within none here = sym (behind_at (λ b. b == byte) xs i within (before byte xs i (omega arith) none) here)

pub whole_missing : (byte : ℕ) (xs : List ℕ) → Nowhere (Passes (is_byte byte) xs) 0 (length xs) → slice_split (λ b. b == byte) xs ≡ xs ∷ []
whole_missing byte xs none = slice_split_none (λ b. b == byte) xs (nowhere byte xs none)

pub until_missing : (byte : ℕ) (xs : List ℕ) → Nowhere (Passes (is_byte byte) xs) 0 (length xs) → xs ≡ until (λ b. b == byte) xs
until_missing byte xs none = sym (until_all (λ b. b == byte) xs (nowhere byte xs none))

pub behind_missing : (byte : ℕ) (xs : List ℕ) → Nowhere (Passes (is_byte byte) xs) 0 (length xs) → None ≡ behind (λ b. b == byte) xs
behind_missing byte xs none = sym (behind_all (λ b. b == byte) xs (nowhere byte xs none))
