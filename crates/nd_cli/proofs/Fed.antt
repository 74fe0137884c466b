-- Lemmas on an input that is read block by block, each of which a reader is fed while the next one is read.
use Rattle.std.proofs.Common.{◌≡◌, ℕ, ◌+◌, ◌-◌, ◌<◌, ◌≤◌, List, [], ◌++◌, length, length-append, min, Option, sym, ap, subst, arith}
use Rattle.std.proofs.Math.Nat.{le-min, min-le_left, min-le_right}
use Rattle.std.specs.Io.KnownBytes.{Consumes, IsAtEnd}
use Rattle.std.proofs.KnownBytes.{Consumes-trans}
use Rattle.nd_cli.specs.Blocks.{IsFedAsFar, ReadsPart}
use Rattle.nd_cli.specs.Inputs.{limit, ReadsWhole}

-- the first block was read, and nothing was fed
pub fed_first : (old new : Option (List ℕ)) (text block : List ℕ) (size : ℕ) → text ≡ [] → size ≤ limit → ReadsPart size old new block → IsFedAsFar old new text block (length block) size
fed_first old new text block size none fits part =
    record {
      read = subst (λ (xs : List ℕ). Consumes old new (xs ++ block)) (sym none) part.read;
      counted = omega (arith, ap (λ (xs : List ℕ). length xs) none);
      most = omega (arith, fits, part.bound);
      bound = part.bound;
      whole = λ fewer within. part.whole fewer;
    }

-- a block was fed, and the next one was read, as far as the limit leaves
pub fed_on : (old mid new : Option (List ℕ)) (text more block next : List ℕ) (count size larger : ℕ) → IsFedAsFar old mid text block count size → more ≡ text ++ block → count ≤ limit → ReadsPart (min larger (limit + 1 - count)) mid new next
    → IsFedAsFar old new more next (count + length next) larger
fed_on old mid new text more block next count size larger far is within part =
    let left : min larger (limit + 1 - count) ≤ larger = min-le_left larger (limit + 1 - count) in
    let right : min larger (limit + 1 - count) ≤ limit + 1 - count = min-le_right larger (limit + 1 - count) in
    record {
      read = Consumes-trans _ _ _ _ _ (subst (λ (xs : List ℕ). Consumes old mid xs) (sym is) far.read) part.read;
      counted = omega (arith, far.counted, ap (λ (xs : List ℕ). length xs) is, length-append text block);
      most = omega (arith, part.bound, right, within);
      bound = omega (arith, part.bound, left);
      whole = λ fewer under.
          let one : length next + 1 ≤ larger = omega (arith, fewer) in
          let two : length next + 1 ≤ limit + 1 - count = omega (arith, under) in
          let both : length next + 1 ≤ min larger (limit + 1 - count) = le-min one two in
          part.whole (omega (arith, both));
    }

-- the last block was fed
pub fed_whole : (old new : Option (List ℕ)) (text more block : List ℕ) (count size : ℕ) → IsFedAsFar old new text block count size → (length block ≡ size → count ≤ limit → ⊥) → more ≡ text ++ block → ReadsWhole old new more
fed_whole old new text more block count size far last is =
    let long : length more ≡ count = omega (arith, far.counted, ap (λ (xs : List ℕ). length xs) is, length-append text block) in
    record {
      read = subst (λ (xs : List ℕ). Consumes old new xs) (sym is) far.read;
      most = omega (arith, long, far.most);
      whole = λ within. far.whole (fewer_than (length block) size far.bound (λ full. last full (omega (arith, long, within)))) (omega (arith, long, within));
    }
  where
    fewer_than : (a b : ℕ) → a ≤ b → (a ≡ b → ⊥) → a < b
    fewer_than a b most other = omega (arith, most, other)

pub fed_counted : (old new : Option (List ℕ)) (text more block : List ℕ) (count size : ℕ) → IsFedAsFar old new text block count size → more ≡ text ++ block → count ≡ length more
fed_counted old new text more block count size far is =
    omega (arith, far.counted, ap (λ (xs : List ℕ). length xs) is, length-append text block)

-- what a room has is what was read
pub reads_part : (most : ℕ) (old new : Option (List ℕ)) (room : List ℕ) → Consumes old new room → length room ≤ most → (length room < most → IsAtEnd new) → ReadsPart most old new room
reads_part most old new room read bound whole = record { read = read; bound = bound; whole = whole }
