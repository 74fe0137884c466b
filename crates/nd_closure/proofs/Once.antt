-- A text lists one table at most, and none where a line is bad.
use Rattle.std.proofs.Common.{◌≡◌, ℕ, ◌-◌, ◌<◌, ◌≤◌, List, [], length, take, drop, get_or, refl, sym, ap, subst, ◌∙◌, arith, false}
use Rattle.std.specs.List.{Contains}
use Rattle.std.proofs.lemmas.List.{same_lists, get_or_default, get_or-take, length-take-le, take-append-le, take-append-drop}
use Rattle.nd_path.specs.PathSets.{HasSameMembers}
use Rattle.nd_path.proofs.Rising.{rising_same}
use Rattle.nd_closure.specs.Tables.{is_listed}
use Rattle.nd_closure.specs.Info.{IsLine, AreListed, IsFirstBad, IsRefused, no_entry}
use Rattle.nd_closure.specs.declared.info_error.InfoError.{InfoError}
use Rattle.nd_closure.specs.declared.info_error.InfoError.TheVariants.{BadLine, Memory}
use Rattle.nd_bytes.specs.Lines.{lines_of}

line_once : (line : List ℕ) (entry other : List ℕ × List (List ℕ)) → IsLine line entry → IsLine line other → entry ≡ other
line_once line entry other h k =
    let first : entry.0 ≡ other.0 = cc (h.words, k.words) in
    let words : h.others ≡ k.others = cc (h.words, k.words) in
    let members : HasSameMembers entry.1 other.1 = record {
      to = λ p there. k.members.to p (subst (λ (ws : List (List ℕ)). Contains ws p) words (h.members.from p there));
      from = λ p there. h.members.to p (subst (λ (ws : List (List ℕ)). Contains ws p) (sym words) (k.members.from p there));
    } in
    let refs = rising_same entry.1 other.1 h.rising k.rising members in
    λ i. (first i, refs i)

listed_once : (lines : List (List ℕ)) (entries others : List (List ℕ × List (List ℕ))) → AreListed lines entries → AreListed lines others → entries ≡ others
listed_once lines entries others h k = same_lists entries others (h.size ∙ sym k.size)
    (λ n d lt.
    let within : n < length lines = omega (arith, h.size) in
    let too : n < length others = omega (arith, h.size, k.size) in
    get_or_default entries n d no_entry lt
    ∙ line_once (get_or lines n []) (get_or entries n no_entry) (get_or others n no_entry) (h.line n within) (k.line n within)
    ∙ get_or_default others n no_entry d too)

take_less : {X : Type 0} (n k : ℕ) (xs : List X) → n ≤ length (take k xs) → take n (take k xs) ≡ take n xs
take_less n k xs le = sym (take-append-le n (take k xs) (drop k xs) le) ∙ ap (take n) (take-append-drop k xs)

listed_front : (lines : List (List ℕ)) (entries : List (List ℕ × List (List ℕ))) (k : ℕ) → k ≤ length lines → AreListed lines entries → AreListed (take k lines) (take k entries)
listed_front lines entries k le h =
    let few : length (take k lines) ≡ k = length-take-le k lines le in
    let le' : k ≤ length entries = omega (arith, h.size) in
    let few' : length (take k entries) ≡ k = length-take-le k entries le' in
    record {
      size = few' ∙ sym few;
      line = λ n lt.
          let less : n < k = omega (arith, few) in
          let within : n < length lines = omega arith in
          rw (get_or-take k lines n [] less, get_or-take k entries n no_entry less) (h.line n within);
      fresh = λ n lt.
          let less : n < k = omega (arith, few) in
          let within : n < length lines = omega arith in
          let short : n ≤ length (take k entries) = omega (arith, few') in
          rw (take_less n k entries short, get_or-take k entries n no_entry less) (h.fresh n within);
    }

never_bad : (lines : List (List ℕ)) (entries : List (List ℕ × List (List ℕ))) (n : ℕ) → AreListed lines entries → IsFirstBad lines n → ⊥
never_bad lines entries n h bad =
    let within : n - 1 < length lines = omega (arith, bad.counted, bad.within) in
    let le : n - 1 ≤ length lines = omega arith in
    let same = listed_once (take (n - 1) lines) (take (n - 1) entries) bad.entries (listed_front lines entries (n - 1) le h) bad.before in
    bad.bad (get_or entries (n - 1) no_entry) (h.line (n - 1) within)
    (subst (λ (es : List (List ℕ × List (List ℕ))). is_listed es (get_or entries (n - 1) no_entry).0 ≡ false) same (h.fresh (n - 1) within))

-- a text that lists entries gives these
pub table_once : (text : List ℕ) (table entries : List (List ℕ × List (List ℕ))) → AreListed (lines_of text) table → AreListed (lines_of text) entries → table ≡ entries
table_once text table entries h k = listed_once (lines_of text) table entries h k

-- and is refused for want of memory alone
pub memory_alone : (text : List ℕ) (e : InfoError) (entries : List (List ℕ × List (List ℕ))) → IsRefused text e → AreListed (lines_of text) entries → e ≡ Memory
memory_alone text (BadLine n) entries bad h = absurd (never_bad (lines_of text) entries n h bad)
memory_alone text Memory entries bad h = refl
