-- Two texts of histories in one version are one, without the first line of the second.
use Rattle.std.proofs.Common.{◌≡◌, ◌∙◌, ◌==◌, true, ℕ, List, [], ◌∷◌, ◌++◌, length, get_or, take, drop, refl, sym, ap, subst, arith, append_assoc, append-nil, Vec, Global}
use Rattle.std.specs.List.{All, flat_map}
use Rattle.std.proofs.lemmas.Bool.{eqb-true}
use Rattle.std.proofs.lemmas.Grind.{flat_map-append}
use Rattle.std.proofs.lemmas.List.Elements.{All-append}
use Rattle.nd_history.specs.declared.entry.Entry.{Entry}
use Rattle.nd_history_text.specs.HistoryTexts.{line_of, first_line, history_text}
use Rattle.nd_history_text.specs.Sound.{IsTold, IsHistoryText}
use Rattle.nd_history_text.specs.declared.kinds.Version.{Version}
use Rattle.nd_history_text.specs.declared.kinds.Version.TheVariants.{First, Second}
use Rattle.nd_history_ahead.specs.Ahead.{GoesOn, IsReadBefore, IsReadFrom, IsReadTo, TakesLines}
use Rattle.nd_history_ahead.specs.declared.reading.Progress.{Progress}
use Rattle.nd_history_ahead.specs.declared.reading.Progress.TheVariants.{Whole}

-- the first line in front of a text is its first 23 bytes
pub first_taken : (version : Version) (rest : List ℕ) → take 23 (first_line version ++ rest) ≡ first_line version
unfolding first_line
first_taken First rest = refl
first_taken Second rest = refl

pub first_dropped : (version : Version) (rest : List ℕ) → drop 23 (first_line version ++ rest) ≡ rest
unfolding first_line
first_dropped First rest = refl
first_dropped Second rest = refl

pub one_version : (v w : Version) → first_line v ≡ first_line w → v ≡ w
unfolding first_line
one_version First First h = refl
one_version First Second h = let differ : 49 ≡ 50 = ap (λ (l : List ℕ). get_or l 21 0) h in absurd (omega (arith, differ))
one_version Second First h = let differ : 50 ≡ 49 = ap (λ (l : List ℕ). get_or l 21 0) h in absurd (omega (arith, differ))
one_version Second Second h = refl

-- a text that was read begins with the first line of its version
pub opens : (done first : List ℕ) (entries : List Entry) → take 23 done ≡ first → (reads : IsHistoryText done entries) → first ≡ first_line reads.version
opens done first entries begins reads = sym begins ∙ ap (take 23) reads.text ∙ first_taken reads.version (flat_map line_of entries)

-- a text, and the lines of another behind the first line that both have
pub joined : (done first lines : List ℕ) (entries more : List Entry) → take 23 done ≡ first → IsHistoryText done entries → IsHistoryText (first ++ lines) more
    → IsHistoryText (done ++ lines) (entries ++ more)
joined done first lines entries more begins reads also =
    let whole : first_line reads.version ++ lines ≡ history_text also.version more = ap (λ (l : List ℕ). l ++ lines) (sym (opens done first entries begins reads)) ∙ also.text in
    let same : first_line reads.version ≡ first_line also.version = sym (first_taken reads.version lines) ∙ ap (take 23) whole ∙ first_taken also.version (flat_map line_of more) in
    let version : also.version ≡ reads.version = one_version also.version reads.version (sym same) in
    let behind : lines ≡ flat_map line_of more = sym (first_dropped reads.version lines) ∙ ap (drop 23) whole ∙ first_dropped also.version (flat_map line_of more) in
    record {
      version = reads.version;
      told = All-append (IsTold reads.version) entries more reads.told (subst (λ (v : Version). All (IsTold v) more) version also.told);
      text =
          ap (λ (l : List ℕ). l ++ lines) reads.text
          ∙ append_assoc (first_line reads.version) (flat_map line_of entries) lines
          ∙ ap (λ (l : List ℕ). first_line reads.version ++ l) (ap (λ (l : List ℕ). flat_map line_of entries ++ l) behind ∙ sym (flat_map-append line_of entries more));
    }

-- the front of a text with more behind it
still_begins : (done first lines : List ℕ) (entries : List Entry) → take 23 done ≡ first → IsHistoryText done entries → take 23 (done ++ lines) ≡ first
still_begins done first lines entries begins reads =
    ap (λ (l : List ℕ). take 23 (l ++ lines)) reads.text
    ∙ ap (take 23) (append_assoc (first_line reads.version) (flat_map line_of entries) lines)
    ∙ first_taken reads.version (flat_map line_of entries ++ lines)
    ∙ sym (first_taken reads.version (flat_map line_of entries))
    ∙ sym (ap (take 23) reads.text)
    ∙ begins

pub goes_nowhere : (first lines : List ℕ) (entries : List Entry) → GoesOn first lines entries lines entries
goes_nowhere first lines entries = record { goes = λ text h. h }

pub goes_more : (first lines rest piece behind : List ℕ) (before entries new : List Entry) → GoesOn first lines before rest entries → rest ≡ piece ++ behind → TakesLines first piece entries new
    → GoesOn first lines before behind new
goes_more first lines rest piece behind before entries new so parts takes = record {
  goes = λ text h.
      let here = so.goes text h in
      record {
        done = here.done ++ piece;
        parts = here.parts ∙ ap (λ (l : List ℕ). here.done ++ l) parts ∙ sym (append_assoc here.done piece behind);
        begins = still_begins here.done first piece entries here.begins here.reads;
        reads = subst (λ (es : List Entry). IsHistoryText (here.done ++ piece) es) (sym takes.grown) (joined here.done first piece entries takes.more here.begins here.reads takes.reads);
      };
}

pub ends : (first lines rest : List ℕ) (before : List Entry) (entries : Vec Entry Global) → GoesOn first lines before rest entries.items → true ≡ (length rest == 0)
    → IsReadFrom first lines before (Whole entries)
ends first lines [] before entries so none = record { reads = λ text h. let here = so.goes text h in subst (λ (l : List ℕ). IsHistoryText l entries.items) (sym (here.parts ∙ append-nil here.done)) here.reads }
ends first lines (byte ∷ rest) before entries so none = let empty : length (byte ∷ rest) ≡ 0 = eqb-true (length (byte ∷ rest)) 0 (sym none) in absurd (omega (arith, empty))

-- the front of a text, and what stands behind it
pub begins : (text front rest first : List ℕ) (entries : List Entry) → text ≡ front ++ rest → take 23 front ≡ first → IsHistoryText front entries → IsReadBefore text first rest entries
begins text front rest first entries parts is reads = record { done = front; parts = parts; begins = is; reads = reads }

pub read_from : (text front rest first : List ℕ) (entries : List Entry) (read : Progress) → text ≡ front ++ rest → take 23 front ≡ first → IsHistoryText front entries
    → IsReadFrom first rest entries read → IsReadTo text read
read_from text front rest first entries read parts is reads from = from.reads text (begins text front rest first entries parts is reads)
