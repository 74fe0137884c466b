-- A text that is written in pieces, one after the other.
use Rattle.std.proofs.Common.{◌∙◌, ℕ, List, [], ◌++◌, Option, sym, ap, append_assoc, append-nil, take, drop, take-append-drop}
use Rattle.std.specs.Io.KnownBytes.{Appends, Keeps}
use Rattle.std.proofs.KnownBytes.{Appends-trans, Appends-kept}
use Rattle.nd_devices.specs.Written.{WritesPart}

-- the first piece was written in part
pub part_of_first : (old new : Option (List ℕ)) (text more : List ℕ) → WritesPart old new text → WritesPart old new (text ++ more)
part_of_first old new text more h = record {
  part = h.part;
  rest = h.rest ++ more;
  whole = ap (λ (l : List ℕ). l ++ more) h.whole ∙ append_assoc h.part h.rest more;
  written = h.written;
}

-- one piece was written, and of what follows a part
pub part_after : (old between new : Option (List ℕ)) (text more : List ℕ) → Appends old between text → WritesPart between new more
    → WritesPart old new (text ++ more)
part_after old between new text more whole h = record {
  part = text ++ h.part;
  rest = h.rest;
  whole = ap (λ (l : List ℕ). text ++ l) h.whole ∙ sym (append_assoc text h.part h.rest);
  written = Appends-trans old between new text h.part whole h.written;
}

-- a part of a text, said by its length
pub part_taken : (old new : Option (List ℕ)) (text : List ℕ) (n : ℕ) → Appends old new (take n text) → WritesPart old new text
part_taken old new text n h = record {
  part = take n text;
  rest = drop n text;
  whole = sym (take-append-drop n text);
  written = h;
}

-- one piece after another
pub written_after : (old between new : Option (List ℕ)) (text more : List ℕ) → Appends old between text → Appends between new more
    → Appends old new (text ++ more)
written_after = Appends-trans

pub ruleset writes = (part_of_first, part_after, written_after)

-- ---- a writer passes on what it holds back

pub kept_whole : (before between written : Option (List ℕ)) (text : List ℕ) → Appends before between text → Keeps between written → Appends before written text
kept_whole = Appends-kept

pub kept_part : (before between written : Option (List ℕ)) (text : List ℕ) → WritesPart before between text → Keeps between written → WritesPart before written text
kept_part before between written text part keeps = record {
  part = part.part;
  rest = part.rest;
  whole = part.whole;
  written = Appends-kept before between written part.part part.written keeps;
}

-- the whole text is out, if only as a part
pub kept_as_part : (before between written : Option (List ℕ)) (text : List ℕ) → Appends before between text → Keeps between written → WritesPart before written text
kept_as_part before between written text whole keeps = record {
  part = text;
  rest = [];
  whole = sym (append-nil text);
  written = Appends-kept before between written text whole keeps;
}

pub ruleset flushes = (kept_whole, kept_part, kept_as_part)
