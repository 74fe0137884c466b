-- What a journal holds behind a call that it refused.
use Rattle.std.proofs.Common.{◌≡◌, ◌∙◌, ℕ, List, [], ◌++◌, refl, sym, ap, subst, arith, append-nil, append_assoc, Option, Some, None}
use Rattle.nd_journal.specs.WholeLines.{IsBeginning}
use Rattle.nd_keeping.specs.Stored.{Stored, stored_with, HasPart, HoldsPart, HasSame, IsAppended, IsUnsynced}

-- what is a beginning stays one of a longer text
pub begins_longer : (part whole more longer : List ℕ) → IsBeginning part whole → longer ≡ whole ++ more → IsBeginning part longer
begins_longer part whole more longer begins is = record {
  rest = begins.rest ++ more;
  is = is ∙ ap (λ (l : List ℕ). l ++ more) begins.is ∙ append_assoc part begins.rest more;
}

-- an append that was granted, and then a sync that was refused
pub part_unsynced : (old mid new : Option Stored) (text : List ℕ) → IsAppended old mid text → IsUnsynced mid new → HoldsPart old new text
part_unsynced None mid new text appended same = subst (λ (m : Option Stored). IsUnsynced m new) appended same
part_unsynced (Some old) mid new text appended same = by new (subst (λ (m : Option Stored). IsUnsynced m new) appended same)
  where
    by : (n : Option Stored) → IsUnsynced (Some (record { bytes = old.bytes ++ text; durable = old.durable })) n → HoldsPart (Some old) n text
    by None lost = lost
    by (Some now) held = record {
      part = text;
      begins = record { rest = []; is = sym (append-nil text) };
      held = held.bytes;
      durable = held.durable;
    }

-- ---- for whoever makes a journal

-- a refused append that left nothing
pub part_none : (old new more : List ℕ) (durable : ℕ) → new ≡ old → HasPart (stored_with old durable) (stored_with new durable) more
part_none old new more durable same = record {
  part = [];
  begins = record { rest = more; is = refl };
  held = same ∙ sym (append-nil old);
  durable = omega arith;
}

-- .. that left all of it
pub part_all : (old new more : List ℕ) (durable : ℕ) → new ≡ old ++ more → HasPart (stored_with old durable) (stored_with new durable) more
part_all old new more durable all = record {
  part = more;
  begins = record { rest = []; is = sym (append-nil more) };
  held = all;
  durable = omega arith;
}

-- a refused sync that changed nothing
pub same_bytes : (old new : List ℕ) (durable : ℕ) → new ≡ old → HasSame (stored_with old durable) (stored_with new durable)
same_bytes old new durable same = record { bytes = same; durable = omega arith }
