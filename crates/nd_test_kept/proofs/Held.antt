-- What a journal in memory holds that a run begins with.
use Rattle.std.proofs.Common.{◌≡◌, ◌∙◌, ℕ, Bool, true, false, not, List, length, Some, ap}
use Rattle.nd_serve_command.specs.Crashes.{IsBegunWith}
use Rattle.nd_history.specs.declared.entry.Entry.{Entry}
use Rattle.nd_history.specs.Premises.{Premises}
use Rattle.nd_keeping.specs.Scribing.{HoldsDurably, journal_text}
use Rattle.nd_keeping.specs.Stored.{Stored}

text_of : (i : Premises) (fresh : Bool) (whole : List ℕ) (history : List Entry) → IsBegunWith i fresh whole history → whole ≡ journal_text (not fresh) history
text_of i true whole history begun = begun.holds.0
text_of i false whole history begun = begun.holds

pub begun_held : (i : Premises) (fresh : Bool) (whole bytes : List ℕ) (n : ℕ) (history : List Entry) → IsBegunWith i fresh whole history → bytes ≡ whole → n ≡ length bytes
    → HoldsDurably (Some (record { bytes = bytes; durable = n })) (journal_text (not fresh) history)
begun_held i fresh whole bytes n history begun same sized =
    let is : bytes ≡ journal_text (not fresh) history = same ∙ text_of i fresh whole history begun in
    let made : List ℕ → Stored = λ t. record { bytes = t; durable = length t } in
    ap (λ (k : ℕ). record { bytes = bytes; durable = k }) sized ∙ ap made is
