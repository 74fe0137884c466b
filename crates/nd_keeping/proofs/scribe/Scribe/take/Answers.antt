use Rattle.std.proofs.Common.{◌≡◌, ◌∙◌, ◌==◌, ◌&&◌, not, ℕ, Bool, ◌++◌, length, sym, ap, subst}
use Rattle.std.specs.List.{flat_map}
use Rattle.nd_history_text.specs.HistoryTexts.{line_of}
use Rattle.nd_keeping.specs.Scribing.{Scribing, opening_of}
use Rattle.nd_keeping.proofs.Taken.{taken, not_empty}
use Rattle.nd_keeping.proofs.scribe.Scribe.take.Goals as goal

pub invariant_of-self-then-enter_all : goal.invariant_of-self-then-enter_all
invariant_of-self-then-enter_all g c =
    let i = c.self.inside in
    let s : Scribing = record { stored = g.J.Journal.stored i.journal; handed = i.roll; kept = i.kept; text = i.text.items; begun = i.begun; refused = i.refused } in
    let added = c.split_at.result.1.now in
    let first : c.are_first-are_first.result ≡ (not i.begun && (length i.roll.entries == 0)) =
    c.are_first-are_first.ensures ∙ ap (λ (n : ℕ). not i.begun && (n == 0)) c.len-2.ensures in
    rw c.if-enter_all.ensures
    (taken s c.put_lines.new.text.items added c.self.invariant (not_empty (length added) (sym c.is_empty.ensures ∙ c.if-is_empty.false)) c.look_at.ensures
    (subst (λ (t : Bool). c.put_lines.new.text.items ≡ i.text.items ++ (opening_of t ++ flat_map line_of added)) first c.in_ok-put_lines.ensures.put))
