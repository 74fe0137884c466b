use Rattle.std.proofs.Common.{◌∙◌, ℕ, List, sym, subst}
use Rattle.nd_keeping.specs.Scribing.{Scribing, HoldsMore}
use Rattle.nd_keeping.proofs.Taken.{kept_all}
use Rattle.nd_keeping.proofs.scribe.Scribe.keep.Goals as goal

pub invariant_of-self : goal.invariant_of-self
invariant_of-self g c =
    let i = c.self.inside in
    let stored = g.J.Journal.stored in
    let s : Scribing = record { stored = stored i.journal; handed = i.roll; kept = i.kept; text = i.text.items; begun = i.begun; refused = i.refused } in
    let more : HoldsMore s.stored (stored c.append_and_sync.new.journal) s.text =
    subst (λ (text : List ℕ). HoldsMore s.stored (stored c.append_and_sync.new.journal) text) c.as_slice.ensures.value c.in-Ok.ensures.done in
    rw (c.new.ensures, c.front.ensures, c.clear.ensures.items, c.if-self.false)
    (kept_all s (stored c.append_and_sync.new.journal) c.self.invariant c.if-self.false (λ same. c.if-len.false (c.len.ensures ∙ same ∙ sym c.len-2.ensures)) more)
