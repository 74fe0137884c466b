-- The place is the first blank, or there is none.
use Rattle.std.proofs.Common.{◌≡◌, ◌∙◌, sym, false, ℕ}
use Rattle.std.proofs.lemmas.List.Elements.{All-more}
use Rattle.nd_bytes.proofs.Cuts.{whole_at, whole_none}
use Rattle.nd_machines.specs.Fields.{is_blank}
use Rattle.nd_machines.proofs.fields.cut_at_blank.Goals as goal

pub returns-then-is_blank_byte-clause-whole : goal.returns-then-is_blank_byte-clause-whole
returns-then-is_blank_byte-clause-whole c =
    rw (c.split_at.ensures.front, c.split_at-then-is_blank_byte.ensures.back)
    (whole_at is_blank c.args.bytes.now c.loop-i.i c.loop-i-test.true c.loop-i.invariant (sym c.is_blank_byte.ensures ∙ c.if-is_blank_byte.true))

pub loop-i-preserved : goal.loop-i-preserved
loop-i-preserved c =
    All-more (λ (b : ℕ). is_blank b ≡ false) c.args.bytes.now c.loop-i.i 0 c.loop-i-test.true c.loop-i.invariant
    (sym c.is_blank_byte.ensures ∙ c.if-is_blank_byte.false)

pub returns-clause-whole : goal.returns-clause-whole
returns-clause-whole c = whole_none is_blank c.args.bytes.now c.loop-i.i c.loop-i-test.false c.loop-i.invariant
