-- The lines of a park, machine by machine and slot by slot.
use Rattle.std.proofs.Common.{◌≡◌, ℕ, suc, ◌+◌, ◌-◌, ◌<◌, List, ◌∷◌, ◌++◌, length, drop, get_or, sym, ap, subst, ◌∙◌, arith, append_assoc}
use Rattle.std.proofs.Math.Seq.{drop-cons}
use Rattle.nd_machines.specs.Builders.{Builder}
use Rattle.nd_cli.specs.SlotLines.{builder_end, machine_lines, builder_lines}
use Rattle.std.specs.List.{flat_map, range_with_len}

-- the lines from a slot on are its own and those behind it
pub from_slot : (line : ℕ → List ℕ) (slot jobs : ℕ) → slot < jobs
    → flat_map line (range_with_len slot (jobs - slot)) ≡ line slot ++ flat_map line (range_with_len (slot + 1) (jobs - (slot + 1)))
from_slot line slot jobs within =
    let more : jobs - slot ≡ suc (jobs - (slot + 1)) = omega arith in
    ap (λ (n : ℕ). flat_map line (range_with_len slot n)) more

-- so many slots are listed, and the others are still to come
pub record AreListing (line : ℕ → List ℕ) (before text : List ℕ) (slot jobs : ℕ) : Type 0 where
  pub whole : text ++ flat_map line (range_with_len slot (jobs - slot)) ≡ before ++ flat_map line (range_with_len 0 jobs)

pub one_slot : (line : ℕ → List ℕ) (before text : List ℕ) (slot jobs : ℕ) → slot < jobs → AreListing line before text slot jobs → AreListing line before (text ++ line slot) (slot + 1) jobs
one_slot line before text slot jobs within h = record {
  whole = append_assoc text (line slot) (flat_map line (range_with_len (slot + 1) (jobs - (slot + 1))))
      ∙ ap (λ (l : List ℕ). text ++ l) (sym (from_slot line slot jobs within)) ∙ h.whole;
}

pub slot_added : (line : ℕ → List ℕ) (before text now piece : List ℕ) (slot jobs : ℕ) → slot < jobs → AreListing line before text slot jobs → now ≡ text ++ piece → piece ≡ line slot
    → AreListing line before now (slot + 1) jobs
slot_added line before text now piece slot jobs within h grown is =
    subst (λ (l : List ℕ). AreListing line before l (slot + 1) jobs) (sym (grown ∙ ap (λ (l : List ℕ). text ++ l) is)) (one_slot line before text slot jobs within h)

-- the builders from a place on are that one and those behind it
pub builder_added : (before text now piece : List ℕ) (builders : List Builder) (place : ℕ) (b : Builder) → place < length builders → b ≡ get_or builders place b
    → text ++ builder_lines (place + 1) (drop place builders) ≡ before → now ≡ text ++ piece → piece ≡ machine_lines (place + 1) (builder_end b) b.jobs
    → now ++ builder_lines (place + 1 + 1) (drop (place + 1) builders) ≡ before
builder_added before text now piece builders place b within is h grown lines =
    let next : suc place ≡ place + 1 = omega arith in
    let front : drop place builders ≡ b ∷ drop (place + 1) builders =
    drop-cons builders place b within ∙ ap (λ (x : Builder). x ∷ drop (suc place) builders) (sym is) ∙ ap (λ (n : ℕ). b ∷ drop n builders) next in
    ap (λ (l : List ℕ). l ++ builder_lines (place + 1 + 1) (drop (place + 1) builders)) (grown ∙ ap (λ (l : List ℕ). text ++ l) lines)
    ∙ append_assoc text (machine_lines (place + 1) (builder_end b) b.jobs) (builder_lines (place + 1 + 1) (drop (place + 1) builders))
    ∙ ap (λ (l : List Builder). text ++ builder_lines (place + 1) l) (sym front) ∙ h
