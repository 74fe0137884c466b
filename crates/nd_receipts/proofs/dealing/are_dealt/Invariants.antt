use Rattle.std.proofs.Common.{◌≡◌, ◌+◌, map, length, reverse}
use Rattle.nd_receipts.proofs.Crossings.{HasWalked}
use Rattle.nd_receipts.proofs.Refusals.{HasWalkedOn}
use Rattle.nd_receipts.proofs.dealing.are_dealt.Given as goal

abbrev pub invariant-dealing : goal.invariant-dealing
invariant-dealing l =
    (l.index ≡ l.opening + l.entry-index)
    × HasWalked l.places (map (λ v. v.items) l.rows) l.opening (reverse l.old) l.new l.entry-index l.tables.choices.items l.tables.met.items
    × HasWalkedOn l.places (map (λ v. v.items) l.rows) l.opening (length l.fn.tables.choices.items) l.old l.new l.entry-index l.tables.choices.items l.tables.met.items
