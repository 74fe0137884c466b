-- How a worker's notes are kept: what the type `Notes` keeps.
use Rattle.std.specs.Prelude.{◌≡◌, ◌-◌, min, vec_len, vec_capacity}
use Rattle.nd_receipts.specs.declared.notes.Notes.TheInside.{Inside}
use Rattle.nd_receipts.specs.Noted.{Noted}

abbrev pub noted : Inside → Noted
noted n = record {
  receipts = n.receipts.items;
  copies = n.copies.items;
  room = min (vec_capacity n.receipts - vec_len n.receipts) (vec_capacity n.copies - vec_len n.copies);
}

-- each receipt has its entry
abbrev pub AreAsMany : Inside → Type 0
AreAsMany n = vec_len n.receipts ≡ vec_len n.copies
