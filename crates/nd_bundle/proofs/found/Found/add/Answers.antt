use Rattle.std.proofs.Common.{ℕ, Option, Some, Ok, refl, sym, ap, subst, ◌∙◌}
use Rattle.nd_line.specs.declared.refusal.LineError.{LineError}
use Rattle.nd_links.specs.Numbered.{fault_at}
use Rattle.nd_bundle.specs.Parts.{Takes}
use Rattle.nd_links.specs.declared.columns.Columns.{Columns}
use Rattle.nd_bundle.specs.declared.found.Found.{Found}
use Rattle.nd_bundle.proofs.Parted.{takes_refused, takes_said}
use Rattle.nd_bundle.proofs.found.Found.add.Goals as goal

pub returns-in-None : goal.returns-in-None
returns-in-None c =
    let columns : Columns = c.args.piece.columns in
    let new : Found = record { numbers = c.add.new.self; details = c.append.new.self; refused = c.args.self.now.refused } in
    subst (λ (r : Option LineError). Takes c.args.self.now (Ok (record { columns = columns; refused = r })) new) (sym c.in-None.is)
    (takes_said c.args.self.now new columns c.requires c.requires c.in_ok-add.ensures c.in_ok-append.ensures)

pub returns-in-Some : goal.returns-in-Some
returns-in-Some c =
    let columns : Columns = c.args.piece.columns in
    let new : Found = record { numbers = c.add.new.self; details = c.append.new.self; refused = Some c.of_line.result } in
    subst (λ (r : Option LineError). Takes c.args.self.now (Ok (record { columns = columns; refused = r })) new) (sym c.in-Some.is)
    (takes_refused c.args.self.now new columns c.in-Some.fault c.of_line.result c.requires refl (c.of_line.ensures ∙ ap (λ (n : ℕ). fault_at c.in-Some.fault n) c.next_line-line.ensures) c.in_ok-add.ensures c.in_ok-append.ensures)
