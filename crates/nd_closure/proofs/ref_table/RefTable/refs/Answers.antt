use Rattle.std.proofs.Common.{ap, ◌∙◌, [], List, ℕ, Option}
use Rattle.std.specs.Option.{unwrap_or}
use Rattle.nd_closure.specs.Tables.{Table, refs_of}
use Rattle.nd_closure.proofs.Members.{refs_by_lookup}
use Rattle.nd_closure.proofs.ref_table.RefTable.refs.Goals as goal

pub returns-in-Some : goal.returns-in-Some
returns-in-Some c =
    c.as_slice.ensures.value ∙ ap (λ (o : Option (List (List ℕ))). unwrap_or o []) c.in-Some.ensures.value
    ∙ refs_by_lookup c.self.inside.lines.entries c.args.path.now ∙ ap (λ (t : Table). refs_of t.entries c.args.path.now) c.self.view_is

pub returns-in-None : goal.returns-in-None
returns-in-None c =
    ap (λ (o : Option (List (List ℕ))). unwrap_or o []) c.in-None.ensures.value
    ∙ refs_by_lookup c.self.inside.lines.entries c.args.path.now ∙ ap (λ (t : Table). refs_of t.entries c.args.path.now) c.self.view_is
