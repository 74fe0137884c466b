use Rattle.std.proofs.Common.{ap, ◌∙◌}
use Rattle.std.specs.Prelude.{not}
use Rattle.indexmap.proofs.CallerLemmas.{insert_entry-new}
use Rattle.nd_path.specs.StorePath.{path_eq}
use Rattle.nd_closure.specs.Tables.{Table, is_listed}
use Rattle.nd_closure.proofs.Members.{listed_by_lookup, none_by}
use Rattle.nd_closure.proofs.ref_table.RefTable.add.Goals as goal

pub returns-then-contains_key-clause-added : goal.returns-then-contains_key-clause-added
returns-then-contains_key-clause-added c =
    ap not (c.if-contains_key.ensures ∙ listed_by_lookup c.self.inside.lines.entries c.args.path
    ∙ ap (λ (t : Table). is_listed t.entries c.args.path) c.self.view_is)

pub returns-clause-added : goal.returns-clause-added
returns-clause-added c =
    ap not (c.if-contains_key.ensures ∙ listed_by_lookup c.self.inside.lines.entries c.args.path
    ∙ ap (λ (t : Table). is_listed t.entries c.args.path) c.self.view_is)

pub returns-clause-entries : goal.returns-clause-entries
returns-clause-entries c =
    rw (← c.self.view_is) (c.in_ok-insert.ensures.entries
    ∙ insert_entry-new path_eq c.self.inside.lines c.args.path c.args.refs (none_by _ c.if-contains_key.ensures))
