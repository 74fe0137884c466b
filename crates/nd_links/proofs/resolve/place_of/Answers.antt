use Rattle.std.proofs.Common.{ℕ, [], List, get_or, ap, ◌∙◌}
use Rattle.std.specs.Cmp.Lexicographic.{texts_ties}
use Rattle.std.specs.Ordering.{is_eq}
use Rattle.nd_path.specs.SamePaths.{paths_same}
use Rattle.nd_path.proofs.Searches.{not_found}
use Rattle.nd_links.proofs.resolve.place_of.Goals as goal

pub returns-in-Ok : goal.returns-in-Ok
returns-in-Ok c =
    let names : List (List ℕ) = c.args.names.now in
    let name : List ℕ = c.args.name.now in
    let place : ℕ = c.in-Ok.place in
    record { within = c.in-Ok.ensures.bound; is = paths_same (get_or names place []) name (texts_ties (get_or names place []) name ∙ ap is_eq (c.in-Ok.ensures.ok [])) }

pub returns-in-Err : goal.returns-in-Err
returns-in-Err c = λ there.
    not_found c.args.names.now c.args.name.now c.in-Err.field-0 (record { rises = c.requires.rises }) c.in-Err.ensures.position there
