use Rattle.std.proofs.Common.{◌≡◌, rules}
use Rattle.nd_path.specs.StorePath.{name_of}
use Rattle.nd_path.specs.Refusals.{IsPath}
use Rattle.nd_path.proofs.Spelling.{named, name_behind}
use Rattle.nd_path.proofs.store_path.StorePath.name.Goals as goal

pub returns-clause-part : goal.returns-clause-part
returns-clause-part c =
    let is : c.split_at.result.1.now ≡ name_of c.args.self.now = search rules in
    let path : IsPath c.args.self.now = search rules in
    name_behind c.args.self.now c.split_at.result.1.now path is

pub returns-clause-named : goal.returns-clause-named
returns-clause-named c = rw (c.split_at.ensures.back, c.as_slice.ensures, c.deref.ensures) (named c.self.inside.text.value c.self.invariant)
