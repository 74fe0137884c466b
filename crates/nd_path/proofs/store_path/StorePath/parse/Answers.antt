use Rattle.std.proofs.Common.{◌≡◌, ◌∙◌, Some, None}
use Rattle.nd_path.proofs.Spelling.{from_spelled}
use Rattle.nd_path.proofs.store_path.StorePath.parse.Goals as goal

pub returns-in-Some-clause-taken : goal.returns-in-Some-clause-taken
returns-in-Some-clause-taken c h =
    let both : Some c.in-Some.fault ≡ None = c.in-Some.ensures ∙ from_spelled c.args.bytes.now h in
    cc
