use Rattle.std.proofs.Common.{Bool, sym, subst}
use Rattle.nd_bundle.specs.Bundles.{IsBundle}
use Rattle.nd_cli.proofs.Refused.{told_memory}
use Rattle.nd_cli.proofs.blocks.needs_of_blocks.Goals as goal

pub returns-in-Ok-clause-exactly : goal.returns-in-Ok-clause-exactly
returns-in-Ok-clause-exactly g c = λ graph has.
    c.in-Ok.ensures.exactly graph (subst (λ (check : Bool). IsBundle check c.args.reader.text graph) (sym c.requires.check) has.bundle)

pub returns-in-Err-clause-exactly : goal.returns-in-Err-clause-exactly
returns-in-Err-clause-exactly g c = λ graph has.
    told_memory c.in-Err.refusal c.bundle_fault.result c.bundle_fault.ensures
    (c.in-Err.ensures.exactly graph (subst (λ (check : Bool). IsBundle check c.args.reader.text graph) (sym c.requires.check) has.bundle))
