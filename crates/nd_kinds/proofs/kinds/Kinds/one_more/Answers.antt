use Rattle.std.proofs.lemmas.Result.{on_ok_weaker}
use Rattle.std.proofs.Common.{length, refl}
use Rattle.std.proofs.lemmas.Option.{slice_get_read}
use Rattle.nd_kinds.proofs.KindFacts.{so_far_joined, so_far_taken}
use Rattle.nd_kinds.proofs.kinds.Kinds.one_more.Goals as goal

pub returns-in-Some : goal.returns-in-Some
returns-in-Some c =
    on_ok_weaker _ (λ made. so_far_joined c.args.machines.now c.args.local.now c.args.needs.now c.args.drv c.in-Some.first c.args.self.now c.join.new.self
    (rw c.in-Some.is at c.requires.first) made c.requires.so_far) c.join.ensures

pub returns-in_ok-of-in-None : goal.returns-in_ok-of-in-None
returns-in_ok-of-in-None c =
    on_ok_weaker _ (λ more. so_far_taken c.args.machines.now c.args.local.now c.args.needs.now c.args.drv c.index-needs-drv.result c.in_ok-of-in-None.field-0 c.args.self.now c.take.new.self
    (slice_get_read c.args.needs.now (length c.args.needs.now) c.args.drv c.index-needs-drv.result refl c.requires.node c.index-needs-drv.is)
    c.in_ok-of-in-None.ensures more c.requires.so_far)
    c.take.ensures
