use Rattle.std.proofs.lemmas.Result.{IfErr-weaker, IfOk-weaker}
use Rattle.nd_links.specs.Linking.{AreAllLinked, IsUngathered, Known}
use Rattle.nd_links.specs.Settled.{IsLinkFault, IsResolved}
use Rattle.nd_links.proofs.Gathered.{not_resolved, resolved_all}
use Rattle.nd_links.proofs.linking.link_or_refuse.Goals as goal

pub returns-clause-ok : goal.returns-clause-ok
returns-clause-ok c =
    let known : Known = c.args.register.now in
    IfOk-weaker c.gather.result (λ inputs. AreAllLinked c.in_ok-rows.rows.items inputs.items) (λ inputs. IsResolved known.paths known.names c.args.wants.items inputs.items)
    (λ inputs are. resolved_all known c.args.wants.items c.in_ok-rows.rows.items inputs.items c.in_ok-rows.ensures are) c.gather.ensures.ok

pub returns-clause-err : goal.returns-clause-err
returns-clause-err c =
    let known : Known = c.args.register.now in
    IfErr-weaker c.gather.result (λ e. IsUngathered c.in_ok-rows.rows.items e) (λ e. IsLinkFault known.paths known.names c.args.wants.items e)
    (λ e why. not_resolved known c.args.wants.items c.in_ok-rows.rows.items e c.in_ok-rows.ensures why) c.gather.ensures.err
