use Rattle.std.proofs.Common.{subst}
use Rattle.std.proofs.lemmas.Result.{IfErr-weaker, IfOk-weaker}
use Rattle.nd_links.specs.Linking.{AreAllLinked, AreLinks, IsUngathered, Known}
use Rattle.nd_links.specs.Settled.{IsLinkFault, IsResolved}
use Rattle.nd_links.proofs.Gathered.{not_resolved, resolved_all}
use Rattle.nd_links.proofs.linking.link_side_by_side.Goals as goal

pub returns-clause-ok : goal.returns-clause-ok
returns-clause-ok g c =
    let known : Known = record { paths = c.args.paths.now.keys; names = c.args.names.now } in
    let links : AreLinks known c.args.wants.items c.in_ok-rows.rows.items = subst (λ (k : Known). AreLinks k c.args.wants.items c.in_ok-rows.rows.items) c.new-register.ensures c.in_ok-rows.ensures in
    IfOk-weaker c.gather.result (λ inputs. AreAllLinked c.in_ok-rows.rows.items inputs.items) (λ inputs. IsResolved c.args.paths.now.keys c.args.names.now c.args.wants.items inputs.items)
    (λ inputs are. resolved_all known c.args.wants.items c.in_ok-rows.rows.items inputs.items links are) c.gather.ensures.ok

pub returns-clause-err : goal.returns-clause-err
returns-clause-err g c =
    let known : Known = record { paths = c.args.paths.now.keys; names = c.args.names.now } in
    let links : AreLinks known c.args.wants.items c.in_ok-rows.rows.items = subst (λ (k : Known). AreLinks k c.args.wants.items c.in_ok-rows.rows.items) c.new-register.ensures c.in_ok-rows.ensures in
    IfErr-weaker c.gather.result (λ e. IsUngathered c.in_ok-rows.rows.items e) (λ e. IsLinkFault c.args.paths.now.keys c.args.names.now c.args.wants.items e)
    (λ e why. not_resolved known c.args.wants.items c.in_ok-rows.rows.items e links why) c.gather.ensures.err
