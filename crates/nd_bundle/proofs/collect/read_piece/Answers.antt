use Rattle.std.proofs.Common.{List, ℕ, Bor, ap, ◌∙◌, map}
use Rattle.nd_bundle.proofs.Pieced.{refused_here, said_here}
use Rattle.nd_bundle.proofs.collect.read_piece.Goals as goal

pub returns-in-Err : goal.returns-in-Err
returns-in-Err c =
    refused_here c.args.manner c.args.text.now c.deref-line-items.result.now c.loop-line.line-index _ c.loop-line.columns c.in-Err.fault c.loop-line-test.true
    (ap (map (λ (line : Bor (List ℕ)). line.now)) c.deref-line-items.ensures.value ∙ c.in_ok-lines.ensures) c.loop-line.invariant c.in-Err.ensures

pub loop-line-preserved : goal.loop-line-preserved
loop-line-preserved c =
    said_here c.args.manner c.deref-line-items.result.now c.loop-line.line-index _ c.loop-line.columns c.push.new.self c.in-Ok.node c.loop-line-test.true c.loop-line.invariant c.in-Ok.ensures c.in_ok-push-in-Ok.ensures
