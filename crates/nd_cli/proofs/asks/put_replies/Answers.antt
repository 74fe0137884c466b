use Rattle.std.proofs.Common.{◌≤◌, length, arith}
use Rattle.nd_hook.specs.ReplyText.{reply_text}
use Rattle.nd_devices.proofs.Sent.{place_put, place_refused, items_put}
use Rattle.nd_cli.proofs.asks.put_replies.Goals as goal

pub loop-number-preserved : goal.loop-number-preserved
loop-number-preserved g c =
    place_put _ (reply_text c.args.machines.now) _ _ _ _ _ _ c.args.replies.now c.loop-number.number _ _ _ c.loop-number-test.true c.loop-number.invariant
    c.in_ok-put_reply.ensures

pub returns-in_err-put_reply : goal.returns-in_err-put_reply
returns-in_err-put_reply g c =
    place_refused _ (reply_text c.args.machines.now) _ _ _ _ _ _ c.args.replies.now c.loop-number.number _ _ _ _ c.loop-number-test.true c.from_residual.ensures.0
    c.loop-number.invariant c.in_err-put_reply.ensures

pub returns : goal.returns
returns g c =
    let past : length c.args.replies.now ≤ c.loop-number.number = omega arith in
    items_put _ (reply_text c.args.machines.now) _ _ _ _ c.args.replies.now c.loop-number.number _ past c.loop-number.invariant
