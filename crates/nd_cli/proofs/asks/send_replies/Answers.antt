use Rattle.nd_devices.proofs.Sent.{put_sent_in_part}
use Rattle.nd_cli.proofs.Replying.{on_err}
use Rattle.nd_cli.proofs.asks.send_replies.Goals as goal

pub returns-in_err-send-clause-partly : goal.returns-in_err-send-clause-partly
returns-in_err-send-clause-partly g c =
    on_err _ _ (put_sent_in_part _ _ _ _ _ _ _ _ c.new-page.ensures c.in_ok-put_replies.ensures c.in_err-send.ensures.partly)
