use Rattle.std.proofs.Common.{ap, sym}
use Rattle.nd_hook.specs.ReplyText.{reply_text}
use Rattle.nd_devices.proofs.Sent.{put_renamed}
use Rattle.nd_cli.proofs.asks.put_reply.Goals as goal

pub returns-in-DeclinePermanently : goal.returns-in-DeclinePermanently
returns-in-DeclinePermanently g c =
    put_renamed _ _ _ _ _ _ _ _ (sym (ap (reply_text c.args.machines.now) c.in-DeclinePermanently.is)) c.put_line-in-DeclinePermanently.ensures
