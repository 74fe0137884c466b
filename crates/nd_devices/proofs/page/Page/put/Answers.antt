use Rattle.nd_devices.proofs.Sent.{gone_put}
use Rattle.nd_devices.proofs.page.Page.put.Goals as goal

pub returns : goal.returns
returns g c =
    gone_put _ _ _ _ _ _ _ _ c.in_ok-send.ensures.written c.in_ok-send.ensures.empty c.in_ok-send.ensures.mark c.put_all.ensures.written c.put_all.ensures.partly
    c.put_all.ensures.mark
