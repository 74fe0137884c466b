use Rattle.std.proofs.Common.{take, Ok}
use Rattle.std.specs.List.{flat_map}
use Rattle.nd_devices.specs.declared.refusals.Fault.{Fault}
use Rattle.nd_devices.specs.Sending.{IsPut}
use Rattle.nd_hook.specs.ReplyText.{reply_text}
use Rattle.nd_cli.proofs.asks.put_replies.Given as goal

-- what was passed so far is put
abbrev pub invariant-loop-number : goal.invariant-loop-number
invariant-loop-number g l =
    IsPut {E = Fault} g.W.Write.contents l.fn.out l.fn.page l.out l.page (flat_map (reply_text l.machines) (take l.number l.replies)) (Ok (tt {0}))
