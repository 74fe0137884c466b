use Rattle.std.proofs.Common.{List, sym, subst}
use Rattle.std.specs.List.{All}
use Rattle.nd_hook.specs.declared.kinds.Reply.{Reply}
use Rattle.nd_hook.specs.ReplyText.{IsInList}
use Rattle.nd_cli.proofs.PlacedReplying.{in_list_at}
use Rattle.nd_cli.proofs.asks.write_replies_side_by_side.Goals as goal

pub pass_replies-sent-requires : goal.pass_replies-sent-requires
pass_replies-sent-requires g c = record {
  listed = subst (λ (some : List Reply). All (IsInList c.args.machines.now) some) (sym c.deref.ensures.value)
      (in_list_at c.args.machines.now c.args.local.now c.args.needs.now _ c.requires c.in-Ok.ensures);
}
