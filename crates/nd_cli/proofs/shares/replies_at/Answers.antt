use Rattle.std.proofs.Common.{◌<◌, ℕ, List, length, sym, subst}
use Rattle.std.proofs.lemmas.Result.{IfOk-weaker}
use Rattle.std.specs.List.{All, AllZip}
use Rattle.nd_eligible.specs.declared.need.Need.{Need}
use Rattle.nd_hook.specs.declared.kinds.Reply.{Reply}
use Rattle.nd_hook.specs.Idle.{IsIdleReply}
use Rattle.nd_cli.specs.PlacedReplies.{AreRepliesAt}
use Rattle.nd_cli.specs.SharedClasses.{IsMade}
use Rattle.nd_cli.proofs.PlacedReplying.{are_replies_at, places_within}
use Rattle.nd_cli.proofs.shares.replies_at.Goals as goal

pub by_class-requires : goal.by_class-requires
by_class-requires g c =
    let made : List Reply = c.in_ok-made.made.items in
    let each = subst (λ (table : List Need). AllZip (IsIdleReply c.args.machines.now c.args.local.now) table made) c.table.ensures c.in_ok-made.ensures in
    record {
      made = subst (λ (places : List ℕ). All (λ place. place < length c.deref.result.now) places) (sym c.places.ensures)
          (subst (λ (all : List Reply). All (λ place. place < length all) c.args.needs.now.places) (sym c.deref.ensures.value) (places_within c.args.machines.now c.args.local.now c.args.needs.now made c.requires each));
    }

pub returns : goal.returns
returns g c =
    let made : List Reply = c.in_ok-made.made.items in
    let each = subst (λ (table : List Need). AllZip (IsIdleReply c.args.machines.now c.args.local.now) table made) c.table.ensures c.in_ok-made.ensures in
    IfOk-weaker c.by_class.result (λ all. AllZip (IsMade c.deref.result.now) c.places.result.now all.items) (λ all. AreRepliesAt c.args.machines.now c.args.local.now c.args.needs.now all.items)
    (λ all are.
    are_replies_at c.args.machines.now c.args.local.now c.args.needs.now made all.items each
    (subst (λ (places : List ℕ). AllZip (IsMade made) places all.items) c.places.ensures (subst (λ (some : List Reply). AllZip (IsMade some) c.places.result.now all.items) c.deref.ensures.value are))) c.by_class.ensures
