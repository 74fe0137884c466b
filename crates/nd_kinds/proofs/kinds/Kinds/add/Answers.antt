use Rattle.std.proofs.Common.{◌∷◌, [], length, ap, ◌∙◌, arith}
use Rattle.std.proofs.lemmas.List.{length-append}
use Rattle.nd_kinds.proofs.KindFacts.{kept_added, pushed_ranged}
use Rattle.nd_kinds.proofs.kinds.Kinds.add.Goals as goal

pub invariant_of-self-in_err-add_users : goal.invariant_of-self-in_err-add_users
invariant_of-self-in_err-add_users c =
    let kept = kept_added c.self.inside.numbers.items c.self.inside.kinds.items c.self.inside.users c.push.new.self.items c.add_users.new.users c.args.kind c.in_ok-push.ensures.items
    c.len-number.result (c.len-number.ensures ∙ c.self.inside.kinds.ok.0) c.in_err-add_users.ensures.adds c.self.invariant.numbers c.self.invariant.users in
    record { numbers = kept.0; users = kept.1 }

pub invariant_of-self-in_err-push-2 : goal.invariant_of-self-in_err-push-2
invariant_of-self-in_err-push-2 c =
    let kept = kept_added c.self.inside.numbers.items c.self.inside.kinds.items c.self.inside.users c.push.new.self.items c.add_users.new.users c.args.kind c.in_ok-push.ensures.items
    c.len-number.result (c.len-number.ensures ∙ c.self.inside.kinds.ok.0) c.in_ok-add_users.ensures.adds c.self.invariant.numbers c.self.invariant.users in
    record { numbers = rw c.in_err-push-2.ensures.items kept.0; users = kept.1 }

pub invariant_of-self-2 : goal.invariant_of-self-2
invariant_of-self-2 c =
    let kept = kept_added c.self.inside.numbers.items c.self.inside.kinds.items c.self.inside.users c.push.new.self.items c.add_users.new.users c.args.kind c.in_ok-push.ensures.items
    c.len-number.result (c.len-number.ensures ∙ c.self.inside.kinds.ok.0) c.in_ok-add_users.ensures.adds c.self.invariant.numbers c.self.invariant.users in
    record {
      numbers = rw c.in_ok-push-2.ensures.items (pushed_ranged c.self.inside.numbers.items c.len-number.result (length c.push.new.self.items) kept.0
          (let is = ap length c.in_ok-push.ensures.items in let more = length-append c.self.inside.kinds.items (c.args.kind ∷ []) in let small = c.len-number.ensures ∙ c.self.inside.kinds.ok.0 in omega (arith, is, more, small)));
      users = kept.1;
    }
