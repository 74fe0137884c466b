use Rattle.std.proofs.Common.{arith, ◌≡◌, ◌++◌, ◌∷◌, [], append_assoc, length, ap, subst, sym, ◌∙◌, ℕ}
use Rattle.std.proofs.lemmas.Grind.{common_steps}
use Rattle.std.specs.Vec.Iter.{into_iter_items}
use Rattle.nd_cli.proofs.Sharing.{AreFirst, all_first, first_more}
use Rattle.nd_cli.proofs.shares.join_shares.Goals as goal

pub loop-share-preserved : goal.loop-share-preserved
loop-share-preserved c =
    let parts = c.loop-share.invariant.whole ∙ ap (λ rest. c.loop-share.yielded ++ rest) c.in-Some.ensures.steps.0 in
    record {
      first = λ machines local size are.
          first_more machines local size c.args.firsts.now c.args.shares.items c.loop-share.yielded (into_iter_items c.next.new.self) c.in-Some.share c.in_ok-share.share c.loop-share.replies.items c.append.new.self.items are parts c.in_ok-share.was c.in_ok-append.ensures.items
          (c.loop-share.invariant.first machines local size are);
      whole = parts ∙ sym (append_assoc c.loop-share.yielded (c.in-Some.share ∷ []) (into_iter_items c.next.new.self));
    }

pub returns : goal.returns
returns c = λ machines local size are.
    let whole : c.args.shares.items ≡ c.loop-share.yielded = let ended = c.in-None.ensures.steps in grind (arith, common_steps) in
    all_first machines local size c.args.firsts.now c.args.shares.items c.loop-share.replies.items are
    (subst (λ (n : ℕ). AreFirst machines local size c.args.firsts.now n c.loop-share.replies.items) (sym (ap (λ xs. length xs) whole)) (c.loop-share.invariant.first machines local size are))
