use Rattle.std.proofs.Common.{◌≡◌, ◌∷◌, ◌++◌, [], sym, ◌∙◌}
use Rattle.std.proofs.lemmas.List.Elements.{Contains-push}
use Rattle.nd_closure.proofs.Members.{member_by_test, inserted}
use Rattle.nd_closure.proofs.Additions.{adds_one, holds_more, holds_grown}
use Rattle.nd_closure.proofs.closures.add_all.Goals as goal

pub loop-path-preserved-then-contains : goal.loop-path-preserved-then-contains
loop-path-preserved-then-contains c = record {
  only = c.loop-path.invariant.only;
  all = holds_more c.loop-path.found.keys c.args.paths.now c.loop-path.path-index c.path-item.result c.loop-path-test.true c.path-item.is
      c.loop-path.invariant.all ((member_by_test c.loop-path.found.keys c.path-item.result).0 (sym c.contains.ensures ∙ c.if-contains.true));
}

pub loop-path-preserved : goal.loop-path-preserved
loop-path-preserved c =
    let keys : c.insert.new.self.keys ≡ c.loop-path.found.keys ++ c.path-item.result ∷ [] =
    c.in_ok-insert.ensures.keys
    ∙ inserted c.loop-path.found.keys c.in_ok-try_clone.field-0 c.path-item.result c.in_ok-try_clone.ensures (sym c.contains.ensures ∙ c.if-contains.false) in
    record {
      only = rw keys (adds_one c.args.found.now.keys c.loop-path.found.keys c.args.paths.now c.path-item.result c.loop-path.invariant.only
          (c.loop-path.path-index, c.loop-path-test.true, sym c.path-item.is));
      all = rw keys (holds_more (c.loop-path.found.keys ++ c.path-item.result ∷ []) c.args.paths.now c.loop-path.path-index c.path-item.result
          c.loop-path-test.true c.path-item.is (holds_grown c.loop-path.found.keys (c.path-item.result ∷ []) _ c.loop-path.invariant.all)
          (Contains-push c.loop-path.found.keys c.path-item.result));
    }
