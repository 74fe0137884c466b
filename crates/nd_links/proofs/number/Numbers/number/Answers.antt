use Rattle.std.proofs.Common.{◌≡◌, ℕ, ◌+◌, length, refl, Some, Bool, true, false, List, [], ◌∷◌, ◌++◌, if◌then◌else◌, sym, ap, ◌∙◌}
use Rattle.std.specs.List.{list_any}
use Rattle.std.proofs.lemmas.List.{append_assoc}
use Rattle.std.specs.Vec.Iter.{into_iter_items}
use Rattle.nd_path.specs.StorePath.{path_eq}
use Rattle.nd_links.proofs.Numbering.{adds_more, adds_twice, was_new, was_there}
use Rattle.nd_links.proofs.number.Numbers.number.Goals as goal

pub loop-path-preserved : goal.loop-path-preserved
loop-path-preserved c =
    let old : List (List ℕ) = c.loop-path.self.paths.keys in
    let seen : List (List ℕ) = c.loop-path.yielded in
    let path : List ℕ = c.in-Some.path in
    let fresh : list_any (path_eq path) old ≡ false = was_new (list_any (path_eq path) old) c.in_ok-insert.field-0 c.in_ok-insert.ensures.added c.if-not-branch.false in
    record {
      adds = adds_more c.args.self.now c.loop-path.self (record { paths = c.insert.new.self; repeat = c.loop-path.self.repeat }) seen path c.loop-path.invariant.adds c.loop-path.invariant.none c.loop-path.invariant.none fresh
          (c.in_ok-insert.ensures.keys ∙ ap (λ (b : Bool). if b then old else old ++ path ∷ []) fresh);
      none = c.loop-path.invariant.none;
      whole = c.loop-path.invariant.whole ∙ ap (λ (rest : List (List ℕ)). seen ++ rest) c.in-Some.ensures.steps.0 ∙ sym (append_assoc seen (path ∷ []) (into_iter_items c.next.new.self));
    }

pub returns-then-not-branch : goal.returns-then-not-branch
returns-then-not-branch c =
    let old : List (List ℕ) = c.loop-path.self.paths.keys in
    let path : List ℕ = c.in-Some.path in
    let found : list_any (path_eq path) old ≡ true = was_there (list_any (path_eq path) old) c.in_ok-insert.field-0 c.in_ok-insert.ensures.added c.if-not-branch.true in
    let kept : c.insert.new.self.keys ≡ old = c.in_ok-insert.ensures.keys ∙ ap (λ (b : Bool). if b then old else old ++ path ∷ []) found in
    adds_twice c.args.self.now c.loop-path.self (record { paths = c.insert.new.self; repeat = Some (c.len-then-not-branch.result + 1) }) c.args.paths.items c.loop-path.yielded (into_iter_items c.next.new.self) path (c.len-then-not-branch.result + 1)
    c.loop-path.invariant.adds c.loop-path.invariant.none (c.loop-path.invariant.whole ∙ ap (λ (rest : List (List ℕ)). c.loop-path.yielded ++ rest) c.in-Some.ensures.steps.0) found refl
    (ap (λ (n : ℕ). n + 1) (c.len-then-not-branch.ensures.len ∙ ap (λ (ks : List (List ℕ)). length ks) kept))
