use Rattle.std.proofs.Common.{◌≡◌, ◌≤◌, ◌<◌, ◌∷◌, ◌++◌, [], List, ℕ, length, get_or, subst, sym, ap, ◌∙◌, take, ◌+◌, inl, inr, true≢false}
use Rattle.std.proofs.lemmas.Bool.{cases_lt}
use Rattle.std.proofs.lemmas.Grind.{get_or_default_zero}
use Rattle.std.proofs.lemmas.List.{take_all}
use Rattle.std.proofs.lemmas.Option.{get_or_from_slice_get}
use Rattle.std.proofs.lemmas.Result.{IfOk-weaker}
use Rattle.nd_path.specs.PathSets.{HasSameMembers}
use Rattle.nd_path_numbers.specs.Numbers.{Numbered, path_in, Gathers, IsSetOf}
use Rattle.nd_path_numbers.proofs.Growing.{gathers_more, gathers_past, gathered}
use Rattle.nd_path_numbers.proofs.path_numbers.PathNumbers.set_of.Goals as goal

at : (numbers : List ℕ) (i : ℕ) → i < length numbers → get_or numbers i 0 ≡ get_or numbers i (get_or numbers i 0)
at numbers i lt = sym (get_or_default_zero numbers i (get_or numbers i 0) lt)

pub loop-number-preserved-in_default : goal.loop-number-preserved-in_default
loop-number-preserved-in_default c =
    let same : c.self.inside.paths.keys ≡ c.args.self.now.paths = ap (λ (n : Numbered). n.paths) c.self.view_is in
    let past : length c.self.inside.paths.keys ≤ (get_or c.args.numbers.now c.loop-number.number-index 0) = (elim (cases_lt (get_or c.args.numbers.now c.loop-number.number-index 0) (length c.self.inside.paths.keys)) [
      | inl lt ↦ absurd (true≢false (sym (c.in_default.ensures.found.1 lt)))
      | inr le ↦ le
    ]) in
    gathers_past c.args.self.now.paths c.args.numbers.now c.loop-number.number-index (get_or c.args.numbers.now c.loop-number.number-index 0) c.loop-number.paths.items c.loop-number-test.true (at c.args.numbers.now c.loop-number.number-index c.loop-number-test.true)
    (subst (λ (ps : List (List ℕ)). length ps ≤ (get_or c.args.numbers.now c.loop-number.number-index 0)) same past)

pub loop-number-preserved : goal.loop-number-preserved
loop-number-preserved c =
    let same : c.self.inside.paths.keys ≡ c.args.self.now.paths = ap (λ (n : Numbered). n.paths) c.self.view_is in
    let named : path_in c.args.self.now.paths (get_or c.args.numbers.now c.loop-number.number-index 0) ≡ c.in-Some.path.now =
    subst (λ (ps : List (List ℕ)). path_in ps (get_or c.args.numbers.now c.loop-number.number-index 0) ≡ c.in-Some.path.now) same (get_or_from_slice_get c.self.inside.paths.keys (get_or c.args.numbers.now c.loop-number.number-index 0) c.in-Some.path.now [] (sym c.in-Some.ensures.key)) in
    subst (λ (xs : List (List ℕ)). Gathers c.args.self.now.paths (take (c.loop-number.number-index + 1) c.args.numbers.now) xs)
    (sym (c.in_ok-push.ensures.items ∙ ap (λ (x : List ℕ). c.loop-number.paths.items ++ x ∷ []) c.in_ok-try_clone.ensures))
    (gathers_more c.args.self.now.paths c.args.numbers.now c.loop-number.number-index (get_or c.args.numbers.now c.loop-number.number-index 0) c.loop-number.paths.items c.in-Some.path.now c.loop-number-test.true (at c.args.numbers.now c.loop-number.number-index c.loop-number-test.true) named c.loop-number.invariant)

pub returns : goal.returns
returns c =
    IfOk-weaker c.from_vec.result (HasSameMembers c.loop-number.paths.items) (IsSetOf c.args.self.now.paths c.args.numbers.now)
    (λ s same. gathered c.args.self.now.paths c.args.numbers.now c.loop-number.paths.items s
    (subst (λ (ns : List ℕ). Gathers c.args.self.now.paths ns c.loop-number.paths.items) (take_all c.loop-number.number-index c.args.numbers.now c.loop-number-test.false) c.loop-number.invariant) same)
    c.from_vec.ensures.members
