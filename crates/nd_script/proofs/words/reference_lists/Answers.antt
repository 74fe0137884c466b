use Rattle.std.proofs.Common.{◌≡◌, List, ℕ, [], ap, sym, subst, ◌∙◌, arith}
use Rattle.std.proofs.lemmas.Grind.{common_steps}
use Rattle.std.proofs.result.Match.{err_is}
use Rattle.std.specs.Option.{option_copied}
use Rattle.nd_bytes.specs.Cut.{pieces}
use Rattle.nd_script.proofs.Lists.{IsListing, list_mark, list_path, listed, no_lists}
use Rattle.nd_script.proofs.words.reference_lists.Goals as goal

pub returns-in_err-path_of-clause-refused : goal.returns-in_err-path_of-clause-refused
returns-in_err-path_of-clause-refused c =
    rw (err_is c.from_residual-in_err-path_of.result _ c.from_residual-in_err-path_of.ensures.1)
    (no_lists (pieces 32 (option_copied c.args.words)) c.loop-left.sets.items c.loop-left.paths.items (pieces 32 (option_copied c.loop-left.left))
    (pieces 32 (option_copied c.cut-in-Some-left.result.1)) c.cut-in-Some-left.result.0.now c.in_err-path_of.field-0.0 c.loop-left.invariant
    (ap (pieces 32) (ap option_copied c.in-Some-left.is) ∙ c.cut-in-Some-left.ensures.whole) (sym c.if-is_mark.ensures) c.in_err-path_of.ensures.refused)

pub loop-left-preserved-in_ok-push : goal.loop-left-preserved-in_ok-push
loop-left-preserved-in_ok-push c =
    rw (c.in_ok-push.ensures.items, c.new-paths-then-is_mark.ensures.items)
    (list_mark (pieces 32 (option_copied c.args.words)) c.loop-left.sets.items c.loop-left.paths.items (pieces 32 (option_copied c.loop-left.left))
    (pieces 32 (option_copied c.cut-in-Some-left.result.1)) c.in_ok-from_vec.field-0 c.cut-in-Some-left.result.0.now c.loop-left.invariant
    (ap (pieces 32) (ap option_copied c.in-Some-left.is) ∙ c.cut-in-Some-left.ensures.whole) (sym c.if-is_mark.ensures)
    c.in_ok-from_vec.ensures.members c.in_ok-from_vec.ensures.rising)

pub loop-left-preserved : goal.loop-left-preserved
loop-left-preserved c =
    rw c.in_ok-push-2.ensures.items
    (list_path (pieces 32 (option_copied c.args.words)) c.loop-left.sets.items c.loop-left.paths.items (pieces 32 (option_copied c.loop-left.left))
    (pieces 32 (option_copied c.cut-in-Some-left.result.1)) c.cut-in-Some-left.result.0.now c.in_ok-path_of.field-0 c.loop-left.invariant
    (ap (pieces 32) (ap option_copied c.in-Some-left.is) ∙ c.cut-in-Some-left.ensures.whole) (sym c.if-is_mark.ensures) c.in_ok-path_of.ensures.found c.in_ok-path_of.ensures.path)

pub returns-clause-found : goal.returns-clause-found
returns-clause-found c =
    let none : pieces 32 (option_copied c.loop-left.left) ≡ [] = grind (arith, common_steps) in
    rw (c.new.ensures, c.in_ok-push-3.ensures.items)
    (listed (pieces 32 (option_copied c.args.words)) c.loop-left.sets.items c.loop-left.paths.items c.in_ok-from_vec-2.field-0
    (subst (λ (left : List (List ℕ)). IsListing (pieces 32 (option_copied c.args.words)) c.loop-left.sets.items c.loop-left.paths.items left) none c.loop-left.invariant)
    c.in_ok-from_vec-2.ensures.members c.in_ok-from_vec-2.ensures.rising)
