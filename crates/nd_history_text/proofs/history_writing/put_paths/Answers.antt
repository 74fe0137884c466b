use Rattle.std.proofs.Common.{◌≡◌, ℕ, ◌≤◌, List, [], ◌∷◌, length, get_or, refl, arith}
use Rattle.nd_history_text.specs.Lines.{spaced}
use Rattle.nd_devices.proofs.Sent.{no_text, put_renamed, item_put, item_refused, items_put}
use Rattle.nd_history_text.proofs.Spelled.{paths_spaced}
use Rattle.nd_history_text.proofs.history_writing.put_paths.Goals as goal

pub loop-path-init : goal.loop-path-init
loop-path-init g c = no_text _ _ _ _ _ refl

pub loop-path-preserved : goal.loop-path-preserved
loop-path-preserved g c =
    let is : c.bytes.result.now ≡ get_or c.args.paths.now c.loop-path.path-index c.bytes.result.now = cc (c.path-item.is, c.bytes.ensures.value) in
    item_put _ (λ (path : List ℕ). spaced (path ∷ [])) _ _ _ _ _ _ c.args.paths.now c.loop-path.path-index _ _ _ c.loop-path-test.true is c.loop-path.invariant c.in_ok-put_word.ensures

pub returns-in_err-put_word : goal.returns-in_err-put_word
returns-in_err-put_word g c =
    let is : c.bytes.result.now ≡ get_or c.args.paths.now c.loop-path.path-index c.bytes.result.now = cc (c.path-item.is, c.bytes.ensures.value) in
    put_renamed _ _ _ _ _ _ _ _ (paths_spaced c.args.paths.now) (item_refused _ (λ (path : List ℕ). spaced (path ∷ [])) _ _ _ _ _ _ c.args.paths.now c.loop-path.path-index _ _ _ _ c.loop-path-test.true is c.from_residual.ensures.0
    c.loop-path.invariant c.in_err-put_word.ensures)

pub returns : goal.returns
returns g c =
    let past : length c.args.paths.now ≤ c.loop-path.path-index = omega arith in
    put_renamed _ _ _ _ _ _ _ _ (paths_spaced c.args.paths.now) (items_put _ (λ (path : List ℕ). spaced (path ∷ [])) _ _ _ _ c.args.paths.now c.loop-path.path-index _ past c.loop-path.invariant)
