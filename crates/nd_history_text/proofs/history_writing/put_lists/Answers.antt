use Rattle.std.proofs.Common.{◌≡◌, ℕ, ◌≤◌, List, length, get_or, refl, arith}
use Rattle.nd_history_text.specs.HistoryTexts.{output_words}
use Rattle.nd_history_text.specs.Lines.{spaced}
use Rattle.nd_devices.proofs.Sent.{no_text, put_renamed, item_put, item_refused, items_put}
use Rattle.nd_history_text.proofs.Spelled.{lists_spaced}
use Rattle.nd_history_text.proofs.history_writing.put_lists.Goals as goal

pub loop-list-init : goal.loop-list-init
loop-list-init g c = no_text _ _ _ _ _ refl

pub loop-list-preserved : goal.loop-list-preserved
loop-list-preserved g c =
    let is : c.list-item.result ≡ get_or c.args.lists.now c.loop-list.list-index c.list-item.result = c.list-item.is in
    item_put _ (λ (list : List (List ℕ)). spaced (output_words list)) _ _ _ _ _ _ c.args.lists.now c.loop-list.list-index _ _ _ c.loop-list-test.true is c.loop-list.invariant c.in_ok-put_list.ensures

pub returns-in_err-put_list : goal.returns-in_err-put_list
returns-in_err-put_list g c =
    let is : c.list-item.result ≡ get_or c.args.lists.now c.loop-list.list-index c.list-item.result = c.list-item.is in
    put_renamed _ _ _ _ _ _ _ _ (lists_spaced output_words c.args.lists.now) (item_refused _ (λ (list : List (List ℕ)). spaced (output_words list)) _ _ _ _ _ _ c.args.lists.now c.loop-list.list-index _ _ _ _ c.loop-list-test.true is c.from_residual.ensures.0
    c.loop-list.invariant c.in_err-put_list.ensures)

pub returns : goal.returns
returns g c =
    let past : length c.args.lists.now ≤ c.loop-list.list-index = omega arith in
    put_renamed _ _ _ _ _ _ _ _ (lists_spaced output_words c.args.lists.now) (items_put _ (λ (list : List (List ℕ)). spaced (output_words list)) _ _ _ _ c.args.lists.now c.loop-list.list-index _ past c.loop-list.invariant)
