use Rattle.std.proofs.Common.{◌≡◌, ◌≤◌, ◌<◌, ◌∙◌, ℕ, List, ap, subst, get_or, length, arith}
use Rattle.nd_path_numbers.specs.Numbers.{row_in}
use Rattle.nd_path_numbers.specs.Searches.{IsCovered, AddsUnheld}
use Rattle.nd_path_numbers.proofs.Searched.{begun, gone_on, ended}
use Rattle.nd_path_numbers.proofs.searching.search.Goals as goal
use Rattle.nd_path_numbers.proofs.searching.search.Goals.{else-loop-next-test, then-loop-next-test+in_default}

pub loop-next-init : goal.loop-next-init
loop-next-init c =
    begun c.args.numbers.now.rows c.args.held.now.numbers c.args.seeds.now c.add_unheld.new.found
    (subst (λ (xs : List ℕ). AddsUnheld c.args.held.now.numbers xs c.add_unheld.new.found c.args.seeds.now) c.new-found.ensures c.in_ok-add_unheld.ensures.only)
    c.in_ok-add_unheld.ensures.all

pub loop-next-preserved : goal.loop-next-preserved
loop-next-preserved c =
    let within : c.loop-next.next < length c.loop-next.found = c.in-Some.ensures.0 in
    let row : c.row-row.result.now ≡ row_in c.args.numbers.now.rows (get_or c.loop-next.found c.loop-next.next 0) =
    c.row-row.ensures ∙ ap (row_in c.args.numbers.now.rows) c.in-Some.ensures.1 in
    gone_on c.args.numbers.now.rows c.args.held.now.numbers c.args.seeds.now c.loop-next.found c.add_unheld-in-loop-next.new.found c.loop-next.next c.loop-next.invariant within
    (subst (λ (rs : List ℕ). AddsUnheld c.args.held.now.numbers c.loop-next.found c.add_unheld-in-loop-next.new.found rs) row c.in_ok-add_unheld-2.ensures.only)
    (subst (λ (rs : List ℕ). IsCovered rs c.args.held.now.numbers c.add_unheld-in-loop-next.new.found) row c.in_ok-add_unheld-2.ensures.all)

pub returns : goal.returns
returns c =
    let all : length c.loop-next.found ≤ c.loop-next.next = (elim c.loop-next-test.branch [
      | else-loop-next-test w ↦ omega (arith, c.len-len.ensures)
      | then-loop-next-test+in_default w ↦ w.in_default.ensures
    ]) in
    ended c.args.numbers.now.rows c.args.held.now.numbers c.args.seeds.now c.loop-next.found c.loop-next.next c.loop-next.invariant all
