-- Lemmas on how many entries workers made.
use Rattle.std.proofs.Common.{◌≡◌, ℕ, ◌+◌, Bool, true, false, cond, if◌then◌else◌, List, [], ◌∷◌, ◌++◌, reverse, count_by, Option, Some, None, refl, sym, ap, ◌∙◌, arith}
use Rattle.std.proofs.lemmas.Grind.{common_steps}
use Rattle.std.specs.List.{filter_map, cons_option}
use Rattle.nd_history.specs.declared.entry.Entry.{Entry}
use Rattle.nd_history.specs.declared.entry.Entry.TheVariants.{Chosen, NoBuilder, Started, Down, Built, Failed, Stop, Drain, Enable}
use Rattle.nd_leases.specs.declared.ticket.Ticket.{Ticket}
use Rattle.nd_history.specs.declared.entry.Why.TheVariants.{NoWorker}
use Rattle.nd_history.specs.Premises.{Premises}
use Rattle.nd_history.specs.History.{current_of, has_stop}
use Rattle.nd_history.specs.Pumping.{step_drv, ArePumpSteps, HasPumped, HasPumpedBy}
use Rattle.nd_history.proofs.Slots.{count_cons}
use Rattle.nd_run_desk.specs.Abandoned.{is_manned, end_of, given_up_at, stop_after, last_entries, places_of}
use Rattle.nd_receipts.specs.Made.{is_made, made}

-- the counts of two parts add up
pub made_append : (xs ys : List Entry) → made (xs ++ ys) ≡ made xs + made ys
made_append [] ys = grind (arith, common_steps)
made_append (x ∷ xs) ys =
    count_cons is_made x (xs ++ ys) ∙ by (is_made x) (made_append xs ys) ∙ ap (λ n. n + made ys) (sym (count_cons is_made x xs))
  where
    by : (b : Bool) → made (xs ++ ys) ≡ made xs + made ys → cond b (made (xs ++ ys) + 1) (made (xs ++ ys)) ≡ cond b (made xs + 1) (made xs) + made ys
    by true h = omega arith
    by false h = h

-- one more entry that a worker made
pub made_one : (old new : List Entry) (e : Entry) → new ≡ old ++ e ∷ [] → is_made e ≡ true → made new ≡ made old + 1
made_one old new e grown is =
    ap made grown ∙ made_append old (e ∷ []) ∙ ap (λ n. made old + n) (count_cons is_made e [] ∙ ap (λ b. cond b (count_by is_made [] + 1) (count_by is_made [])) is)

-- none of them was made by a worker
no_step_made : (d : ℕ) (e : Entry) → step_drv e ≡ Some d → is_made e ≡ false
no_step_made d (Chosen e m s) h = refl
no_step_made d (NoBuilder e) h = refl
no_step_made d (Started e paths) h = cc
no_step_made d (Down e) h = cc
no_step_made d (Built e refs) h = cc
no_step_made d (Failed e why) h = cc
no_step_made d Stop h = cc
no_step_made d (Drain m) h = cc
no_step_made d (Enable m) h = cc

steps_made : (i : Premises) (history steps : List Entry) → ArePumpSteps i history steps → made steps ≡ 0
steps_made i history [] h = grind (arith, common_steps)
steps_made i history (e ∷ steps) h =
    count_cons is_made e steps ∙ ap (λ b. cond b (made steps + 1) (made steps)) (no_step_made h.0.drv e h.0.step.about) ∙ steps_made i (history ++ e ∷ []) steps h.1

pub pumped_made : (i : Premises) (old new : List Entry) → HasPumped i old new → made new ≡ made old
pumped_made i old new h = let none = steps_made i old h.steps h.each in let sum = made_append old h.steps in ap made h.grown ∙ omega arith

pub pumped_by_made : (i : Premises) (old new : List Entry) (n : ℕ) → HasPumpedBy i old new n → made new ≡ made old
pumped_by_made i old new n h = pumped_made i old new h.pumped

one_given_up : (manned : List (ℕ × ℕ)) (past : List Entry) (p : ℕ × ℕ) (rest : List Entry) → made (cons_option (given_up_at manned past p) rest) ≡ made rest
one_given_up manned past p rest = by (is_manned manned p) (current_of p.0 p.1 past)
  where
    by : (b : Bool) (o : Option Ticket) → made (cons_option (if b then None else end_of o) rest) ≡ made rest
    by true o = refl
    by false None = refl
    by false (Some t) = count_cons is_made (Failed t.drv NoWorker) rest

given_up_made : (manned : List (ℕ × ℕ)) (past : List Entry) (places : List (ℕ × ℕ)) → made (filter_map (given_up_at manned past) places) ≡ 0
given_up_made manned past [] = grind (arith, common_steps)
given_up_made manned past (p ∷ places) = one_given_up manned past p (filter_map (given_up_at manned past) places) ∙ given_up_made manned past places

stop_made : (b : Bool) → made (if b then [] else Stop ∷ []) ≡ 0
stop_made true = grind (arith, common_steps)
stop_made false = count_cons is_made Stop [] ∙ grind (arith, common_steps)

-- what is recorded of leases without workers was not made by one
pub abandoned_made : (i : Premises) (manned : List (ℕ × ℕ)) (old new : List Entry) → new ≡ old ++ last_entries i manned (reverse old) → made new ≡ made old
abandoned_made i manned old new grown =
    let a = stop_made (has_stop (reverse old)) in
    let b = given_up_made manned (reverse old) (places_of i) in
    let sum = made_append (stop_after (reverse old)) (filter_map (given_up_at manned (reverse old)) (places_of i)) in
    let all = made_append old (last_entries i manned (reverse old)) in
    ap made grown ∙ omega arith
