-- Lemmas on what a run adds to a history.
use Rattle.std.proofs.Common.{◌≡◌, ℕ, Bool, true, false, if◌then◌else◌, List, [], ◌∷◌, ◌++◌, reverse, Option, Some, None, refl, sym, ap, ◌∙◌, subst, append_assoc}
use Rattle.std.proofs.Math.Logic.{∥∥₁_map}
use Rattle.std.proofs.lemmas.List.{append-nil}
use Rattle.std.specs.List.{filter_map, cons_option}
use Rattle.nd_history.specs.declared.entry.Entry.{Entry}
use Rattle.nd_history.specs.declared.entry.Entry.TheVariants.{Chosen, NoBuilder, Started, Down, Built, Failed, Stop, Drain, Enable}
use Rattle.nd_leases.specs.declared.ticket.Ticket.{Ticket}
use Rattle.nd_history.specs.declared.entry.Why.TheVariants.{NoWorker}
use Rattle.nd_history.specs.Premises.{Premises}
use Rattle.nd_history.specs.History.{current_of, has_stop}
use Rattle.nd_history.specs.Pumping.{step_drv, IsPumpStep, ArePumpSteps, HasPumped, HasPumpedBy}
use Rattle.nd_ledger.specs.Worlds.{World}
use Rattle.nd_receipts.specs.Made.{is_made}
use Rattle.nd_run_desk.specs.Abandoned.{is_manned, end_of, given_up_at, stop_after, last_entries, places_of}
use Rattle.nd_run_desk.specs.Steps.{IsRunStep, AreRunSteps, IsRunOf, RunsOn}

steps_append : (i : Premises) (history xs ys : List Entry) → AreRunSteps i history xs → AreRunSteps i (history ++ xs) ys → AreRunSteps i history (xs ++ ys)
steps_append i history [] ys first rest =
    let P : List Entry → Type 0 = λ h. AreRunSteps i h ys in
    subst P (append-nil history) rest
steps_append i history (e ∷ xs) ys first rest =
    let P : List Entry → Type 0 = λ h. AreRunSteps i h ys in
    (first.0, steps_append i (history ++ e ∷ []) xs ys first.1 (subst P (sym (append_assoc history (e ∷ []) xs)) rest))

-- ---- a run that goes on

pub runs_first : (o w : World) → o ≡ w → RunsOn o w
runs_first o w same =
    let P : World → Type 0 = λ x. RunsOn o x in
    subst P same (record { merely = ∣ record { inputs = refl; steps = []; grown = sym (append-nil o.history); each = tt } ∣₁ })

run_more : (o a b : World) (new : List Entry) → b.inputs ≡ a.inputs → b.history ≡ a.history ++ new → AreRunSteps a.inputs a.history new → IsRunOf o a → IsRunOf o b
run_more o a b new inputs grown each on =
    let P : Premises → Type 0 = λ i. AreRunSteps i a.history new in
    let Q : List Entry → Type 0 = λ h. AreRunSteps o.inputs h new in
    record {
      inputs = inputs ∙ on.inputs;
      steps = on.steps ++ new;
      grown = grown ∙ ap (λ h. h ++ new) on.grown ∙ append_assoc o.history on.steps new;
      each = steps_append o.inputs o.history on.steps new on.each (subst Q on.grown (subst P on.inputs each));
    }

runs_more : (o a b : World) (new : List Entry) → RunsOn o a → b.inputs ≡ a.inputs → b.history ≡ a.history ++ new → AreRunSteps a.inputs a.history new → RunsOn o b
runs_more o a b new on inputs grown each = record { merely = ∥∥₁_map on.merely (run_more o a b new inputs grown each) }

-- ---- one entry that a worker made

made_step : (i : Premises) (past : List Entry) (e : Entry) → is_made e ≡ true → IsRunStep i past e
made_step i past (Chosen d m s) is = absurd (cc)
made_step i past (NoBuilder d) is = absurd (cc)
made_step i past (Started d paths) is = tt
made_step i past (Down d) is = tt
made_step i past (Built d refs) is = tt
made_step i past (Failed d why) is = tt
made_step i past Stop is = absurd (cc)
made_step i past (Drain m) is = absurd (cc)
made_step i past (Enable m) is = absurd (cc)

pub runs_made : (o a b : World) (e : Entry) → RunsOn o a → b ≡ record a { history = a.history ++ e ∷ [] } → is_made e ≡ true → RunsOn o b
runs_made o a b e on grown is = runs_more o a b (e ∷ []) on (ap (λ (w : World). w.inputs) grown) (ap (λ (w : World). w.history) grown) (made_step a.inputs (reverse a.history) e is, tt)

-- ---- steps of a pump

pump_step : (i : Premises) (past : List Entry) (d : ℕ) (e : Entry) → step_drv e ≡ Some d → IsPumpStep i past e → IsRunStep i past e
pump_step i past d (Chosen e m s) about is = is
pump_step i past d (NoBuilder e) about is = is
pump_step i past d (Started e paths) about is = tt
pump_step i past d (Down e) about is = tt
pump_step i past d (Built e refs) about is = tt
pump_step i past d (Failed e why) about is = tt
pump_step i past d Stop about is = tt
pump_step i past d (Drain m) about is = absurd (cc)
pump_step i past d (Enable m) about is = absurd (cc)

pump_steps : (i : Premises) (history steps : List Entry) → ArePumpSteps i history steps → AreRunSteps i history steps
pump_steps i history [] h = tt
pump_steps i history (e ∷ steps) h = (pump_step i (reverse history) h.0.drv e h.0.step.about h.0, pump_steps i (history ++ e ∷ []) steps h.1)

pub runs_pumped : (o a b : World) → RunsOn o a → b.inputs ≡ a.inputs → HasPumped a.inputs a.history b.history → RunsOn o b
runs_pumped o a b on inputs pumped = runs_more o a b pumped.steps on inputs pumped.grown (pump_steps a.inputs a.history pumped.steps pumped.each)

pub runs_pumped_by : (o a b : World) (n : ℕ) → RunsOn o a → b.inputs ≡ a.inputs → HasPumpedBy a.inputs a.history b.history n → RunsOn o b
runs_pumped_by o a b n on inputs by = runs_pumped o a b on inputs by.pumped

-- ---- the ends of leases that no worker serves

one_given_up : (i : Premises) (history manned_past : List Entry) (manned : List (ℕ × ℕ)) (p : ℕ × ℕ) (rest : List Entry) → ((h : List Entry) → AreRunSteps i h rest) → AreRunSteps i history (cons_option (given_up_at manned manned_past p) rest)
one_given_up i history past manned p rest each = by (is_manned manned p) (current_of p.0 p.1 past)
  where
    by : (b : Bool) (o : Option Ticket) → AreRunSteps i history (cons_option (if b then None else end_of o) rest)
    by true o = each history
    by false None = each history
    by false (Some t) = (tt, each (history ++ Failed t.drv NoWorker ∷ []))

all_given_up : (i : Premises) (past : List Entry) (manned : List (ℕ × ℕ)) (places : List (ℕ × ℕ)) (history : List Entry) → AreRunSteps i history (filter_map (given_up_at manned past) places)
all_given_up i past manned [] history = tt
all_given_up i past manned (p ∷ places) history = one_given_up i history past manned p (filter_map (given_up_at manned past) places) (λ h. all_given_up i past manned places h)

stop_step : (i : Premises) (history : List Entry) (b : Bool) → AreRunSteps i history (if b then [] else Stop ∷ [])
stop_step i history true = tt
stop_step i history false = (tt, tt)

pub runs_abandoned : (o a b : World) (manned : List (ℕ × ℕ)) → RunsOn o a → b ≡ record a { history = a.history ++ last_entries a.inputs manned (reverse a.history) } → RunsOn o b
runs_abandoned o a b manned on grown =
    let past = reverse a.history in
    let stop = stop_after past in
    let ends = filter_map (given_up_at manned past) (places_of a.inputs) in
    runs_more o a b (last_entries a.inputs manned past) on (ap (λ (w : World). w.inputs) grown) (ap (λ (w : World). w.history) grown)
    (steps_append a.inputs a.history stop ends (stop_step a.inputs a.history (has_stop past)) (all_given_up a.inputs past manned (places_of a.inputs) (a.history ++ stop)))
